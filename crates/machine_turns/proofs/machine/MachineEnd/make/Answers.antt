use Rattle.machine_turns.proofs.Turning.{made-fresh}
use Rattle.machine_turns.proofs.machine.MachineEnd.make.Goals as goal

pub returns : goal.returns
returns g c = made-fresh c.in_ok-core.core.end _ c.in_ok-framers.framers.items c.args.ports c.in_ok-core.ensures c.in_ok-framers.ensures
