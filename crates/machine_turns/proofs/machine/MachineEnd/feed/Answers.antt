use Rattle.machine_turns.specs.RunLaws.{feeds-run}
use Rattle.machine_turns.proofs.machine.MachineEnd.feed.Goals as goal

pub returns-in-Ok-clause-runs : goal.returns-in-Ok-clause-runs
returns-in-Ok-clause-runs g c =
    feeds-run g.M.Master.model c.args.port c.args.bytes.now c.args.self.now c.hold.new.self c.in-Ok.ensures.ok
