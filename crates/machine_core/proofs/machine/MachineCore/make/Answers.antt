use Rattle.std.proofs.Common.{arith}
use Rattle.machine_core.proofs.Fresh.{made-machine}
use Rattle.machine_core.proofs.machine.MachineCore.make.Goals as goal

pub invariant_of-result : goal.invariant_of-result
invariant_of-result g c = (
  c.in_ok-place.ensures,
  made-machine g.M.Master.model c.args.master c.args.ports c.args.plan _ _ _ c.requires.free c.requires.reach
      c.requires.quantum (omega (arith, c.ranges.ports.fits)) c.first_phase.ensures c.in_ok-list.ensures c.make-2.ensures.calls,
)
