use Rattle.std.proofs.Common.{◌-◌}
use Rattle.direct_machine.proofs.Running.{Running}
use Rattle.direct_machine.proofs.machine.to_end.Given as goal

abbrev pub invariant-units : goal.invariant-units
invariant-units g l = Running g.M.Master.model g.D.Device.model l.order l.plan l.fn.run l.run l.next

abbrev pub decreases-units : goal.decreases-units
decreases-units g l = l.plan.units - l.run.tick
