use Rattle.std.proofs.Common.{◌≡◌, None}
use Rattle.machine_core.proofs.Locals.{Taken}
use Rattle.machine_core.proofs.units.take_units.Given as goal

abbrev pub invariant-units : goal.invariant-units
invariant-units g l = record {
  free : g.M.Master.model.issued l.master ≡ None;
  taken : Taken g.M.Master.model l.fn.left l.left l.fn.master l.master;
}

abbrev pub decreases-units : goal.decreases-units
decreases-units g l = l.left
