use Rattle.std.proofs.Common.{◌≡◌}
use Rattle.rp_control.specs.Refusals.{numbers_in}
use Rattle.rp_control.proofs.hello.numbers_of.Given as goal

abbrev pub invariant-loop-i : goal.invariant-loop-i
invariant-loop-i l = l.numbers ≡ numbers_in l.i l.bytes
