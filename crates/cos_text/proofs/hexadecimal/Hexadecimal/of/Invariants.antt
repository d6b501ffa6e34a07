use Rattle.std.proofs.Common.{◌+◌, ◌≡◌, ◌<◌, ◌≤◌, ◌^◌, false, drop, length}
use Rattle.std.specs.Fmt.{digits_onto}
use Rattle.cos_text.specs.Numbers.{hexadecimal}
use Rattle.cos_text.proofs.hexadecimal.Hexadecimal.of.Given as goal

abbrev pub invariant-digits : goal.invariant-digits
invariant-digits l =
    (length l.digits ≡ 16) × (l.start ≤ 15) × (l.front < 16 ^ (l.start + 1))
    × (hexadecimal l.number ≡ digits_onto (l.start + 49) 16 false l.front (drop (l.start + 1) l.digits))

abbrev pub decreases-digits : goal.decreases-digits
decreases-digits l = l.front
