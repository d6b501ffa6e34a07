use Rattle.std.proofs.Common.{◌≡◌, ◌≤◌, ◌^◌, drop}
use Rattle.rv_asm.specs.Numbers.{numeral_after, kept}
use Rattle.rv_asm.proofs.numbers.digits.Given as goal

abbrev pub invariant-loop-byte : goal.invariant-loop-byte
invariant-loop-byte l =
    (l.value ≤ 2 ^ 32) × (kept (numeral_after l.radix 0 l.text) ≡ kept (numeral_after l.radix l.value (drop l.byte-index l.text)))
