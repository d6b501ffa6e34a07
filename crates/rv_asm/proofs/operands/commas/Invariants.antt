use Rattle.std.proofs.Common.{◌≡◌, ◌+◌, ◌≤◌, length, drop}
use Rattle.rv_asm.specs.Texts.{between_commas}
use Rattle.rv_asm.proofs.operands.commas.Given as goal

abbrev pub invariant-loop-byte : goal.invariant-loop-byte
invariant-loop-byte l =
    (l.found + length (between_commas (drop l.byte-index l.text)) ≡ length (between_commas l.text)) × (l.found ≤ l.byte-index)
