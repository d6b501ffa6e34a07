use Rattle.std.proofs.Common.{◌≡◌, drop}
use Rattle.rv_asm.specs.Texts.{are_name_bytes}
use Rattle.rv_asm.proofs.texts.name_bytes.Given as goal

abbrev pub invariant-loop-byte : goal.invariant-loop-byte
invariant-loop-byte l = are_name_bytes l.text ≡ are_name_bytes (drop l.byte-index l.text)
