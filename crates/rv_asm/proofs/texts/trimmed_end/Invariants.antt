use Rattle.std.proofs.Common.{◌≡◌, length}
use Rattle.rv_asm.specs.Texts.{trim_end}
use Rattle.rv_asm.proofs.texts.trimmed_end.Given as goal

abbrev pub invariant-blanks : goal.invariant-blanks
invariant-blanks l = trim_end l.rest ≡ trim_end l.text

abbrev pub decreases-blanks : goal.decreases-blanks
decreases-blanks l = length l.rest
