use Rattle.std.proofs.Common.{◌≡◌, length}
use Rattle.rv_asm.specs.Texts.{trim_start}
use Rattle.rv_asm.proofs.texts.trimmed_start.Given as goal

abbrev pub invariant-blanks : goal.invariant-blanks
invariant-blanks l = trim_start l.rest ≡ trim_start l.text

abbrev pub decreases-blanks : goal.decreases-blanks
decreases-blanks l = length l.rest
