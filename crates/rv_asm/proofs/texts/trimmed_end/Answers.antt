use Rattle.std.proofs.Common.{◌∙◌, sym}
use Rattle.rv_asm.proofs.Trims.{trim_end-blank_last, trim_end-kept_last}
use Rattle.rv_asm.proofs.texts.trimmed_end.Goals as goal

pub blanks-preserved : goal.blanks-preserved
blanks-preserved c =
    trim_end-blank_last c.blanks.rest.now c.in-len1-up.len_at_least (sym c.if-not-blank.false ∙ c.blank.ensures) ∙ c.blanks.invariant

pub returns-then-not-blank : goal.returns-then-not-blank
returns-then-not-blank c =
    sym (trim_end-kept_last c.blanks.rest.now c.in-len1-up.len_at_least (sym c.if-not-blank.true ∙ c.blank.ensures)) ∙ c.blanks.invariant
