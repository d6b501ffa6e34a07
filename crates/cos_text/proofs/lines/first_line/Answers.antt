use Rattle.std.proofs.Common.{[], ◌∷◌, sym, ap, ◌∙◌, option_copied}
use Rattle.cos_text.specs.Lines.{lines}
use Rattle.cos_text.proofs.LineSteps.{lines-with, lines-alone, after-shorter}
use Rattle.cos_text.proofs.lines.first_line.Goals as goal

pub returns-in-Some-clause-lines : goal.returns-in-Some-clause-lines
returns-in-Some-clause-lines c =
    lines-with c.args.text.now c.in-Some.rest.now c.requires (sym c.cut.ensures.back ∙ ap option_copied c.in-Some.is) ∙ ap (λ l. l ∷ lines c.in-Some.rest.now) (sym c.cut.ensures.front)

pub returns-in-Some-clause-shorter : goal.returns-in-Some-clause-shorter
returns-in-Some-clause-shorter c =
    after-shorter 10 c.args.text.now c.in-Some.rest.now c.requires (sym c.cut.ensures.back ∙ ap option_copied c.in-Some.is)

pub returns-in-None-clause-lines : goal.returns-in-None-clause-lines
returns-in-None-clause-lines c =
    lines-alone c.args.text.now c.requires (sym c.cut.ensures.back ∙ ap option_copied c.in-None.is) ∙ ap (λ l. l ∷ []) (sym c.cut.ensures.front)
