use Rattle.std.proofs.Common.{◌∙◌, ap, sym, Some}
use Rattle.rv_asm.specs.Labelled.{lines_of}
use Rattle.rv_asm.specs.Readings.{reached}
use Rattle.rv_asm.proofs.Capped.{target-read}
use Rattle.rv_asm.proofs.Reaches.{target-found}
use Rattle.rv_asm.proofs.targets.target.Goals as goal

pub returns-in-Some : goal.returns-in-Some
returns-in-Some c =
    c.reached.ensures ∙ target-read (lines_of c.args.labels.now) c.args.source c.args.low c.args.high c.args.text.now (Some c.in-Some.number) c.requires.low c.requires.high (sym c.in-Some.is ∙ c.read_number.ensures)

pub returns-in-Some-find : goal.returns-in-Some-find
returns-in-Some-find c =
    c.reached-in-Some-find.ensures
    ∙ ap (reached c.args.low c.args.high) c.distance.ensures
    ∙ target-found (lines_of c.args.labels.now) c.args.source c.args.low c.args.high c.args.text.now c.in-Some-find.place c.requires.low c.requires.high (sym c.in_default.is ∙ c.read_number.ensures) (sym c.has_name_form.ensures ∙ c.if-not-has_name_form.false) (sym c.in-Some-find.is ∙ c.find.ensures)
