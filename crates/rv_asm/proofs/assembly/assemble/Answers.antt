use Rattle.std.proofs.Common.{◌≡◌, [], ◌∷◌, ◌++◌, List, ℕ, Option, Some, None, Ok, ap, sym, ◌∙◌}
use Rattle.rv_asm.specs.Labelled.{lines_of}
use Rattle.rv_asm.specs.Programs.{Placed, program}
use Rattle.rv_asm.specs.Statements.{word_of_line}
use Rattle.rv_asm.specs.Views.{left, seen}
use Rattle.rv_asm.proofs.Assembling.{assembles-push, without-word}
use Rattle.rv_asm.proofs.FirstLabels.{moved}
use Rattle.rv_asm.proofs.assembly.assemble.Goals as goal

pub lines-preserved-in-Continue-branch-2 : goal.lines-preserved-in-Continue-branch-2
lines-preserved-in-Continue-branch-2 c =
    let lines : List Placed = program c.args.origin c.args.text.now in
    let line : Placed = seen c.in-Some.line in
    let same : lines_of c.in_ok-labels.labels ≡ lines = c.in_ok-labels.ensures ∙ ap (program c.args.origin) c.as_bytes-text.ensures.value in
    let judged : word_of_line lines line ≡ Ok (Some c.in-Ok-Some.word) =
    sym (ap (λ ls. word_of_line ls line) same) ∙ sym c.word_of_line.ensures ∙ c.in-Ok-Some.is ∙ ap (λ (o : Option ℕ). Ok o) c.in-Ok-Some.field-0-is in (
      c.lines.invariant.0 ++ line ∷ [],
      moved lines c.lines.invariant.0 line (left c.lines.lines) (left c.next.new.self) c.lines.invariant.1 c.in-Some.ensures,
      assembles-push lines c.lines.invariant.0 line c.lines.words c.push.new.self (Some c.in-Ok-Some.word) c.lines.invariant.2 judged (c.in_ok-push-in-Ok-Some.ensures.ok ∙ ap (λ w. c.lines.words ++ w ∷ []) c.in-Ok-Some.word-is),
    )

pub lines-preserved : goal.lines-preserved
lines-preserved c =
    let lines : List Placed = program c.args.origin c.args.text.now in
    let line : Placed = seen c.in-Some.line in
    let same : lines_of c.in_ok-labels.labels ≡ lines = c.in_ok-labels.ensures ∙ ap (program c.args.origin) c.as_bytes-text.ensures.value in
    let judged : word_of_line lines line ≡ Ok None =
    sym (ap (λ ls. word_of_line ls line) same) ∙ sym c.word_of_line.ensures ∙ c.in-Ok-None.is ∙ ap (λ (o : Option ℕ). Ok o) c.in-Ok-None.field-0-is in (
      c.lines.invariant.0 ++ line ∷ [],
      moved lines c.lines.invariant.0 line (left c.lines.lines) (left c.next.new.self) c.lines.invariant.1 c.in-Some.ensures,
      assembles-push lines c.lines.invariant.0 line c.lines.words c.lines.words None c.lines.invariant.2 judged (without-word c.lines.words),
    )
