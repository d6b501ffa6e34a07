use Rattle.std.proofs.Common.{◌≡◌, ◌++◌, ◌∷◌, [], sym, ap, ◌∙◌, subst, append_assoc, length-append, arith}
use Rattle.std.proofs.lemmas.List.{append-nil}
use Rattle.cos_text.specs.Lines.{lines}
use Rattle.cos_schedules.specs.Texts.{AllSpell}
use Rattle.cos_schedules.proofs.Texts.{no-lines, one-list, spelled-more}
use Rattle.cos_schedules.proofs.steps.read_steps.Goals as goal

pub lines-preserved : goal.lines-preserved
lines-preserved c =
    let so_far = c.lines.invariant.spelled in
    let line = c.first_line.result.0.now in
    let more = c.in_ok-add.ensures in
    let behind = lines c.first_line.result.1.now in
    let lines_are = so_far.1 ∙ ap (λ ls. so_far.0 ++ ls) c.first_line.ensures.lines in
    let spelled = spelled-more c.args.ports so_far.0 c.lines.steps line more.0 so_far.3 more.1 in
    record {
      counted = (let a = c.lines.invariant.counted in let b = c.first_line.ensures.shorter in omega arith);
      spelled = (
        so_far.0 ++ line ∷ [],
        lines_are ∙ sym (append_assoc so_far.0 (line ∷ []) behind),
        omega (arith, so_far.2, length-append so_far.0 (line ∷ [])),
        subst (λ ss. AllSpell c.args.ports (so_far.0 ++ line ∷ []) ss) (sym more.2) spelled,
      );
    }

pub returns : goal.returns
returns c =
    let so_far = c.lines.invariant.spelled in
    let none = no-lines c.lines.rest.now (c.lines-test.ensures) in
    let all : lines c.args.text.now ≡ so_far.0 = so_far.1 ∙ ap (λ ls. so_far.0 ++ ls) none ∙ append-nil so_far.0 in
    let spelled = subst (λ ls. AllSpell c.args.ports ls c.lines.steps) (sym all) so_far.3 in
    (spelled, λ others. one-list c.args.ports (lines c.args.text.now) c.lines.steps others (omega arith) spelled)
