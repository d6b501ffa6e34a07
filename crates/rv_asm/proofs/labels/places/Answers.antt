use Rattle.std.proofs.Common.{◌∷◌, ◌++◌, [], List, ℕ, cond, Some, option_copied, sym, ap, ◌∙◌}
use Rattle.std.proofs.lemmas.Map.Text.{btree_map_updates_str}
use Rattle.std.specs.Str.{bytes_eq}
use Rattle.rv_asm.specs.Programs.{Placed, program, first_with}
use Rattle.rv_asm.specs.Views.{left, seen}
use Rattle.rv_asm.specs.Places.{place_of}
use Rattle.rv_asm.proofs.FirstLabels.{moved, first_with-unlabelled, first_with-again, first_with-entered, found-copied, absent-copied}
use Rattle.rv_asm.proofs.labels.places.Goals as goal

pub lines-preserved-else-is_none : goal.lines-preserved-else-is_none
lines-preserved-else-is_none c =
    let passed : List Placed = c.lines.invariant.0 in
    let line : Placed = seen c.in-Some.line in
    let key : List ℕ = c.in-Some-label.name.now in (
      passed ++ line ∷ [],
      moved (program c.args.origin c.args.text.now) passed line (left c.lines.lines) (left c.next.new.self) c.lines.invariant.1 c.in-Some.ensures,
      λ name. c.lines.invariant.2 name ∙ ap place_of (sym (first_with-again name key passed line (ap option_copied c.in-Some-label.is) (found-copied c.get.result (place_of (first_with key passed)) (c.get.ensures.value ∙ c.lines.invariant.2 key) c.if-is_none.ensures))),
    )

pub lines-preserved-in-Ok : goal.lines-preserved-in-Ok
lines-preserved-in-Ok c =
    let passed : List Placed = c.lines.invariant.0 in
    let line : Placed = seen c.in-Some.line in
    let key : List ℕ = c.in-Some-label.name.now in (
      passed ++ line ∷ [],
      moved (program c.args.origin c.args.text.now) passed line (left c.lines.lines) (left c.next.new.self) c.lines.invariant.1 c.in-Some.ensures,
      λ name.
          btree_map_updates_str key c.lines.places c.insert.new.self _ c.in-Ok.ensures.updates name
          ∙ ap (cond (bytes_eq key name) (place_of (Some line))) (c.lines.invariant.2 name)
          ∙ first_with-entered name key passed line (ap option_copied c.in-Some-label.is) (absent-copied c.get.result (place_of (first_with key passed)) (c.get.ensures.value ∙ c.lines.invariant.2 key) c.if-is_none.ensures),
    )

pub lines-preserved : goal.lines-preserved
lines-preserved c =
    let passed : List Placed = c.lines.invariant.0 in
    let line : Placed = seen c.in-Some.line in (
      passed ++ line ∷ [],
      moved (program c.args.origin c.args.text.now) passed line (left c.lines.lines) (left c.next.new.self) c.lines.invariant.1 c.in-Some.ensures,
      λ name. c.lines.invariant.2 name ∙ ap place_of (sym (first_with-unlabelled name passed line (ap option_copied c.in_default-label.is))),
    )
