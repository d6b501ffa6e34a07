use Rattle.std.proofs.Common.{◌≡◌, sym, ◌∙◌, ap, inl, inr, take}
use Rattle.std.proofs.lemmas.List.{take_all}
use Rattle.sys_ram.specs.Pages.{written_from}
use Rattle.sys_ram.proofs.Writing.{written_from-next, written_from-front}
use Rattle.sys_ram.proofs.page.merge.Goals as goal
use Rattle.sys_ram.proofs.page.merge.Goals.{then-is_enabled, else-is_enabled}

pub bytes-preserved : goal.bytes-preserved
bytes-preserved c =
    written_from-next c.args.old.now c.args.bytes.now c.args.enables.now c.args.first c.bytes.i c.bytes.old c.if-is_enabled.old
    c.requires.same c.bytes-test.true c.bytes.invariant
    (elim c.if-is_enabled.branch [
      | then-is_enabled w ↦ inl (sym c.is_enabled.ensures ∙ w.if-is_enabled.true, w.old-is)
      | else-is_enabled w ↦ inr (sym c.is_enabled.ensures ∙ w.if-is_enabled.false, w.old-is)
    ])

pub returns : goal.returns
returns c =
    let whole : take c.bytes.i c.args.bytes.now ≡ c.args.bytes.now = take_all c.bytes.i c.args.bytes.now c.bytes-test.false in
    c.bytes.invariant
    ∙ ap (λ new. written_from c.args.old.now 0 new c.args.enables.now c.args.first) whole
    ∙ written_from-front c.args.old.now c.args.bytes.now c.args.enables.now c.args.first c.requires.same
