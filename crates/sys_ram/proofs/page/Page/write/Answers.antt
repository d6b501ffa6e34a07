use Rattle.std.proofs.Common.{◌≡◌, sym, ◌∙◌, ap, arith, length, []}
use Rattle.std.proofs.lemmas.Bool.{eqb-true}
use Rattle.std.proofs.lemmas.List.{nil_from_length}
use Rattle.sys_ram.specs.Pages.{written_from}
use Rattle.sys_ram.proofs.Writing.{written_from-all}
use Rattle.sys_ram.proofs.page.Page.write.Goals as goal

pub returns-then-is_empty : goal.returns-then-is_empty
returns-then-is_empty c =
    let none : c.args.enables.now ≡ [] = nil_from_length c.args.enables.now (eqb-true (length c.args.enables.now) 0 (sym c.is_empty.ensures ∙ c.if-is_empty.true)) in
    c.overwrite.ensures.bytes
    ∙ sym (written_from-all c.args.self.now c.args.at c.args.bytes.now c.args.first (omega (arith, c.overwrite.ensures.long, c.requires.here)))
    ∙ ap (λ es. written_from c.args.self.now c.args.at c.args.bytes.now es c.args.first) (sym none)
