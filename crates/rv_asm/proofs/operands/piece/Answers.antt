use Rattle.std.proofs.Common.{Some, option_copied, ap, sym, ◌∙◌, arith}
use Rattle.std.specs.List.{slice_get}
use Rattle.rv_asm.specs.Texts.{between_commas}
use Rattle.rv_asm.proofs.Commas.{slice_get-first, slice_get-next, slice_get-last}
use Rattle.rv_asm.proofs.operands.piece.Goals as goal

pub returns-in-None : goal.returns-in-None
returns-in-None c =
    sym (c.commas.invariant ∙ slice_get-last c.commas.rest.now c.commas.left c.commas-test.true (sym c.cut.ensures.back ∙ ap option_copied c.in-None.is))

pub commas-preserved : goal.commas-preserved
commas-preserved c =
    c.commas.invariant ∙ slice_get-next c.commas.rest.now c.in-Some.after.now c.commas.left c.commas-test.true (sym c.cut.ensures.back ∙ ap option_copied c.in-Some.is)

pub returns : goal.returns
returns c =
    ap Some c.cut-2.ensures.front ∙ sym (slice_get-first c.commas.rest.now) ∙ ap (slice_get (between_commas c.commas.rest.now)) (omega arith) ∙ sym c.commas.invariant
