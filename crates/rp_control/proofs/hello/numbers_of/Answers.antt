use Rattle.std.proofs.Common.{◌∙◌, ◌∷◌, ◌++◌, [], ap, sym, add-one}
use Rattle.rp_control.specs.Refusals.{numbers_in}
use Rattle.rp_control.specs.ControlLaws.{numbers_in-more}
use Rattle.rp_control.proofs.hello.numbers_of.Goals as goal

pub loop-i-preserved : goal.loop-i-preserved
loop-i-preserved c =
    let i = c.loop-i.i in
    let bytes = c.args.bytes.now in
    c.in_ok-push.ensures.ok
    ∙ ap (λ ns. ns ++ c.u32_at.result ∷ []) c.loop-i.invariant
    ∙ ap (λ n. numbers_in i bytes ++ n ∷ []) c.u32_at.ensures
    ∙ sym (numbers_in-more i bytes) ∙ ap (λ n. numbers_in n bytes) (sym (add-one i))
