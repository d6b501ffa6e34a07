use Rattle.std.proofs.Common.{[], sym, subst, Ok, Err}
use Rattle.std.proofs.lemmas.Result.{err_from_is_err_and}
use Rattle.outcomes.specs.Outcomes.{Works}
use Rattle.outcomes.proofs.Commands.{untouched-stands}
use Rattle.outcomes.proofs.Performing.{text-performs}
use Rattle.cosim_gen.specs.Generated.{GenComes}
use Rattle.cosim_gen.proofs.Ending.{one-comes}
use Rattle.cosim_gen.proofs.command.run_generated.Goals as goal

pub returns-in_err-put_text : goal.returns-in_err-put_text
returns-in_err-put_text g c = λ files same.
    let p = err_from_is_err_and c.from_residual-in_err-put_text.result c.from_residual-in_err-put_text.ensures.1 in
    let comes = subst (λ t. GenComes c.args.number (Works [] t)) (sym c.as_slice.ensures) c.in_ok-text.ensures in
    rw (p.1, p.2)
    (text-performs (GenComes c.args.number) files _ _ _ c.as_slice.result.now (Err c.in_err-put_text.field-0.0) comes
    (untouched-stands files same) c.in_err-put_text.ensures.puts c.in_err-put_text.ensures.is_sound
    (λ sound. one-comes c.args.number))

pub returns : goal.returns
returns g c = λ files same.
    let comes = subst (λ t. GenComes c.args.number (Works [] t)) (sym c.as_slice.ensures) c.in_ok-text.ensures in
    text-performs (GenComes c.args.number) files _ _ _ c.as_slice.result.now (Ok tt) comes (untouched-stands files same)
    c.in_ok-put_text.ensures.puts c.in_ok-put_text.ensures.is_sound (λ sound. one-comes c.args.number)
