use Rattle.std.proofs.Common.{refl}
use Rattle.std.proofs.lemmas.Result.{err_from_is_err_and}
use Rattle.std.specs.declared.result.Result.TheVariants.{Ok, Err}
use Rattle.outcomes.proofs.Asking.{inputs-ask, run-asks}
use Rattle.cosim_inputs.specs.declared.refusals.InputsRefusal.{InputsRefusal}
use Rattle.cosim_direct.specs.Directs.{direct_names}
use Rattle.outcomes.proofs.Performing.{inputs-perform, text-performs}
use Rattle.cosim_direct.proofs.Coming.{one-comes}
use Rattle.cosim_direct.proofs.command.direct.Goals as goal

pub returns-in_err-finished-clause-performs : goal.returns-in_err-finished-clause-performs
returns-in_err-finished-clause-performs g c =
    let p = err_from_is_err_and c.from_residual.result c.from_residual.ensures.1 in
    rw (p.1, p.2)
    (inputs-perform _ _ _ _ _ c.in_err-finished.field-0.0 c.in_err-finished.ensures.err (record { count = refl; same = refl }) (λ sound. c.in_err-finished.ensures.is_sound sound.0)
    (λ sound. one-comes _ c.args.name.now (g.met.F.Files.sound_tells c.args.files.now sound.0)))

pub returns-in_err-put_finished-clause-performs : goal.returns-in_err-put_finished-clause-performs
returns-in_err-put_finished-clause-performs g c =
    let p = err_from_is_err_and c.from_residual-in_err-put_finished.result c.from_residual-in_err-put_finished.ensures.1 in
    rw (p.1, p.2)
    (text-performs _ _ _ _ _ _ (Err c.in_err-put_finished.field-0.0) c.in_ok-finished.ensures.ok.comes c.in_ok-finished.ensures.ok.stands c.in_err-put_finished.ensures.puts
    (λ sound. c.in_err-put_finished.ensures.is_sound sound.1) (λ sound. one-comes _ c.args.name.now (g.met.F.Files.sound_tells c.args.files.now sound.0)))

pub returns-clause-performs : goal.returns-clause-performs
returns-clause-performs g c =
    text-performs _ _ _ _ _ _ (Ok tt) c.in_ok-finished.ensures.ok.comes c.in_ok-finished.ensures.ok.stands c.in_ok-put_finished.ensures.puts
    (λ sound. c.in_ok-put_finished.ensures.is_sound sound.1) (λ sound. one-comes _ c.args.name.now (g.met.F.Files.sound_tells c.args.files.now sound.0))

pub returns-in_err-finished-clause-asks : goal.returns-in_err-finished-clause-asks
returns-in_err-finished-clause-asks g c =
    let p = err_from_is_err_and c.from_residual.result c.from_residual.ensures.1 in
    rw (p.1, p.2) (inputs-ask (direct_names c.args.name.now) _ c.in_err-finished.field-0.0 c.in_err-finished.ensures.asks)

pub returns-in_err-put_finished-clause-asks : goal.returns-in_err-put_finished-clause-asks
returns-in_err-put_finished-clause-asks g c =
    let p = err_from_is_err_and c.from_residual-in_err-put_finished.result c.from_residual-in_err-put_finished.ensures.1 in
    rw (p.1, p.2) (run-asks InputsRefusal (direct_names c.args.name.now) _ (Err c.in_err-put_finished.field-0.0) c.in_ok-finished.ensures.asks)

pub returns-clause-asks : goal.returns-clause-asks
returns-clause-asks g c = run-asks InputsRefusal (direct_names c.args.name.now) _ (Ok tt) c.in_ok-finished.ensures.asks
