use Rattle.std.proofs.Common.{inr, refl}
use Rattle.std.proofs.lemmas.Result.{err_from_is_err_and}
use Rattle.cosim_run.proofs.Running.{ill-runs, well-fails, well-prints, well-stops}
use Rattle.cosim_run.proofs.command.run.Goals as goal

pub returns-in_err-driven : goal.returns-in_err-driven
returns-in_err-driven g c =
    let p = err_from_is_err_and c.from_residual.result c.from_residual.ensures.1 in
    rw (p.1, p.2)
    (inr (ill-runs c.args.config.now c.args.program.now _ c.in-Ok.parts c.in-Ok.ensures.ok c.in-Ok.ensures.asks
    c.in_err-driven.field-0.0 c.in_err-driven.ensures.err (record { count = refl; same = refl })
    c.in_err-driven.ensures.soundly))

pub returns-in_err-finished : goal.returns-in_err-finished
returns-in_err-finished g c =
    let p = err_from_is_err_and c.from_residual-in_err-finished.result c.from_residual-in_err-finished.ensures.1 in
    rw (p.1, p.2)
    (inr (well-stops c.args.config.now c.args.program.now _ c.in-Ok.parts c.in-Ok.ensures.ok c.in-Ok.ensures.asks
    c.in_ok-driven.driven c.in_ok-driven.ensures.ok (record { count = refl; same = refl })))

pub returns-in_err-put_finished : goal.returns-in_err-put_finished
returns-in_err-put_finished g c =
    let p = err_from_is_err_and c.from_residual-in_err-put_finished.result c.from_residual-in_err-put_finished.ensures.1 in
    rw (p.1, p.2)
    (inr (well-fails c.args.config.now c.args.program.now _ c.in-Ok.parts c.in-Ok.ensures.ok c.in-Ok.ensures.asks
    c.in_ok-driven.driven c.in_ok-finished.finished c.in_err-put_finished.field-0.0 c.in_ok-driven.ensures.ok
    c.in_ok-finished.ensures.finished c.in_err-put_finished.ensures.puts c.in_err-put_finished.ensures.is_sound))

pub returns : goal.returns
returns g c =
    inr (well-prints c.args.config.now c.args.program.now _ c.in-Ok.parts c.in-Ok.ensures.ok c.in-Ok.ensures.asks
    c.in_ok-driven.driven c.in_ok-finished.finished c.in_ok-driven.ensures.ok c.in_ok-finished.ensures.finished
    c.in_ok-put_finished.ensures.puts c.in_ok-put_finished.ensures.is_sound)
