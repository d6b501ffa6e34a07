use Rattle.std.proofs.Common.{Ok, Err, refl, subst}
use Rattle.std.proofs.lemmas.Result.{err_from_is_err_and}
use Rattle.outcomes.specs.Asked.{asking}
use Rattle.outcomes.specs.Seen.{seen}
use Rattle.outcomes.proofs.After.{both, joined-told}
use Rattle.outcomes.proofs.Asking.{both_asked, print-asks}
use Rattle.outcomes.proofs.Performing.{inputs-perform, printed-performs}
use Rattle.cosim_local.specs.declared.refusal.LocalRefusal.{LocalRefusal}
use Rattle.cosim_local.specs.Locals.{local_names, result_names}
use Rattle.cosim_local.specs.Results.{results_of}
use Rattle.cosim_local.specs.Steps.{AsksResults, WritesAll, devices_in}
use Rattle.cosim_local.proofs.OneComes.{one-comes}
use Rattle.cosim_local.proofs.Performing.{read-written, results-unwritten, unread-asks, results-asked, results-some}
use Rattle.cosim_local.proofs.command.local.Goals as goal

pub returns-in_err-finished-clause-performs : goal.returns-in_err-finished-clause-performs
returns-in_err-finished-clause-performs g c =
    let p = err_from_is_err_and c.from_residual.result c.from_residual.ensures.1 in
    rw (p.1, p.2)
    (inputs-perform _ _ _ _ _ c.in_err-finished.field-0.0 c.in_err-finished.ensures.err
    (record { count = refl; same = refl }) (λ sound. (c.in_err-finished.ensures.is_sound sound.0).1)
    (λ sound. one-comes _ c.args.name.now c.args.order (g.met.F.Files.sound_tells c.args.files.now sound.0)))

pub returns-in_err-write_results-clause-performs : goal.returns-in_err-write_results-clause-performs
returns-in_err-write_results-clause-performs g c =
    let p = err_from_is_err_and c.from_residual-in_err-write_results.result c.from_residual-in_err-write_results.ensures.1 in
    let f = seen g.F.Files.count g.F.Files.told c.args.files.now c.finish.new.files in
    let h = seen g.F.Files.count g.F.Files.told c.finish.new.files c.write_results.new.files in
    let devices = devices_in c.in_ok-finished.finished.world in
    let results = results_of c.in_ok-finished.finished.config.ports devices in
    let run = c.in_ok-finished.ensures.ok in
    let writes = subst (λ ps. WritesAll (results_of ps devices) h (Err c.in_err-write_results.field-0.0)) c.as_slice.ensures c.in_err-write_results.ensures.writes in
    rw (p.1, p.2)
    (results-unwritten _ f h _ _ _ results _ c.in_err-write_results.field-0.0 run.comes run.stands refl refl writes
    (record { count = refl; same = refl })
    (λ sound. (c.in_err-write_results.ensures.is_sound (c.in_ok-finished.ensures.is_sound sound.0).0).1))

pub returns-in_err-put_finished-clause-performs : goal.returns-in_err-put_finished-clause-performs
returns-in_err-put_finished-clause-performs g c =
    let p = err_from_is_err_and c.from_residual-in_err-put_finished.result c.from_residual-in_err-put_finished.ensures.1 in
    let f = seen g.F.Files.count g.F.Files.told c.args.files.now c.finish.new.files in
    let h = seen g.F.Files.count g.F.Files.told c.finish.new.files c.write_results.new.files in
    let devices = devices_in c.in_ok-finished.finished.world in
    let results = results_of c.in_ok-finished.finished.config.ports devices in
    let run = c.in_ok-finished.ensures.ok in
    let writes = subst (λ ps. WritesAll (results_of ps devices) h (Ok tt)) c.as_slice.ensures c.in_ok-write_results.ensures.writes in
    rw (p.1, p.2)
    (printed-performs _ (both f h) _ _ _ results _ (Err c.in_err-put_finished.field-0.0) run.comes
    (read-written f h results run.stands refl refl writes) c.in_err-put_finished.ensures.puts
    (λ sound. c.in_err-put_finished.ensures.is_sound sound.1)
    (λ sound. one-comes _ c.args.name.now c.args.order (g.met.F.Files.sound_tells c.args.files.now sound.0)))

pub returns-clause-performs : goal.returns-clause-performs
returns-clause-performs g c =
    let f = seen g.F.Files.count g.F.Files.told c.args.files.now c.finish.new.files in
    let h = seen g.F.Files.count g.F.Files.told c.finish.new.files c.write_results.new.files in
    let devices = devices_in c.in_ok-finished.finished.world in
    let results = results_of c.in_ok-finished.finished.config.ports devices in
    let run = c.in_ok-finished.ensures.ok in
    let writes = subst (λ ps. WritesAll (results_of ps devices) h (Ok tt)) c.as_slice.ensures c.in_ok-write_results.ensures.writes in
    printed-performs _ (both f h) _ _ _ results _ (Ok tt) run.comes
    (read-written f h results run.stands refl refl writes) c.in_ok-put_finished.ensures.puts
    (λ sound. c.in_ok-put_finished.ensures.is_sound sound.1)
    (λ sound. one-comes _ c.args.name.now c.args.order (g.met.F.Files.sound_tells c.args.files.now sound.0))

pub returns-in_err-finished-clause-asks : goal.returns-in_err-finished-clause-asks
returns-in_err-finished-clause-asks g c =
    let p = err_from_is_err_and c.from_residual.result c.from_residual.ensures.1 in
    rw (p.1, p.2)
    (unread-asks (local_names c.args.name.now c.args.order) (result_names c.args.name.now) _
    c.in_err-finished.field-0.0 c.in_err-finished.ensures.asks)

pub returns-in_err-write_results-clause-asks : goal.returns-in_err-write_results-clause-asks
returns-in_err-write_results-clause-asks g c =
    let p = err_from_is_err_and c.from_residual-in_err-write_results.result c.from_residual-in_err-write_results.ensures.1 in
    let f = seen g.F.Files.count g.F.Files.told c.args.files.now c.finish.new.files in
    let h = seen g.F.Files.count g.F.Files.told c.finish.new.files c.write_results.new.files in
    let a = asking g.F.Files.told g.F.Files.asked c.args.files.now c.finish.new.files in
    let b = asking g.F.Files.told g.F.Files.asked c.finish.new.files c.write_results.new.files in
    let devices = devices_in c.in_ok-finished.finished.world in
    let results = results_of c.in_ok-finished.finished.config.ports devices in
    let run = c.in_ok-finished.ensures.ok in
    let asks = subst (λ ps. AsksResults (results_of ps devices) b (Err c.in_err-write_results.field-0.0)) c.as_slice.ensures c.in_err-write_results.ensures.asks in
    rw (p.1, p.2)
    (results-some LocalRefusal (local_names c.args.name.now c.args.order) (result_names c.args.name.now) a b results
    c.in_err-write_results.field-0.0 run.names (joined-told f h run.stands refl, refl) c.in_ok-finished.ensures.asks asks)

pub returns-in_err-put_finished-clause-asks : goal.returns-in_err-put_finished-clause-asks
returns-in_err-put_finished-clause-asks g c =
    let p = err_from_is_err_and c.from_residual-in_err-put_finished.result c.from_residual-in_err-put_finished.ensures.1 in
    let f = seen g.F.Files.count g.F.Files.told c.args.files.now c.finish.new.files in
    let h = seen g.F.Files.count g.F.Files.told c.finish.new.files c.write_results.new.files in
    let a = asking g.F.Files.told g.F.Files.asked c.args.files.now c.finish.new.files in
    let b = asking g.F.Files.told g.F.Files.asked c.finish.new.files c.write_results.new.files in
    let devices = devices_in c.in_ok-finished.finished.world in
    let results = results_of c.in_ok-finished.finished.config.ports devices in
    let run = c.in_ok-finished.ensures.ok in
    let asks = subst (λ ps. AsksResults (results_of ps devices) b (Ok tt)) c.as_slice.ensures c.in_ok-write_results.ensures.asks in
    rw (p.1, p.2)
    (print-asks LocalRefusal (local_names c.args.name.now c.args.order) (result_names c.args.name.now) (both_asked a b)
    (Err c.in_err-put_finished.field-0.0)
    (results-asked (local_names c.args.name.now c.args.order) (result_names c.args.name.now) a b results run.names
    (joined-told f h run.stands refl, refl) c.in_ok-finished.ensures.asks asks))

pub returns-clause-asks : goal.returns-clause-asks
returns-clause-asks g c =
    let f = seen g.F.Files.count g.F.Files.told c.args.files.now c.finish.new.files in
    let h = seen g.F.Files.count g.F.Files.told c.finish.new.files c.write_results.new.files in
    let a = asking g.F.Files.told g.F.Files.asked c.args.files.now c.finish.new.files in
    let b = asking g.F.Files.told g.F.Files.asked c.finish.new.files c.write_results.new.files in
    let devices = devices_in c.in_ok-finished.finished.world in
    let results = results_of c.in_ok-finished.finished.config.ports devices in
    let run = c.in_ok-finished.ensures.ok in
    let asks = subst (λ ps. AsksResults (results_of ps devices) b (Ok tt)) c.as_slice.ensures c.in_ok-write_results.ensures.asks in
    print-asks LocalRefusal (local_names c.args.name.now c.args.order) (result_names c.args.name.now) (both_asked a b) (Ok tt)
    (results-asked (local_names c.args.name.now c.args.order) (result_names c.args.name.now) a b results run.names
    (joined-told f h run.stands refl, refl) c.in_ok-finished.ensures.asks asks)
