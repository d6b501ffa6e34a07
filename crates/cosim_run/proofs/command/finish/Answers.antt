use Rattle.std.proofs.Common.{[], refl, subst}
use Rattle.run_texts.specs.Endings.{IsEnding}
use Rattle.run_texts.specs.Texts.{uarts_from}
use Rattle.run_texts.proofs.Printing.{run-printed}
use Rattle.cosim_run.proofs.command.finish.Goals as goal

pub returns-clause-finished : goal.returns-clause-finished
returns-clause-finished c =
    let e = c.args.driven.end.clear in
    record {
      text = run-printed (record { master = e.master; devices = []; calls = e.calls; tick = e.tick; history = [] })
          c.args.driven.config.ports e.calls e.master e.tick c.in_ok-end.end refl refl refl
          (subst (λ ports. IsEnding e.calls e.master e.tick (uarts_from 0 ports) c.in_ok-end.end) c.as_slice.ensures
          c.in_ok-end.ensures);
      driven = refl;
    }
