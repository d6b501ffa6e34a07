use Rattle.outcomes.specs.Seen.{seen}
use Rattle.cosim_local.proofs.Closing.{run-comes, run-names}
use Rattle.cosim_local.proofs.command.finish.Goals as goal

pub returns-in-Ok-run-clause-ok : goal.returns-in-Ok-run-clause-ok
returns-in-Ok-run-clause-ok g c =
    let planned = c.in-Ok.ensures.ok in
    let f = seen g.F.Files.count g.F.Files.told c.args.files.now c.read_planned.new.files in
    record {
      stands = planned.stands;
      comes = run-comes f.old c.args.name.now c.args.order c.in-Ok.planned c.in-Ok-run.finished planned.are planned.is
          c.in-Ok-run.ensures.finished;
      names = run-names f.old c.args.name.now c.in-Ok.planned c.in-Ok-run.finished planned.are
          c.in-Ok-run.ensures.finished;
    }
