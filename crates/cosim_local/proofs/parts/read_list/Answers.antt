use Rattle.std.proofs.Common.{Ok, Err}
use Rattle.outcomes.specs.Seen.{seen}
use Rattle.cosim_local.proofs.Having.{spelled}
use Rattle.cosim_local.proofs.parts.read_list.Goals as goal

pub returns-in-Ok-steps_of-clause-ok : goal.returns-in-Ok-steps_of-clause-ok
returns-in-Ok-steps_of-clause-ok g c =
    let f = seen g.F.Files.count g.F.Files.told c.args.files.now c.read_file.new.files in
    record {
      stands = c.in-Ok.ensures.ok.stands;
      is = spelled f c.args.ports c.args.file.now _ _ (Ok c.in-Ok-steps_of.steps) c.in-Ok.ensures.ok c.as_slice.ensures
          c.in-Ok-steps_of.ensures;
    }

pub returns-in-Err-Refused-clause-err : goal.returns-in-Err-Refused-clause-err
returns-in-Err-Refused-clause-err g c =
    let f = seen g.F.Files.count g.F.Files.told c.args.files.now c.read_file.new.files in (
      c.in-Ok.ensures.ok.stands,
      spelled f c.args.ports c.args.file.now _ _ (Err c.in-Err-Refused.line) c.in-Ok.ensures.ok c.as_slice.ensures
          (rw c.in-Err-Refused.field-0-is at c.in-Err-Refused.ensures),
    )
