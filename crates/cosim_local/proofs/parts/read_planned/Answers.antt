use Rattle.std.proofs.Common.{refl}
use Rattle.outcomes.specs.Asked.{asking}
use Rattle.outcomes.specs.Seen.{seen}
use Rattle.outcomes.proofs.After.{joined-told}
use Rattle.cosim_local.proofs.Having.{order-lacks, are-found}
use Rattle.cosim_local.proofs.Naming.{parts-ask, order-asks}
use Rattle.cosim_local.proofs.parts.read_planned.Goals as goal

pub returns-in-Err-clause-asks : goal.returns-in-Err-clause-asks
returns-in-Err-clause-asks g c =
    let f = seen g.F.Files.count g.F.Files.told c.args.files.now c.read_parts.new.files in
    let a = asking g.F.Files.told g.F.Files.asked c.args.files.now c.read_parts.new.files in
    rw c.inputs_fault.ensures
    (parts-ask f c.args.name.now c.args.order a c.in-Err.fault refl c.in-Err.ensures.err c.in-Err.ensures.asks)

pub returns-in-Err-read_schedule-clause-asks : goal.returns-in-Err-read_schedule-clause-asks
returns-in-Err-read_schedule-clause-asks g c =
    let f = seen g.F.Files.count g.F.Files.told c.args.files.now c.read_parts.new.files in
    let h = seen g.F.Files.count g.F.Files.told c.read_parts.new.files c.read_schedule.new.files in
    let a = asking g.F.Files.told g.F.Files.asked c.args.files.now c.read_parts.new.files in
    let b = asking g.F.Files.told g.F.Files.asked c.read_parts.new.files c.read_schedule.new.files in
    order-asks c.args.name.now c.args.order c.in-Ok.parts.config a b c.in-Err-read_schedule.fault
    (are-found f.old c.args.name.now c.in-Ok.parts c.in-Ok.ensures.ok.are)
    (joined-told f h c.in-Ok.ensures.ok.stands refl, refl) c.in-Ok.ensures.asks c.in-Err-read_schedule.ensures.asks

pub returns-in-Err-read_schedule-clause-is_sound : goal.returns-in-Err-read_schedule-clause-is_sound
returns-in-Err-read_schedule-clause-is_sound g c = λ is.
    let f = seen g.F.Files.count g.F.Files.told c.args.files.now c.read_parts.new.files in
    let h = seen g.F.Files.count g.F.Files.told c.read_parts.new.files c.read_schedule.new.files in
    let sound = c.in-Err-read_schedule.ensures.is_sound (c.in-Ok.ensures.is_sound is).0 in (
      sound.0,
      order-lacks f h c.args.name.now c.args.order c.in-Ok.parts.config _ c.in-Err-read_schedule.fault c.len-ports.ensures
          c.in-Ok.ensures.ok.stands (are-found f.old c.args.name.now c.in-Ok.parts c.in-Ok.ensures.ok.are) refl sound.1,
    )
