use Rattle.std.proofs.Common.{subst, ap, ◌∙◌}
use Rattle.dev_disk.specs.Works.{IsRunning, sector_of}
use Rattle.dev_disk.specs.Disks.{DiskRegisters}
use Rattle.dev_disk.specs.KeepingLaws.{fed-bad}
use Rattle.dev_disk.proofs.disk.DiskDevice.feed.Goals as goal

pub returns-clause-bad : goal.returns-clause-bad
returns-clause-bad c sector bad =
    let runs = subst (λ (s : DiskRegisters). IsRunning s.sector s.count s.engine s.sectors s.bad) c.self.view_is c.self.invariant.1 in
    ap (λ (s : DiskRegisters). sector_of s.sectors sector) c.serve.ensures.fed
    ∙ fed-bad c.args.self.now c.args.reply c.serve.ensures.long runs sector bad
