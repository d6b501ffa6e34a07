use Rattle.std.proofs.Common.{subst}
use Rattle.outcomes.specs.Outcomes.{Written}
use Rattle.outcomes.specs.Seen.{seen}
use Rattle.outcomes.specs.Steps.{IsWritten}
use Rattle.cosim_local.proofs.Writing.{one-written}
use Rattle.cosim_local.proofs.results.write_result.Goals as goal

pub returns-in-Some-Disk-clause-writes : goal.returns-in-Some-Disk-clause-writes
returns-in-Some-Disk-clause-writes g c =
    let f = seen g.F.Files.count g.F.Files.told c.args.files.now c.write_file.new.files in
    let w : Written = record { name = c.in-Some-Disk.name; bytes = c.in-Some-Disk.disk.sectors } in
    rw (c.in-Some-Disk.is-0, c.in-Some-Disk.is-1)
    (one-written f w c.write_file.result
    (subst (λ n. IsWritten f n w.bytes c.write_file.result) c.as_str.ensures
    (subst (λ b. IsWritten f c.as_str.result.now b c.write_file.result) c.sectors.ensures c.write_file.ensures.writes)))
