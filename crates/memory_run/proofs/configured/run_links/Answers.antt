use Rattle.memory_run.proofs.Silent.{silent}
use Rattle.memory_run.proofs.configured.run_links.Goals as goal

pub drive-requires-clause-unused : goal.drive-requires-clause-unused
drive-requires-clause-unused c = silent c.as_mut_slice.result.now
