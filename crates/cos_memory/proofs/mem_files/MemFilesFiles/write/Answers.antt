use Rattle.std.proofs.Common.{sym, ◌∙◌}
use Rattle.cos_memory.proofs.CallLaws.{fails-listed}
use Rattle.cos_memory.proofs.mem_files.MemFilesFiles.write.Goals as goal

pub returns-then-is_failing-clause-calls : goal.returns-then-is_failing-clause-calls
returns-then-is_failing-clause-calls c =
    fails-listed _ _ _ ⊥ c.in_ok-ask.ensures.calls (sym c.is_failing.ensures.listed ∙ c.if-is_failing.true) c.fail.ensures.next c.fail.ensures.failing
