use Rattle.std.proofs.Common.{◌≡◌, sym, ◌∙◌}
use Rattle.cos_memory.proofs.CallLaws.{fails-listed}
use Rattle.std.specs.declared.option.Option.TheVariants.{None}
use Rattle.cos_memory.specs.MemStores.{store_of}
use Rattle.cos_memory.proofs.mem_files.MemFilesFiles.read.Goals as goal

pub returns-then-is_failing-clause-calls : goal.returns-then-is_failing-clause-calls
returns-then-is_failing-clause-calls c =
    fails-listed _ _ _ (store_of c.args.self.now.files.items c.args.name.now ≡ None) c.in_ok-ask.ensures.calls (sym c.is_failing.ensures.listed ∙ c.if-is_failing.true) c.fail.ensures.next c.fail.ensures.failing
