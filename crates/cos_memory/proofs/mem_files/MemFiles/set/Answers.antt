use Rattle.std.proofs.Common.{sym, subst, string_bytes}
use Rattle.cos_base.specs.Stores.{IsWith}
use Rattle.cos_memory.specs.MemStores.{store_of}
use Rattle.cos_memory.proofs.Stored.{set-with, add-with}
use Rattle.cos_memory.proofs.mem_files.MemFiles.set.Goals as goal

pub returns-in-Some-clause-files : goal.returns-in-Some-clause-files
returns-in-Some-clause-files c = set-with c.as_str.result.now c.args.self.now.files.items _ c.args.file (sym c.as_str.ensures.value) (sym c.in-Some.ensures)

pub returns-in-Ok-clause-files : goal.returns-in-Ok-clause-files
returns-in-Ok-clause-files c =
    subst (λ l. IsWith (store_of c.args.self.now.files.items) (string_bytes c.args.file.name) c.args.file.bytes.bytes (store_of l)) (sym c.in-Ok.ensures.items)
    (add-with c.as_str.result.now c.args.self.now.files.items c.args.file (sym c.as_str.ensures.value) (sym c.in-None.ensures))
