use Rattle.std.proofs.Common.{sym, ap, ◌∙◌}
use Rattle.std.specs.declared.option.Option.TheVariants.{Some}
use Rattle.cos_memory.proofs.Stored.{read-at, read-none}
use Rattle.cos_memory.proofs.mem_files.MemFiles.copy_of.Goals as goal

pub returns-in_ok-copy-in-Some : goal.returns-in_ok-copy-in-Some
returns-in_ok-copy-in-Some c =
    sym (read-at c.args.name.now c.args.self.now.files.items _ c.index.result.now (sym c.in-Some.ensures)
    ∙ ap (λ bytes. Some bytes) (ap (λ f. f.bytes.bytes) (sym c.index.ensures) ∙ sym c.in_ok-copy-in-Some.ensures.bytes))

pub returns-in-None : goal.returns-in-None
returns-in-None c = sym (read-none c.args.name.now c.args.self.now.files.items (sym c.in-None.ensures))
