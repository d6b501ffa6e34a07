use Rattle.std.proofs.Common.{◌≡◌, sym, ◌∙◌, ap, arith, length, ◌+◌, ◌*◌, ◌/◌, ◌%◌, ◌<◌, ℕ}
use Rattle.std.specs.declared.option.Option.TheVariants.{None}
use Rattle.std.proofs.lemmas.List.{length-replicate, get_or_default}
use Rattle.sys_ram.specs.Memory.{part_of}
use Rattle.sys_ram.specs.Pages.{memory_of, page_bytes}
use Rattle.sys_ram.proofs.Paging.{length-memory_of, memory_of-part}
use Rattle.sys_ram.proofs.pages.part.Goals as goal

pub bounds-pages-at : goal.bounds-pages-at
bounds-pages-at g c = omega (arith, length-memory_of c.args.pages.now c.requires.pages)

pub copy_page-requires : goal.copy_page-requires
copy_page-requires g c = omega (arith, length-replicate {A = ℕ} g.row.N 0)

pub returns-then-at : goal.returns-then-at
returns-then-at g c =
    let at = c.args.at in
    let pages = c.args.pages.now in
    let small : at / 4096 < length pages = omega (arith, length-memory_of pages c.requires.pages) in
    let place : 4096 * (at / 4096) + at % 4096 ≡ at = omega arith in
    c.copy_page.ensures
    ∙ ap (λ n. part_of (page_bytes c.index-pages-at.result) (at % 4096) n) (length-replicate {A = ℕ} g.row.N 0)
    ∙ ap (λ p. part_of (page_bytes p) (at % 4096) g.row.N) (c.index-pages-at.is ∙ get_or_default pages (at / 4096) _ None small)
    ∙ sym (memory_of-part pages (at / 4096) (at % 4096) g.row.N c.requires.pages small (omega arith))
    ∙ ap (λ k. part_of (memory_of pages) k g.row.N) place
