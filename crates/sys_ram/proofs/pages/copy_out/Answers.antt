use Rattle.std.proofs.Common.{◌≡◌, sym, ◌∙◌, ap, arith, length, take, drop, ◌+◌, ◌-◌, ◌/◌, ◌%◌, ◌<◌, ◌≤◌, ◌++◌}
use Rattle.std.specs.declared.option.Option.TheVariants.{None}
use Rattle.std.proofs.lemmas.List.{get_or_default, length-take, length-drop}
use Rattle.sys_ram.specs.Pages.{memory_of, page_bytes, page_at}
use Rattle.std.proofs.lemmas.Slice.{take-put_mid}
use Rattle.sys_ram.specs.Memory.{part_of}
use Rattle.sys_ram.proofs.Writing.{part_of-sum}
use Rattle.sys_ram.proofs.Paging.{length-memory_of, part_read}
use Rattle.sys_ram.proofs.pages.copy_out.Goals as goal

pub overflow_add-from : goal.overflow_add-from
overflow_add-from c = omega (arith, length-memory_of c.args.pages.now c.requires.pages)

pub bounds-pages-from : goal.bounds-pages-from
bounds-pages-from c = omega (arith, length-memory_of c.args.pages.now c.requires.pages)

pub parts-preserved : goal.parts-preserved
parts-preserved c =
    let at = c.args.at in
    let done = c.parts.done in
    let count = c.min-count.result in
    let pages = c.args.pages.now in
    let small : (at + done) / 4096 < length pages = omega (arith, length-memory_of pages c.requires.pages) in
    let within : (at + done) % 4096 + count ≤ 4096 = omega arith in
    let size : length (take (done + count - done) (drop done c.parts.out)) ≡ count
    = length-take (done + count - done) (drop done c.parts.out) ∙ omega (arith, length-drop done c.parts.out) in
    let long : length c.copy_page.new.out ≡ count = omega (arith, c.copy_page.auto.out, size) in
    let read : c.copy_page.new.out ≡ part_of (memory_of pages) (at + done) count
    = part_read pages at done count c.copy_page.new.out c.requires.pages small within
    (c.copy_page.ensures
    ∙ ap (λ p. part_of (page_bytes p) ((at + done) % 4096) (length (take (done + count - done) (drop done c.parts.out)))) (c.index-pages-from.is ∙ get_or_default pages ((at + done) / 4096) _ None small)
    ∙ ap (part_of (page_bytes (page_at pages ((at + done) / 4096))) ((at + done) % 4096)) size) in (
      omega arith,
      take-put_mid done (done + count - done) c.parts.out c.copy_page.new.out (done + count) (omega (arith, long)) (omega arith)
          ∙ ap (λ xs. xs ++ c.copy_page.new.out) c.parts.invariant.1
          ∙ ap (λ xs. part_of (memory_of pages) at done ++ xs) read
          ∙ sym (part_of-sum (memory_of pages) at done count),
    )
