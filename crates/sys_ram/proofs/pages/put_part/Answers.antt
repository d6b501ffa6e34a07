use Rattle.std.proofs.Common.{◌≡◌, ◌∙◌, ap, arith, length, ◌+◌, ◌*◌, ◌/◌, ◌%◌, ◌<◌, []}
use Rattle.std.specs.declared.option.Option.TheVariants.{None}
use Rattle.std.proofs.lemmas.List.{get_or_default}
use Rattle.cos_base.specs.Octets.{overwritten}
use Rattle.sys_ram.specs.Pages.{memory_of, page_bytes, written_from}
use Rattle.sys_ram.proofs.Writing.{written_from-all}
use Rattle.sys_ram.proofs.Paging.{length-memory_of, memory_of-overwritten, memory_of-same}
use Rattle.sys_ram.proofs.pages.put_part.Goals as goal

pub bounds-pages-at : goal.bounds-pages-at
bounds-pages-at g c = omega (arith, length-memory_of c.args.pages.now c.requires.pages)

pub returns-in-Ok-clause-ok : goal.returns-in-Ok-clause-ok
returns-in-Ok-clause-ok g c =
    let at = c.args.at in
    let pages = c.args.pages.now in
    let bytes = c.args.bytes.now in
    let small : at / 4096 < length pages = omega (arith, length-memory_of pages c.requires.pages) in
    let place : 4096 * (at / 4096) + at % 4096 ≡ at = omega arith in
    memory_of-overwritten pages (at / 4096) (at % 4096) bytes c.put_in_page.new.page c.requires.pages small (omega (arith, c.told-bytes))
    (c.in-Ok.ensures.ok ∙ ap (λ p. overwritten (page_bytes p) (at % 4096) bytes) (get_or_default pages (at / 4096) _ None small))
    ∙ ap (λ k. overwritten (memory_of pages) k bytes) place

pub returns-in-Err-clause-err : goal.returns-in-Err-clause-err
returns-in-Err-clause-err g c =
    let small : c.args.at / 4096 < length c.args.pages.now = omega (arith, length-memory_of c.args.pages.now c.requires.pages) in
    memory_of-same c.args.pages.now (c.args.at / 4096) c.put_in_page.new.page small (c.in-Err.ensures.err ∙ ap page_bytes (get_or_default c.args.pages.now (c.args.at / 4096) _ None small))

pub touch_all-requires-clause-within : goal.touch_all-requires-clause-within
touch_all-requires-clause-within g c = omega (arith, length-memory_of c.args.pages.now c.requires.pages)

pub returns-clause-ok : goal.returns-clause-ok
returns-clause-ok g c =
    let same : memory_of c.touch_all.new.pages ≡ memory_of c.args.pages.now = c.in_ok-touch_all.ensures.bytes in
    c.write_all.ensures.bytes
    ∙ ap (λ xs. written_from xs c.args.at c.args.bytes.now [] 0) same
    ∙ written_from-all (memory_of c.args.pages.now) c.args.at c.args.bytes.now 0 (omega (arith, c.told-bytes))
