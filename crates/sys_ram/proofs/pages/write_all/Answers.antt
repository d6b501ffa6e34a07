use Rattle.std.proofs.Common.{◌≡◌, ◌∙◌, arith, length, take, drop, refl, ◌+◌, ◌-◌, ◌/◌, ◌%◌, ◌<◌, ◌≤◌}
use Rattle.std.proofs.lemmas.List.{length-set, length-take, length-drop}
use Rattle.sys_ram.specs.Pages.{memory_of}
use Rattle.sys_ram.proofs.Paging.{length-memory_of, part_written, length-page_written, pages-set, there-set}
use Rattle.sys_ram.proofs.pages.write_all.Goals as goal

pub bounds-pages-from : goal.bounds-pages-from
bounds-pages-from c = omega (arith, length-memory_of c.args.pages.now c.requires.pages, c.parts.invariant.3)

pub parts-preserved : goal.parts-preserved
parts-preserved c =
    let at = c.args.at in
    let done = c.parts.done in
    let count = c.min-count.result in
    let pages = c.parts.pages in
    let long = length-memory_of c.args.pages.now c.requires.pages in
    let small : (at + done) / 4096 < length pages = omega (arith, long, c.parts.invariant.3) in
    let within : (at + done) % 4096 + count ≤ 4096 = omega arith in
    let part = take (done + count - done) (drop done c.args.bytes.now) in
    let many : length part ≡ count = length-take (done + count - done) (drop done c.args.bytes.now) ∙ omega (arith, length-drop done c.args.bytes.now) in (
      omega arith,
      part_written pages (memory_of c.args.pages.now) at done count c.args.bytes.now c.args.enables.now part c.write_page.new.page _ (done + count - done)
          c.parts.invariant.2 small within (omega arith) (omega arith) c.parts.invariant.1 refl (omega arith) c.write_page.ensures.bytes,
      pages-set pages ((at + done) / 4096) c.write_page.new.page c.parts.invariant.2 small
          (length-page_written pages ((at + done) / 4096) ((at + done) % 4096) part c.args.enables.now done c.write_page.new.page _ c.parts.invariant.2 small (omega (arith, many)) c.write_page.ensures.bytes),
      length-set pages ((at + done) / 4096) c.write_page.new.page ∙ c.parts.invariant.3,
      there-set pages ((at + done) / 4096) at (length c.args.bytes.now) c.write_page.new.page c.write_page.ensures.there c.parts.invariant.4,
    )
