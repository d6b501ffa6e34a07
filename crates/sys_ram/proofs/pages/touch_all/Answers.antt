use Rattle.std.proofs.Common.{◌≡◌, ◌∙◌, ap, arith, length, ◌/◌, ◌<◌}
use Rattle.std.specs.declared.option.Option.TheVariants.{None}
use Rattle.std.proofs.lemmas.List.{get_or_default, length-set}
use Rattle.sys_ram.specs.Pages.{page_bytes, page_at}
use Rattle.sys_ram.proofs.Paging.{memory_of-same, pages-set, there-more}
use Rattle.sys_ram.proofs.pages.touch_all.Goals as goal

pub returns-in_err-touch-clause-bytes : goal.returns-in_err-touch-clause-bytes
returns-in_err-touch-clause-bytes c =
    let small : c.pages.index < length c.pages.pages = omega (arith, c.pages.invariant.2) in
    memory_of-same c.pages.pages c.pages.index c.touch.new.page small (c.touch.ensures.bytes ∙ ap page_bytes (get_or_default c.pages.pages c.pages.index _ None small))
    ∙ c.pages.invariant.0

pub pages-preserved : goal.pages-preserved
pages-preserved c =
    let small : c.pages.index < length c.pages.pages = omega (arith, c.pages.invariant.2) in
    let same : page_bytes c.touch.new.page ≡ page_bytes (page_at c.pages.pages c.pages.index) = c.touch.ensures.bytes ∙ ap page_bytes (get_or_default c.pages.pages c.pages.index _ None small) in (
      memory_of-same c.pages.pages c.pages.index c.touch.new.page small same ∙ c.pages.invariant.0,
      pages-set c.pages.pages c.pages.index c.touch.new.page c.pages.invariant.1 small (ap length same),
      length-set c.pages.pages c.pages.index c.touch.new.page ∙ c.pages.invariant.2,
      there-more c.pages.pages c.pages.index (c.args.at / 4096) c.touch.new.page small c.in_ok-touch.ensures.there c.pages.invariant.3,
    )
