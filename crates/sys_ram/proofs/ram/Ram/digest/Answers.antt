use Rattle.std.proofs.Common.{◌≡◌, ◌+◌, ◌++◌, ap, take, sym, ◌∙◌, subst}
use Rattle.std.specs.declared.option.Option.TheVariants.{None}
use Rattle.std.proofs.lemmas.List.{take_more, get_or_default}
use Rattle.sha2.specs.Hashers.{Holds256}
use Rattle.sys_ram.specs.Pages.{memory_of, page_bytes}
use Rattle.sys_ram.proofs.Paging.{memory_of-push}
use Rattle.sys_ram.proofs.ram.Ram.digest.Goals as goal

pub pages-preserved : goal.pages-preserved
pages-preserved c =
    let pages = c.deref-page-items.result.now in
    let i = c.pages.page-index in
    let next : memory_of (take i pages) ++ c.page_or.result.now ≡ memory_of (take (i + 1) pages)
    = ap (λ xs. memory_of (take i pages) ++ xs) (c.page_or.ensures ∙ ap page_bytes (c.page-item.is ∙ get_or_default pages i _ None c.pages-test.true))
    ∙ sym (memory_of-push (take i pages) _) ∙ ap memory_of (sym (take_more pages i None c.pages-test.true)) in
    subst (Holds256 c.update.new.self) next (c.update.ensures (memory_of (take i pages)) c.pages.invariant)
