use Rattle.std.proofs.Common.{◌-◌, ◌≡◌, ◌≤◌, ◌<◌, ◌+◌, ◌*◌, ◌/◌, ℕ, length, true}
use Rattle.std.specs.Option.{is_some}
use Rattle.sys_ram.specs.Pages.{memory_of, ArePages, page_at}
use Rattle.sys_ram.proofs.pages.touch_all.Given as goal

abbrev pub invariant-pages : goal.invariant-pages
invariant-pages l = (memory_of l.pages ≡ memory_of l.fn.pages) × ArePages l.pages × (length l.pages ≡ length l.fn.pages)
    × ((k : ℕ) → l.at / 4096 ≤ k → k < l.index → is_some (page_at l.pages k) ≡ true)

abbrev pub decreases-pages : goal.decreases-pages
decreases-pages l = l.at + l.count - 4096 * l.index
