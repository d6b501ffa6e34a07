use Rattle.std.proofs.Common.{◌-◌, ◌≡◌, ◌≤◌, length, take}
use Rattle.sys_ram.specs.Pages.{memory_of, ArePages, AreThere, written_from}
use Rattle.sys_ram.proofs.pages.write_all.Given as goal

abbrev pub invariant-parts : goal.invariant-parts
invariant-parts l = (l.done ≤ length l.bytes) × (memory_of l.pages ≡ written_from (memory_of l.fn.pages) l.at (take l.done l.bytes) l.enables 0)
    × ArePages l.pages × (length l.pages ≡ length l.fn.pages) × AreThere l.pages l.at (length l.bytes)

abbrev pub decreases-parts : goal.decreases-parts
decreases-parts l = length l.bytes - l.done
