use Rattle.std.proofs.Common.{length, ◌-◌, ◌≡◌, ◌≤◌, take}
use Rattle.sys_ram.specs.Memory.{part_of}
use Rattle.sys_ram.specs.Pages.{memory_of}
use Rattle.sys_ram.proofs.pages.copy_out.Given as goal

abbrev pub invariant-parts : goal.invariant-parts
invariant-parts l = (l.done ≤ length l.fn.out) × (take l.done l.out ≡ part_of (memory_of l.pages) l.at l.done)

abbrev pub decreases-parts : goal.decreases-parts
decreases-parts l = length l.initial.out - l.done
