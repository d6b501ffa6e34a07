use Rattle.std.proofs.Common.{◌≡◌, take}
use Rattle.sys_ram.specs.Pages.{written_from}
use Rattle.sys_ram.proofs.page.merge.Given as goal

abbrev pub invariant-bytes : goal.invariant-bytes
invariant-bytes l = l.old ≡ written_from l.fn.old 0 (take l.i l.bytes) l.enables l.first
