use Rattle.std.proofs.Common.{take}
use Rattle.sha2.specs.Hashers.{Holds256}
use Rattle.sys_ram.specs.Pages.{memory_of}
use Rattle.sys_ram.proofs.ram.Ram.digest.Given as goal

abbrev pub invariant-pages : goal.invariant-pages
invariant-pages l = Holds256 l.hasher (memory_of (take l.page-index l.page-items))
