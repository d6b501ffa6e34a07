use Rattle.std.proofs.Common.{ap, arith, length}
use Rattle.sys_ram.proofs.Paging.{length-memory_of}
use Rattle.sys_ram.proofs.ram.Ram.put.Goals as goal

pub touch_all-requires-clause-within : goal.touch_all-requires-clause-within
touch_all-requires-clause-within c = omega (arith, length-memory_of c.self.inside.pages.items c.self.invariant.0, ap length c.self.view_is, ap length c.deref_mut.ensures.value)
