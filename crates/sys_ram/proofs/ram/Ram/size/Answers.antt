use Rattle.std.proofs.Common.{ap, arith, length}
use Rattle.sys_ram.proofs.Paging.{length-memory_of}
use Rattle.sys_ram.proofs.ram.Ram.size.Goals as goal

pub returns-clause-size : goal.returns-clause-size
returns-clause-size c = omega (arith, length-memory_of c.self.inside.pages.items c.self.invariant.0, ap length c.self.view_is, c.self.inside.pages.ok)
