use Rattle.std.proofs.Common.{sym}
use Rattle.sys_bus.specs.RowLaws.{waiting-is}
use Rattle.sys_bus.proofs.machine.Machine.issue.Goals as goal

pub access-requires : goal.access-requires
access-requires c = waiting-is c.args.self.now.hart c.word-fetched.result c.pending-pending.result c.in-Some.waiting (sym c.in-Some.ensures.waiting)
