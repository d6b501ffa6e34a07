use Rattle.std.proofs.Common.{ap, ◌∙◌, subst}
use Rattle.sys_bus.specs.Locals.{AreAccesses, local_unit-is}
use Rattle.sys_bus.proofs.rv_master.RvMasterMaster.issue.Goals as goal

pub issue_beyond-requires-clause-access : goal.issue_beyond-requires-clause-access
issue_beyond-requires-clause-access c =
    subst AreAccesses (ap (λ p. p.1) c.in_ok-waiting.ensures.ok ∙ c.in-Some.is) (local_unit-is c.self.inside.machine)
