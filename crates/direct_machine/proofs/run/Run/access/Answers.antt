use Rattle.direct_machine.proofs.Units.{access-unit}
use Rattle.direct_machine.proofs.run.Run.access.Goals as goal

pub returns-clause-leads : goal.returns-clause-leads
returns-clause-leads g c plan before = (_, access-unit g.M.Master.model g.D.Device.model plan _ _ _ _ _ _ _ _ _ _ _ before c.requires.issued.there c.index_mut-device.ensures.value c.in_ok-access.ensures.ok c.plain-answer.ensures c.finish.ensures c.in_ok-push.ensures.ok)
