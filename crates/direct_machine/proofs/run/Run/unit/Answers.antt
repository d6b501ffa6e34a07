use Rattle.std.proofs.Common.{refl}
use Rattle.direct_machine.proofs.Units.{local-unit, issued-ready, unit-leads}
use Rattle.direct_machine.proofs.run.Run.unit.Goals as goal

pub access-requires-clause-issued : goal.access-requires-clause-issued
access-requires-clause-issued g c = issued-ready g.M.Master.model g.D.Device.model g.met.M.Master.lawful c.args.self.now _ c.in-Ok-Some.bus (rw c.in-Ok-Some.field-0-is at c.in-Ok-Some.ensures.ok) c.requires.ready refl refl

pub returns-in-Ok-None-clause-leads : goal.returns-in-Ok-None-clause-leads
returns-in-Ok-None-clause-leads g c plan before = (before, local-unit g.M.Master.model g.D.Device.model plan _ _ _ _ _ before (rw c.in-Ok-None.field-0-is at c.in-Ok-None.ensures.ok))

pub returns-in-Ok-Some-clause-leads : goal.returns-in-Ok-Some-clause-leads
returns-in-Ok-Some-clause-leads g c = unit-leads g.M.Master.model g.D.Device.model g.met.M.Master.lawful c.args.self.now c.access.new.self _ c.in-Ok-Some.bus _ (rw c.in-Ok-Some.field-0-is at c.in-Ok-Some.ensures.ok) c.requires.ready c.access.ensures.leads
