use Rattle.std.proofs.Common.{refl}
use Rattle.direct_machine.proofs.Porting.{port-falls, settle-begins, settle-goes_on, settle-ends-at}
use Rattle.direct_machine.proofs.run.Run.settle.Goals as goal

pub wants-init : goal.wants-init
wants-init g c = settle-begins g.M.Master.model g.D.Device.model g.met.D.Device.lawful g.met.M.Master.lawful c.args.port c.args.self.now _ _ _ c.requires.there c.index_mut-device.ensures.value c.advance.ensures c.requires.ready refl refl refl refl

pub wants-smaller : goal.wants-smaller
wants-smaller g c = port-falls g.M.Master.model g.D.Device.model g.met.D.Device.lawful g.met.M.Master.lawful c.args.port _ _ (rw c.in-Ok-true.field-0-test at c.in-Ok-true.ensures.serves)

pub wants-preserved : goal.wants-preserved
wants-preserved g c = settle-goes_on g.M.Master.model g.D.Device.model g.met.D.Device.lawful g.met.M.Master.lawful c.args.port _ _ _ (rw c.in-Ok-true.field-0-test at c.in-Ok-true.ensures.serves) c.wants.invariant

pub returns-in-Ok-false-clause-leads : goal.returns-in-Ok-false-clause-leads
returns-in-Ok-false-clause-leads g c = settle-ends-at g.M.Master.model g.D.Device.model g.met.D.Device.lawful g.met.M.Master.lawful c.args.port c.args.self.now c.wants.self c.serve.new.self (rw c.in-Ok-false.field-0-test at c.in-Ok-false.ensures.serves) c.wants.invariant
