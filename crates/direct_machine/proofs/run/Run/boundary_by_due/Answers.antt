use Rattle.std.proofs.Common.{refl}
use Rattle.direct_machine.proofs.Lists.{all-changed}
use Rattle.direct_machine.proofs.Serving.{left-falls}
use Rattle.direct_machine.proofs.Firsting.{begins, goes_on, ends-at}
use Rattle.direct_machine.proofs.run.Run.boundary_by_due.Goals as goal

pub wants-init : goal.wants-init
wants-init g c = begins g.M.Master.model g.D.Device.model g.met.D.Device.lawful g.met.M.Master.lawful c.args.self.now _ c.requires.ready refl (all-changed _ c.args.self.now.devices _ _ c.advance_all.ensures c.deref_mut.ensures.value) refl refl

pub wants-smaller : goal.wants-smaller
wants-smaller g c = let served = rw c.in-Ok-true.field-0-test at c.in-Ok-true.ensures.serves in left-falls g.M.Master.model g.D.Device.model g.met.D.Device.lawful g.met.M.Master.lawful served.0 _ _ served.2

pub wants-preserved : goal.wants-preserved
wants-preserved g c = let served = rw c.in-Ok-true.field-0-test at c.in-Ok-true.ensures.serves in goes_on g.M.Master.model g.D.Device.model g.met.D.Device.lawful g.met.M.Master.lawful _ _ _ served.0 served.1 served.2 c.wants.invariant

pub returns-in-Ok-false-clause-leads : goal.returns-in-Ok-false-clause-leads
returns-in-Ok-false-clause-leads g c = ends-at g.M.Master.model g.D.Device.model g.met.D.Device.lawful g.met.M.Master.lawful c.args.self.now c.wants.self c.serve_first.new.self (rw c.in-Ok-false.field-0-test at c.in-Ok-false.ensures.serves) c.wants.invariant
