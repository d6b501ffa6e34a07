use Rattle.direct_machine.proofs.Serving.{wants_left}
use Rattle.direct_machine.proofs.Firsting.{Serving}
use Rattle.direct_machine.proofs.run.Run.boundary_by_due.Given as goal

abbrev pub invariant-wants : goal.invariant-wants
invariant-wants g l = Serving g.M.Master.model g.D.Device.model l.fn.self l.self

abbrev pub decreases-wants : goal.decreases-wants
decreases-wants g l = wants_left g.D.Device.model l.self.devices.items
