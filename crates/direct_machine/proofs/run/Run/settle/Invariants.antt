use Rattle.direct_machine.proofs.Porting.{port_left, Settling}
use Rattle.direct_machine.proofs.run.Run.settle.Given as goal

abbrev pub invariant-wants : goal.invariant-wants
invariant-wants g l = Settling g.M.Master.model g.D.Device.model l.port l.fn.self l.self

abbrev pub decreases-wants : goal.decreases-wants
decreases-wants g l = port_left g.D.Device.model l.port l.self.devices.items
