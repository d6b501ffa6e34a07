use Rattle.device_core.proofs.Settling.{Settles}
use Rattle.device_core.proofs.device.DeviceCore.settle.Given as goal

abbrev pub invariant-wants : goal.invariant-wants
invariant-wants g l = Settles g.D.Device.model l.fn.self.end l.fn.out.bytes l.self l.out.bytes l.out.spare

abbrev pub decreases-wants : goal.decreases-wants
decreases-wants g l = g.D.Device.model.left l.self.end.device
