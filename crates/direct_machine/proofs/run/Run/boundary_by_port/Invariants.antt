use Rattle.direct_machine.proofs.Ports.{Porting}
use Rattle.direct_machine.proofs.run.Run.boundary_by_port.Given as goal

abbrev pub invariant-ports : goal.invariant-ports
invariant-ports g l = Porting g.M.Master.model g.D.Device.model l.port l.fn.self l.self
