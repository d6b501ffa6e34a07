use Rattle.machine_core.proofs.Holding.{port-stays, stays-as, wait-stays}
use Rattle.machine_core.proofs.port.MachinePort.begin_wait.Goals as goal

pub invariant_of-self : goal.invariant_of-self
invariant_of-self c = port-stays _ _ _ (stays-as _ _ _ c.begin_wait.ensures (wait-stays c.self.inside.session)) c.self.invariant
