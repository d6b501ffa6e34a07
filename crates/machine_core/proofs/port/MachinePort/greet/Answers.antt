use Rattle.machine_core.proofs.Holding.{port-stays, stays-as, hello-stays}
use Rattle.machine_core.proofs.port.MachinePort.greet.Goals as goal

pub invariant_of-self-2 : goal.invariant_of-self-2
invariant_of-self-2 c =
    port-stays _ _ _ (stays-as _ _ _ c.in_ok-hello.ensures.ok (hello-stays c.self.inside.session)) c.self.invariant
