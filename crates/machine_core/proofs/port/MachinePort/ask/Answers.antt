use Rattle.ends_model.specs.MachineTurn.{access_body}
use Rattle.machine_core.proofs.Holding.{port-stays, stays-as, request-stays}
use Rattle.machine_core.proofs.port.MachinePort.ask.Goals as goal

pub invariant_of-self : goal.invariant_of-self
invariant_of-self c =
    let s = c.self.inside.session in
    let a = c.args.access in
    port-stays _ _ _ (stays-as _ _ _ c.put_access.ensures.session (request-stays s a.posted (access_body s.common c.args.tick a) a.size))
    c.self.invariant
