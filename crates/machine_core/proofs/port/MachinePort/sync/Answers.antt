use Rattle.std.proofs.Common.{false, refl}
use Rattle.cosim_model.specs.Packets.Body.{Sync}
use Rattle.machine_core.proofs.Holding.{port-stays, stays-as, request-stays}
use Rattle.machine_core.proofs.port.MachinePort.sync.Goals as goal

pub invariant_of-self : goal.invariant_of-self
invariant_of-self c =
    let s = c.self.inside.session in
    port-stays _ _ _ (stays-as _ _ _ (c.request-tag.ensures.sent (Sync c.args.tick) refl) (request-stays s false (Sync c.args.tick) 0))
    c.self.invariant
