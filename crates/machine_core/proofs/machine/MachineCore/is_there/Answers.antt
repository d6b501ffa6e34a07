use Rattle.std.proofs.Common.{◌<◌, length, refl, subst}
use Rattle.machine_core.specs.Machines.{Core}
use Rattle.machine_core.proofs.Awaiting.{awaiting-seen, awaiting-there}
use Rattle.machine_core.proofs.machine.MachineCore.is_there.Goals as goal

pub returns : goal.returns
returns g c p awaits =
    let k = g.M.Master.model in
    subst (λ (o : Core _). p < length o.end.ports) c.self.view_is
    (awaiting-there k _ p c.self.invariant.1 (awaiting-seen k _ p _ _ c.self.view_is refl awaits))
