use Rattle.std.proofs.Common.{ap, ◌∙◌, length, arith, ◌<◌}
use Rattle.machine_core.proofs.Syncing.{begin-syncs, not-none}
use Rattle.machine_core.proofs.machine.MachineCore.run.Goals as goal

pub invariant_of-self-2 : goal.invariant_of-self-2
invariant_of-self-2 g c =
    let phase = ap (λ e. e.end.phase) c.self.view_is ∙ c.requires.phase in
    let counted = not-none c.self.inside.ports.len c.if-is_empty.ensures in
    let some : 0 < length c.self.inside.ports.items = omega (arith, counted, c.self.inside.ports.ok.0) in
    (c.self.invariant.0, begin-syncs g.M.Master.model _ phase some c.self.invariant.1)
