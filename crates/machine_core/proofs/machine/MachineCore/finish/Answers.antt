use Rattle.std.proofs.Common.{ap, ◌∙◌, sym}
use Rattle.std.specs.Prelude.{slice_get}
use Rattle.machine_core.proofs.Working.{finish-machine}
use Rattle.machine_core.proofs.machine.MachineCore.finish.Goals as goal

pub invariant_of-self : goal.invariant_of-self
invariant_of-self g c =
    let phase = ap (λ e. e.end.phase) c.self.view_is ∙ c.requires.phase in (
      c.self.invariant.0,
      finish-machine g.M.Master.model g.met.M.Master.lawful _ _ _ _ _ _ phase
          (λ q at. c.requires.free q (ap (λ e. slice_get e.end.ports c.args.port) (sym c.self.view_is) ∙ at)) c.finish.ensures
          c.self.invariant.1,
    )
