use Rattle.std.proofs.Common.{ap, ◌∙◌}
use Rattle.ends_model.specs.MachineTurn.{is_last}
use Rattle.machine_core.proofs.Frames.{ports-in}
use Rattle.machine_core.proofs.Working.{issue-machine}
use Rattle.machine_core.proofs.machine.MachineCore.work.Goals as goal

pub invariant_of-self-in-Ok-Some : goal.invariant_of-self-in-Ok-Some
invariant_of-self-in-Ok-Some g c =
    let phase = ap (λ e. e.end.phase) c.self.view_is ∙ c.requires.phase in
    let on = ap (λ e. is_last g.M.Master.model e.end) c.self.view_is ∙ c.requires.on in
    let issued = c.in-Ok-Some.ensures.ok ∙ ap (λ b. (c.issue.new.self, b)) c.in-Ok-Some.field-0-is in (
      c.self.invariant.0,
      issue-machine g.M.Master.model g.met.M.Master.lawful _ _ c.in-Ok-Some.bus phase on issued c.self.invariant.1,
    )

pub send-requires-clause-access : goal.send-requires-clause-access
send-requires-clause-access g c =
    let issued = ap (λ r. r.1) c.in-Ok-Some.ensures.ok ∙ c.in-Ok-Some.field-0-is in
    (g.met.M.Master.lawful.issue_access c.self.inside.master c.in-Ok-Some.bus issued).1

pub send-requires-clause-free : goal.send-requires-clause-free
send-requires-clause-free g c q at =
    let phase = ap (λ e. e.end.phase) c.self.view_is ∙ c.requires.phase in
    (ports-in g.M.Master.model _ _ phase c.self.invariant.1 _ q at).other
