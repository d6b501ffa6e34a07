use Rattle.std.proofs.Common.{◌≡◌, ◌∙◌, length, arith}
use Rattle.cos_schedules.specs.Schedules.{base, base_length}
use Rattle.cos_schedules.proofs.Places.{length-base, turned-front, turned-back}
use Rattle.cos_schedules.proofs.rounds.turned_step.Goals as goal
use Rattle.cos_schedules.proofs.rounds.turned_step.Goals.{then-at-length, else-at-length}

pub returns : goal.returns
returns c =
    let steps = base c.args.ports in
    let size : length steps ≡ base_length c.args.ports = length-base c.args.ports in
    let at = c.if-at-length.base_step in
    elim c.if-at-length.branch [
      | then-at-length w ↦
          turned-front c.args.first c.args.place at steps (omega arith) (omega arith) ∙ c.base_step.ensures
      | else-at-length w ↦
          turned-back c.args.first c.args.place at steps (omega arith) (omega arith) (omega arith)
          ∙ c.base_step.ensures
    ]
