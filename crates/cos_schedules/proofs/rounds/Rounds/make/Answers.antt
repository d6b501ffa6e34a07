use Rattle.std.proofs.Common.{◌∙◌, ap, arith}
use Rattle.cos_schedules.proofs.Courses.{round-ends}
use Rattle.cos_schedules.proofs.rounds.Rounds.make.Goals as goal

pub returns : goal.returns
returns c =
    round-ends c.args.number c.args.ports c.from.result 0 c.steps_in_round.result (omega arith) (omega arith)
    ∙ ap (λ x. record { number = c.args.number; ports = c.args.ports; left = _; x = x }) (c.from.ensures)
