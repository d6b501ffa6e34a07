use Rattle.std.proofs.Common.{◌∙◌, sym, ap, ap₂, arith}
use Rattle.cos_schedules.specs.Schedules.{base, turned}
use Rattle.cos_schedules.specs.Courses.{begun}
use Rattle.cos_schedules.specs.Held.{course_of}
use Rattle.cos_schedules.proofs.Courses.{length-left, begun-same, round-ends, round-begins}
use Rattle.cos_schedules.proofs.rounds.Rounds.begin.Goals as goal

pub returns-then-self-steps_in_round : goal.returns-then-self-steps_in_round
returns-then-self-steps_in_round c =
    let f = c.self.inside in
    let place = c.first_place-self-inside.ensures in
    let ends = round-ends f.number f.ports f.draws.x f.first f.given c.self.invariant.0 (omega arith) in
    ap₂ (λ x first. course_of f.number f.ports x (turned first (base f.ports))) place.x place.first
    ∙ round-begins f.number f.ports f.draws.x
    ∙ ap begun (sym ends ∙ c.self.view_is)

pub returns-else-self-steps_in_round : goal.returns-else-self-steps_in_round
returns-else-self-steps_in_round c =
    let f = c.self.inside in
    let fits = c.self.invariant in
    let left = length-left f.number f.ports f.draws.x f.first f.given c.args.self.now fits.0 fits.1 c.self.view_is in
    begun-same c.args.self.now (omega arith)
