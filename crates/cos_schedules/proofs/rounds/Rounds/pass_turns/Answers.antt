use Rattle.std.proofs.Common.{◌≡◌, ◌-◌, suc, subst, arith}
use Rattle.cos_schedules.specs.Courses.{PassesTurns}
use Rattle.cos_schedules.proofs.rounds.Rounds.pass_turns.Goals as goal

pub turns-preserved : goal.turns-preserved
turns-preserved c = λ new rest.
    let one : suc (c.turns.left - 1) ≡ c.turns.left = omega (arith, c.turns-test.true) in
    c.turns.invariant new
    (subst (λ n. PassesTurns n c.turns.self new) one
    (c.pass_to_machine.new.self, c.pass_to_machine.ensures.0, c.pass_to_machine.ensures.1, rest))
