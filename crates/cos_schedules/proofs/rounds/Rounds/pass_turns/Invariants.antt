use Rattle.cos_schedules.specs.Courses.{Course, PassesTurns}
use Rattle.cos_schedules.proofs.rounds.Rounds.pass_turns.Given as goal

abbrev pub invariant-turns : goal.invariant-turns
invariant-turns l = (new : Course) → PassesTurns l.left l.self new → PassesTurns l.turns l.fn.self new

abbrev pub decreases-turns : goal.decreases-turns
decreases-turns l = l.left
