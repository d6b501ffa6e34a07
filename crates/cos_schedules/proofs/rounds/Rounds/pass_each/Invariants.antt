use Rattle.std.proofs.Common.{List, [], ◌∷◌, ◌++◌}
use Rattle.cos_schedules.specs.declared.step.Step.{Step}
use Rattle.cos_schedules.specs.Courses.{AreOthers, GivesAll}
use Rattle.cos_schedules.proofs.Passing.{left_behind}
use Rattle.cos_schedules.proofs.rounds.Rounds.pass_each.Given as goal

abbrev pub invariant-others : goal.invariant-others
invariant-others l =
    (passed : List Step) × AreOthers passed × GivesAll l.fn.self (passed ++ l.step ∷ []) l.self

abbrev pub decreases-others : goal.decreases-others
decreases-others l = left_behind l.step l.self
