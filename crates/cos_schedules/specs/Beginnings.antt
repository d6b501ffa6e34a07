-- Which steps a schedule begins with.
use Rattle.std.specs.Prelude.{◌≡◌, ◌⊎◌, ℕ, List, ◌++◌}
use Rattle.cos_schedules.specs.declared.step.Step.{Step}
use Rattle.cos_schedules.specs.declared.schedule.Schedule.{Schedule}
use Rattle.cos_schedules.specs.declared.schedule.Schedule.TheVariants.{Number, Listed}
use Rattle.cos_schedules.specs.Courses.{Course, GivesAll, fresh_course}

-- the rounds of a number, one after another, begin with these steps
abbrev pub RoundsBegin : ℕ → ℕ → List Step → Type 0
RoundsBegin number ports steps = (after : Course) × GivesAll (fresh_course number ports) steps after

-- A list that is followed by the rounds of number 0 begins with these steps: they are a beginning of it, or it all and
-- then steps with which those rounds begin.
abbrev pub ListBegins : List Step → ℕ → List Step → Type 0
ListBegins list ports steps =
    ((rest : List Step) × (list ≡ steps ++ rest))
    ⊎ ((more : List Step) × (steps ≡ list ++ more) × RoundsBegin 0 ports more)

abbrev pub BeginsWith : Schedule → ℕ → List Step → Type 0
BeginsWith (Number number) ports steps = RoundsBegin number ports steps
BeginsWith (Listed list) ports steps = ListBegins list ports steps
