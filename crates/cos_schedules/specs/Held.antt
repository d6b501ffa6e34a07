-- How a course is held: by the steps of the base list that are left, before their counts are drawn.
use Rattle.std.specs.Prelude.{◌≡◌, ℕ, zero, suc, ◌%◌, List, ◌∷◌}
use Rattle.cos_schedules.specs.declared.step.Step.{Step}
use Rattle.cos_schedules.specs.Schedules.{base_length, following, drawn, counted, after_counts}
use Rattle.cos_schedules.specs.Courses.{Course}

-- The course of these steps, where x is the number now. Schedule 0 draws no counts.

abbrev pub counted_in : ℕ → ℕ → List Step → List Step
counted_in zero x steps = steps
counted_in (suc number) x steps = counted x steps

abbrev pub after_counts_in : ℕ → ℕ → List Step → ℕ
after_counts_in zero x steps = x
after_counts_in (suc number) x steps = after_counts x steps

abbrev pub course_of : ℕ → ℕ → ℕ → List Step → Course
course_of number ports x steps = record {
  number = number;
  ports = ports;
  left = counted_in number x steps;
  x = after_counts_in number x steps;
}

-- The place of the base list at which a round begins, and the number x after that.

abbrev pub first_place : ℕ → ℕ → ℕ → ℕ
first_place zero ports x = 0
first_place (suc number) ports x = drawn x % base_length ports

abbrev pub after_place : ℕ → ℕ → ℕ
after_place zero x = x
after_place (suc number) x = following x

-- A step with its count, and the number x after that.
abbrev pub IsCounted : ℕ → Step → ℕ → Step → ℕ → Type 0
IsCounted number step x counted after =
    (steps : List Step)
    → (counted_in number x (step ∷ steps) ≡ counted ∷ counted_in number after steps)
    × (after_counts_in number x (step ∷ steps) ≡ after_counts_in number after steps)
