-- A schedule under way.
use Rattle.std.specs.Prelude.{◌≡◌, ℕ, zero, suc, Bool, true, false, List, [], ◌∷◌, ◌++◌}
use Rattle.cos_schedules.specs.declared.step.Step.{Step}
use Rattle.cos_schedules.specs.declared.step.Step.TheVariants.{Machine, Device, Deliver}
use Rattle.cos_schedules.specs.Schedules.{round, after_round}

pub record Course : Type 0 where
  pub number : ℕ
  pub ports : ℕ
  -- what is left of the round that was begun
  pub left : List Step
  -- the number x that the next round begins with
  pub x : ℕ

-- Before the first round.
abbrev pub fresh_course : ℕ → ℕ → Course
fresh_course number ports = record { number = number; ports = ports; left = []; x = number }

-- With a round that is begun: the next one, where nothing is left.

abbrev pub begun_at : Course → List Step → Course
begun_at c [] =
    record c { left = round c.number c.ports c.x; x = after_round c.number c.ports c.x }
begun_at c (step ∷ steps) = c

abbrev pub begun : Course → Course
begun c = begun_at c c.left

-- It gives the first step that is left, or that of the next round.
abbrev pub Gives : Course → Step → Course → Type 0
Gives old step new = begun old ≡ record new { left = step ∷ new.left }

-- It gives steps, one after another.
abbrev pub GivesAll : Course → List Step → Course → Type 0
GivesAll old [] new = old ≡ new
GivesAll old (step ∷ steps) new = (mid : Course) × Gives old step mid × GivesAll mid steps new

-- Whether it is the machine's.
abbrev pub is_machine : Step → Bool
is_machine Machine = true
is_machine (Device port) = false
is_machine (Deliver port way count) = false

-- None of them is the machine's.
abbrev pub AreOthers : List Step → Type 0
AreOthers [] = Unit {0}
AreOthers (step ∷ steps) = (is_machine step ≡ false) × AreOthers steps

-- It gives steps up to the machine's next one, and that.
abbrev pub PassesTo : List Step → Course → Course → Type 0
PassesTo passed old new = AreOthers passed × GivesAll old (passed ++ Machine ∷ []) new

-- It gives steps up to and with so many of the machine's.
abbrev pub PassesTurns : ℕ → Course → Course → Type 0
PassesTurns zero old new = old ≡ new
PassesTurns (suc turns) old new =
    (mid : Course) × (passed : List Step) × PassesTo passed old mid × PassesTurns turns mid new
