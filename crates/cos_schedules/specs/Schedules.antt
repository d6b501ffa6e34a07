-- The schedules: for each number one, which is rounds of steps without an end.
use Rattle.std.specs.Prelude.{ℕ, zero, suc, ◌+◌, ◌*◌, ◌/◌, ◌%◌, ◌^◌, List, [], ◌∷◌, ◌++◌, take, drop}
use Rattle.cos_schedules.specs.declared.step.Step.{Step}
use Rattle.cos_schedules.specs.declared.step.Step.TheVariants.{Machine, Device, Deliver}
use Rattle.cos_schedules.specs.declared.step.Way.TheVariants.{Out, Back}

-- Draws. The number x after a draw, and what is drawn.

abbrev pub following : ℕ → ℕ
following x = (x * 6364136223846793005 + 1442695040888963407) % 2 ^ 64

abbrev pub drawn : ℕ → ℕ
drawn x = following x / 2 ^ 33

-- The base list of n ports: the machine, then for each port a delivery, its device and a delivery back.

abbrev pub port_steps : ℕ → List Step
port_steps p = Deliver p Out 65556 ∷ Device p ∷ Deliver p Back 65556 ∷ []

-- so many ports from port p on
abbrev pub ports_from : ℕ → ℕ → List Step
ports_from p zero = []
ports_from p (suc n) = port_steps p ++ ports_from (suc p) n

abbrev pub base : ℕ → List Step
base n = Machine ∷ ports_from 0 n

abbrev pub base_length : ℕ → ℕ
base_length n = 3 * n + 1

-- A list from place r to its end, and then up to r.
abbrev pub turned : ℕ → List Step → List Step
turned r steps = drop r steps ++ take r steps

-- Each delivery gets a count that is drawn, 1 to 64. Then the number x after that.

abbrev pub counted : ℕ → List Step → List Step
counted x [] = []
counted x (Machine ∷ steps) = Machine ∷ counted x steps
counted x (Device p ∷ steps) = Device p ∷ counted x steps
counted x (Deliver p way k ∷ steps) = Deliver p way (1 + drawn x % 64) ∷ counted (following x) steps

abbrev pub after_counts : ℕ → List Step → ℕ
after_counts x [] = x
after_counts x (Machine ∷ steps) = after_counts x steps
after_counts x (Device p ∷ steps) = after_counts x steps
after_counts x (Deliver p way k ∷ steps) = after_counts (following x) steps

-- The round that begins with x, of schedule `number` over n ports: the base list, which above schedule 0 begins at a
-- place that is drawn.

abbrev pub from_drawn_place : ℕ → ℕ → List Step
from_drawn_place n x = turned (drawn x % base_length n) (base n)

abbrev pub round : ℕ → ℕ → ℕ → List Step
round zero n x = base n
round (suc number) n x = counted (following x) (from_drawn_place n x)

-- The number x after it.
abbrev pub after_round : ℕ → ℕ → ℕ → ℕ
after_round zero n x = x
after_round (suc number) n x = after_counts (following x) (from_drawn_place n x)

-- Round i. The first begins with the schedule's number.

abbrev pub x_at : ℕ → ℕ → ℕ → ℕ
x_at number n zero = number
x_at number n (suc i) = after_round number n (x_at number n i)

abbrev pub round_at : ℕ → ℕ → ℕ → List Step
round_at number n i = round number n (x_at number n i)

-- The first so many rounds, one after another.
abbrev pub first_rounds : ℕ → ℕ → ℕ → List Step
first_rounds number n zero = []
first_rounds number n (suc i) = first_rounds number n i ++ round_at number n i
