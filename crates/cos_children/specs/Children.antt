-- What a spawner tells: the children that it started, what waiting for them gave, and which of them run. And what its
-- calls do to them.
use Rattle.std.specs.Prelude.{◌≡◌, ◌==◌, ℕ, ◌<◌, List, [], ◌∷◌, ◌++◌, IfSome, IsSomeAnd, IsErrOf, MatchResult}
use Rattle.std.specs.Prelude.{count_by, filter, map, not}
use Rattle.std.specs.declared.option.Option.{Option}
use Rattle.std.specs.declared.option.Option.TheVariants.{Some, None}
use Rattle.std.specs.declared.result.Result.{Result}
use Rattle.cos_children.specs.declared.spawners.SpawnFault.{SpawnFault}
use Rattle.cos_children.specs.declared.spawners.SpawnFault.TheVariants as spawn
use Rattle.cos_base.specs.Counts.{Rises}

pub record Children : Type 0 where
  -- the words of each child that was started, with its number, in order
  pub started : List (List (List ℕ) × ℕ)
  -- the numbers and statuses that waiting gave, in order
  pub ended : List (ℕ × ℕ)
  -- the children that were started and not yet waited for
  pub running : List ℕ

-- how often a number stands in a list
abbrev pub times : ℕ → List ℕ → ℕ
times n ns = count_by (λ m. m == n) ns

-- the others of a list
abbrev pub without : ℕ → List ℕ → List ℕ
without n ns = filter (λ m. not (m == n)) ns

-- how often a number was started, and how often waiting for it gave a status
abbrev pub starts_of : ℕ → Children → ℕ
starts_of n c = times n (map (λ s. s.1) c.started)

abbrev pub ends_of : ℕ → Children → ℕ
ends_of n c = times n (map (λ e. e.0) c.ended)

-- a child runs
abbrev pub Runs : Children → ℕ → Type 0
Runs c n = 0 < times n c.running

-- a number is no child's yet
pub record IsNew (c : Children) (n : ℕ) : Type 0 where
  pub unstarted : starts_of n c ≡ 0
  pub unended : ends_of n c ≡ 0

-- What always holds of children: each that runs was started exactly once, and hasn't ended.
pub record AreChildren (c : Children) : Type 0 where
  pub started_once : (n : ℕ) → Runs c n → starts_of n c ≡ 1
  pub unended : (n : ℕ) → Runs c n → ends_of n c ≡ 0

-- one more child was started, and runs
abbrev pub with_started : Children → List (List ℕ) → ℕ → Children
with_started c words n =
    record { started = c.started ++ (words, n) ∷ []; ended = c.ended; running = c.running ++ n ∷ [] }

-- a child doesn't run any more
abbrev pub with_stopped : Children → ℕ → Children
with_stopped c n = record { started = c.started; ended = c.ended; running = without n c.running }

-- and waiting for it gave a status
abbrev pub with_ended : Children → ℕ → ℕ → Children
with_ended c n status =
    record { started = c.started; ended = c.ended ++ (n, status) ∷ []; running = without n c.running }

-- the count of faults, by what a call of a spawner answered
abbrev pub SpawnCounts : {T : Type 0} → ℕ → ℕ → Result T SpawnFault → Type 0
SpawnCounts before now result =
    MatchResult result (λ _. now ≡ before)
    (λ e. elim e [ spawn.Failed ↦ Rises before now | spawn.NoMemory ↦ now ≡ before ])

-- What a start did to what is told: an answer gives a new number, and a refusal changes nothing. What isn't told before
-- a call isn't told after it.
abbrev pub Starts : Option Children → Option Children → List (List ℕ) → Result ℕ SpawnFault → Type 0
Starts None new words result = new ≡ None
Starts (Some c) new words result =
    MatchResult result
    (λ n. IsNew c n × (new ≡ Some (with_started c words n)))
    (λ _. IfSome new (λ d. d ≡ c))

-- What a wait did to what is told: only a child that runs gives a status, and none runs after its wait, whatever it
-- answers.
abbrev pub Waits : Option Children → Option Children → ℕ → Result ℕ SpawnFault → Type 0
Waits None new child result = new ≡ None
Waits (Some c) new child result =
    MatchResult result
    (λ status. Runs c child × (new ≡ Some (with_ended c child status)))
    (λ _. IfSome new (λ d. d ≡ with_stopped c child))

-- a sound spawner fails to wait only for a child that doesn't run
abbrev pub WaitsSoundly : {T : Type 0} → Option Children → ℕ → Result T SpawnFault → Type 0
WaitsSoundly old child result = IsErrOf result spawn.Failed → IsSomeAnd old (λ c. Runs c child → ⊥)
