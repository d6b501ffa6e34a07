-- Rounds: lists of steps that leave out no turn and no queue.
use Rattle.std.specs.Prelude.{◌≡◌, ℕ, zero, suc, ◌<◌, List, [], ◌++◌, Some, slice_get}
use Rattle.process_network.specs.Star.{StarStep}
use Rattle.process_network.specs.Star.StarStep.{HubTurn, LeafTurn, DeliverOut, DeliverBack}

-- A list of steps that has each turn, and a delivery of some bytes on each queue, of n ports.
pub record IsRound (n : ℕ) (xs : List StarStep) : Type 0 where
  pub hub : (i : ℕ) × (slice_get xs i ≡ Some HubTurn)
  pub leaf : (p : ℕ) → p < n → (i : ℕ) × (slice_get xs i ≡ Some (LeafTurn p))
  pub out : (p : ℕ) → p < n → (i : ℕ) × (k : ℕ) × (slice_get xs i ≡ Some (DeliverOut p (suc k)))
  pub back : (p : ℕ) → p < n → (i : ℕ) × (k : ℕ) × (slice_get xs i ≡ Some (DeliverBack p (suc k)))

-- The first n of the lists, joined.
abbrev pub rounds : (ℕ → List StarStep) → ℕ → List StarStep
rounds xs zero = []
rounds xs (suc n) = rounds xs n ++ xs n
