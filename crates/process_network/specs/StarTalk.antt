-- The hub alone, over links that are functions.
use Rattle.std.specs.Prelude.{◌≡◌, ℕ, zero, suc, List, [], ◌++◌, Option, Some, None, slice_get}
use Rattle.process_network.specs.Network.{Streams}
use Rattle.process_network.specs.Star.{Star, to_leaf}

-- The hub, over received bytes x, is in state h after k turns, and has sent o on the n ports.
abbrev pub IsHubRun : {H L : Type 0} → Star H L → ℕ → H → Streams → ℕ → H → Streams → Type 0
IsHubRun star n hub x zero h o = (h ≡ hub) × ((p : ℕ) → o p ≡ [])
IsHubRun {H} star n hub x (suc k) h o =
    (h₀ : H) × (o₀ : Streams) × (m : Option (ℕ × List ℕ)) × IsHubRun star n hub x k h₀ o₀
    × (star.hub_turn h₀ x ≡ Some (h, m)) × ((p : ℕ) → o p ≡ o₀ p ++ to_leaf n m (suc p))

-- A leaf likewise.
abbrev pub IsLeafRun : {H L : Type 0} → Star H L → L → List ℕ → ℕ → L → List ℕ → Type 0
IsLeafRun star leaf y zero l o = (l ≡ leaf) × (o ≡ [])
IsLeafRun {H} {L} star leaf y (suc k) l o =
    (l₀ : L) × (o₀ : List ℕ) × (more : List ℕ) × IsLeafRun star leaf y k l₀ o₀
    × (star.leaf_turn l₀ y ≡ Some (l, more)) × (o ≡ o₀ ++ more)

-- `said p y`, all that link p gives for sent bytes y, is what leaf p sends when it takes every turn that it can over y.
pub record IsHonestStar {H L : Type 0} (star : Star H L) (leaves : List L) (said : ℕ → List ℕ → List ℕ) : Type 0 where
  pub leaf :
      (p : ℕ) (l : L) → slice_get leaves p ≡ Some l → (y : List ℕ) → (k : ℕ) × (l' : L)
      × IsLeafRun star l y k l' (said p y) × (star.leaf_turn l' y ≡ None)
  pub none : (p : ℕ) → slice_get leaves p ≡ None → (y : List ℕ) → said p y ≡ []

-- `StarTalk .. k x`: x is what the links gave after k rounds, in each of which the hub takes every turn that it can.
abbrev pub StarTalk : {H L : Type 0} → Star H L → ℕ → H → (ℕ → List ℕ → List ℕ) → ℕ → Streams → Type 0
StarTalk star n hub said zero x = (p : ℕ) → x p ≡ said p []
StarTalk {H} star n hub said (suc k) x =
    (x₀ : Streams) × (t : ℕ) × (h : H) × (o : Streams) × StarTalk star n hub said k x₀
    × IsHubRun star n hub x₀ t h o × (star.hub_turn h x₀ ≡ None) × ((p : ℕ) → x p ≡ said p (o p))
