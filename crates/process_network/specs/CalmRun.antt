-- A star whose bytes are delivered as soon as they are sent.
use Rattle.std.specs.Prelude.{◌≡◌, ℕ, suc, ◌+◌, ◌<◌, ◌≤◌, ◌⊎◌, ◌==◌, if◌then◌else◌, true, List, [], ◌∷◌, ◌++◌, length, get_or, set, replicate, map, Option, Some, None, slice_get}
use Rattle.process_network.specs.Network.{IsPrefix, sum_below}
use Rattle.process_network.specs.Star.{reached, Star, Link, StarWorld, StarStep, leaf_turn_of, link, star_start, star_effective, star_effective_steps, IsStarQuiescent, Cursors}
use Rattle.process_network.specs.Star.StarStep.{HubTurn, LeafTurn, DeliverOut, DeliverBack}

-- `traffic` has, for each port, the bytes sent to the leaf and the bytes sent back.
pub record Calm (H L : Type 0) : Type 0 where
  pub hub : H
  pub leaves : List L
  pub traffic : List (List ℕ × List ℕ)

pub data Move : Type 0 where
  HubMoves : Move
  LeafMoves : (port : ℕ) → Move

abbrev pub no_traffic : List ℕ × List ℕ
no_traffic = ([], [])

abbrev pub traffic_at : List (List ℕ × List ℕ) → ℕ → List ℕ × List ℕ
traffic_at traffic p = get_or traffic p no_traffic

abbrev pub traffic_with : List (List ℕ × List ℕ) → Option (ℕ × List ℕ) → List (List ℕ × List ℕ)
traffic_with traffic None = traffic
traffic_with traffic (Some m) = set traffic m.0 ((traffic_at traffic m.0).0 ++ m.1, (traffic_at traffic m.0).1)

abbrev pub calm_hub_turn : {H L : Type 0} → Star H L → Calm H L → Option (H × Option (ℕ × List ℕ))
calm_hub_turn star c = star.hub_turn c.hub (λ p. (traffic_at c.traffic p).1)

abbrev pub calm_leaf_turn : {H L : Type 0} → Star H L → Calm H L → ℕ → Option (L × List ℕ)
calm_leaf_turn star c p = leaf_turn_of star (slice_get c.leaves p) (traffic_at c.traffic p).0

abbrev pub calm_after_hub : {H L : Type 0} → Calm H L → Option (H × Option (ℕ × List ℕ)) → Calm H L
calm_after_hub c None = c
calm_after_hub c (Some r) = record { hub = r.0; leaves = c.leaves; traffic = traffic_with c.traffic r.1 }

abbrev pub calm_after_leaf : {H L : Type 0} → Calm H L → ℕ → Option (L × List ℕ) → Calm H L
calm_after_leaf c p None = c
calm_after_leaf c p (Some r) =
    record {
      hub = c.hub;
      leaves = set c.leaves p r.0;
      traffic = set c.traffic p ((traffic_at c.traffic p).0, (traffic_at c.traffic p).1 ++ r.1);
    }

abbrev pub calm_after : {H L : Type 0} → Star H L → Calm H L → Move → Calm H L
calm_after star c HubMoves = calm_after_hub c (calm_hub_turn star c)
calm_after star c (LeafMoves p) = calm_after_leaf c p (calm_leaf_turn star c p)

abbrev pub calm_all : {H L : Type 0} → Star H L → Calm H L → List Move → Calm H L
calm_all star c [] = c
calm_all star c (m ∷ ms) = calm_all star (calm_after star c m) ms

abbrev pub calm_start : {H L : Type 0} → H → List L → Calm H L
calm_start hub leaves = record { hub = hub; leaves = leaves; traffic = replicate (length leaves) no_traffic }

-- Nothing can move.
pub record IsAtRest {H L : Type 0} (star : Star H L) (c : Calm H L) : Type 0 where
  pub hub : calm_hub_turn star c ≡ None
  pub leaf : (p : ℕ) → calm_leaf_turn star c p ≡ None

-- The steps of a move.
abbrev pub out_steps : Option (ℕ × List ℕ) → List StarStep
out_steps None = []
out_steps (Some m) = DeliverOut m.0 (length m.1) ∷ []

abbrev pub hub_steps : {H : Type 0} → Option (H × Option (ℕ × List ℕ)) → List StarStep
hub_steps None = []
hub_steps (Some r) = HubTurn ∷ out_steps r.1

abbrev pub leaf_steps : {L : Type 0} → ℕ → Option (L × List ℕ) → List StarStep
leaf_steps p None = []
leaf_steps p (Some r) = LeafTurn p ∷ DeliverBack p (length r.1) ∷ []

abbrev pub move_steps : {H L : Type 0} → Star H L → Calm H L → Move → List StarStep
move_steps star c HubMoves = hub_steps (calm_hub_turn star c)
move_steps star c (LeafMoves p) = leaf_steps p (calm_leaf_turn star c p)

abbrev pub script_of : {H L : Type 0} → Star H L → Calm H L → List Move → List StarStep
script_of star c [] = []
script_of star c (m ∷ ms) = move_steps star c m ++ script_of star (calm_after star c m) ms

-- How many moves are taken.
abbrev pub one_if_some : {A : Type 0} → Option A → ℕ
one_if_some None = 0
one_if_some (Some r) = 1

abbrev pub one_move : {H L : Type 0} → Star H L → Calm H L → Move → ℕ
one_move star c HubMoves = one_if_some (calm_hub_turn star c)
one_move star c (LeafMoves p) = one_if_some (calm_leaf_turn star c p)

abbrev pub moves_taken : {H L : Type 0} → Star H L → Calm H L → List Move → ℕ
moves_taken star c [] = 0
moves_taken star c (m ∷ ms) = one_move star c m + moves_taken star (calm_after star c m) ms

abbrev pub delivered_link : List ℕ × List ℕ → Link
delivered_link t = record { out = t.0; out_delivered = length t.0; back = t.1; back_delivered = length t.1 }

-- The world in which all is delivered.
abbrev pub all_delivered : {H L : Type 0} → Calm H L → StarWorld H L
all_delivered c = record { hub = c.hub; leaves = c.leaves; links = map delivered_link c.traffic }

-- How many moves of leaf p are taken.
abbrev pub one_leaf_move : {H L : Type 0} → Star H L → Calm H L → ℕ → Move → ℕ
one_leaf_move star c p HubMoves = 0
one_leaf_move star c p (LeafMoves q) = if q == p then one_if_some (calm_leaf_turn star c q) else 0

abbrev pub leaf_moves_taken : {H L : Type 0} → Star H L → Calm H L → ℕ → List Move → ℕ
leaf_moves_taken star c p [] = 0
leaf_moves_taken star c p (m ∷ ms) = one_leaf_move star c p m + leaf_moves_taken star (calm_after star c m) p ms

-- Where a calm run from the start ends.
abbrev pub calm_end : {H L : Type 0} → Star H L → H → List L → List Move → Calm H L
calm_end star hub leaves moves = calm_all star (calm_start hub leaves) moves

-- Leaf p takes no move, or it sends in its last one, which comes after the moves `before`.
abbrev pub EndsBySending : {H L : Type 0} → Star H L → H → List L → List Move → ℕ → Type 0
EndsBySending star hub leaves moves p =
    (leaf_moves_taken star (calm_start hub leaves) p moves ≡ 0)
    ⊎ ((before : List Move)
    × (leaf_moves_taken star (calm_start hub leaves) p moves
    ≡ suc (leaf_moves_taken star (calm_start hub leaves) p before))
    × (length (traffic_at (calm_end star hub leaves before).traffic p).1
    < length (traffic_at (calm_end star hub leaves moves).traffic p).1))

-- In a calm run that ends at rest: all is taken, and each leaf ends by sending.
pub record IsHubLast {H L : Type 0} (star : Star H L) (hub : H) (leaves : List L) (c : Cursors star hub leaves)
    (moves : List Move) : Type 0 where
  pub hub_all : (p : ℕ)
      → c.hub_taken (calm_end star hub leaves moves).hub p
      ≡ length (traffic_at (calm_end star hub leaves moves).traffic p).1
  pub leaf_all : (p : ℕ) (l : L) → slice_get (calm_end star hub leaves moves).leaves p ≡ Some l
      → c.leaf_taken l ≡ length (traffic_at (calm_end star hub leaves moves).traffic p).0
  pub ends : (p : ℕ) → p < length leaves → EndsBySending star hub leaves moves p

-- How many bytes the traffic of the first n ports has, both ways.
abbrev pub traffic_bytes : ℕ → List (List ℕ × List ℕ) → ℕ
traffic_bytes n traffic = sum_below n (λ p. length (traffic_at traffic p).0 + length (traffic_at traffic p).1)

-- Every schedule is compared with a calm run that ends in `final`, where nothing can move.
pub record IsCalmResult {H L : Type 0} (star : Star H L) (hub : H) (leaves : List L) (moves : List Move)
    (final : Calm H L) : Type 0 where
  -- what was sent is a beginning of the traffic
  pub out_prefix : (ss : List StarStep) (p : ℕ)
      → IsPrefix (link (reached star hub leaves ss) p).out (traffic_at final.traffic p).0
  pub back_prefix : (ss : List StarStep) (p : ℕ)
      → IsPrefix (link (reached star hub leaves ss) p).back (traffic_at final.traffic p).1
  -- a schedule after which no step is effective ends in `final`
  pub same : (ss : List StarStep)
      → IsStarQuiescent star (reached star hub leaves ss)
      → reached star hub leaves ss ≡ all_delivered final
  -- no step is effective, or here is one that is
  pub progress : (ss : List StarStep)
      → IsStarQuiescent star (reached star hub leaves ss)
      ⊎ ((s : StarStep) × (star_effective star (reached star hub leaves ss) s ≡ true))
  -- there are no more effective steps than moves, and bytes of the traffic
  pub bound : (ss : List StarStep)
      → star_effective_steps star (star_start hub leaves) ss
      ≤ moves_taken star (calm_start hub leaves) moves + traffic_bytes (length leaves) final.traffic
