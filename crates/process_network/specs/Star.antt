-- One hub and a list of leaves, with a link from the hub to each leaf. A link is two queues.
use Rattle.std.specs.Prelude.{◌≡◌, ℕ, zero, suc, ◌+◌, ◌≤◌, ◌==◌, Bool, true, false, List, [], ◌∷◌, ◌++◌, length, take, get_or, set, replicate, Option, Some, None, is_some, nat_lt, if◌then◌else◌, slice_get, ◌⊎◌}
use Rattle.process_network.specs.Network.{handed_over, IsPrefix, Streams, Below, Network, World, only, sum_below}
use Rattle.process_network.specs.Network.{Step as NetStep}
use Rattle.process_network.specs.Network.Step.{Turn, Deliver}

-- `hub_turn h x` is what the hub does in state h when it received x p in all at each port p: nothing, or one turn,
-- which gives its next state and may send bytes on one port. `leaf_turn l x` is the same for a leaf, which has one
-- port.
pub record Star (H L : Type 0) : Type 0 where
  pub hub_turn : H → Streams → Option (H × Option (ℕ × List ℕ))
  pub leaf_turn : L → List ℕ → Option (L × List ℕ)

abbrev pub IsStarMonotone : {H L : Type 0} → Star H L → Type 0
IsStarMonotone {H} {L} star =
    ((h : H) (x y : Streams) (r : H × Option (ℕ × List ℕ)) → Below x y → star.hub_turn h x ≡ Some r → star.hub_turn h y
    ≡ Some r)
    × ((l : L) (x y : List ℕ) (r : L × List ℕ) → IsPrefix x y → star.leaf_turn l x ≡ Some r → star.leaf_turn l y
    ≡ Some r)

-- The bytes sent to the leaf and how many of them were delivered, and the bytes sent back.
pub record Link : Type 0 where
  pub out : List ℕ
  pub out_delivered : ℕ
  pub back : List ℕ
  pub back_delivered : ℕ

abbrev pub new_link : Link
new_link = record { out = []; out_delivered = 0; back = []; back_delivered = 0 }

pub record StarWorld (H L : Type 0) : Type 0 where
  pub hub : H
  pub leaves : List L
  pub links : List Link

abbrev pub link : {H L : Type 0} → StarWorld H L → ℕ → Link
link w p = get_or w.links p new_link

-- What the hub received at port p.
abbrev pub hub_received : {H L : Type 0} → StarWorld H L → Streams
hub_received w p = take (link w p).back_delivered (link w p).back

-- What leaf p received.
abbrev pub leaf_received : {H L : Type 0} → StarWorld H L → ℕ → List ℕ
leaf_received w p = take (link w p).out_delivered (link w p).out

pub data StarStep : Type 0 where
  HubTurn : StarStep
  LeafTurn : (port : ℕ) → StarStep
  DeliverOut : (port count : ℕ) → StarStep
  DeliverBack : (port count : ℕ) → StarStep

abbrev pub links_with : List Link → Option (ℕ × List ℕ) → List Link
links_with links None = links
links_with links (Some m) =
    set links m.0 (record (get_or links m.0 new_link) { out = (get_or links m.0 new_link).out ++ m.1 })

abbrev pub after_hub_turn : {H L : Type 0} → StarWorld H L → Option (H × Option (ℕ × List ℕ)) → StarWorld H L
after_hub_turn w None = w
after_hub_turn w (Some r) = record w { hub = r.0; links = links_with w.links r.1 }

abbrev pub after_leaf_turn : {H L : Type 0} → StarWorld H L → ℕ → Option (L × List ℕ) → StarWorld H L
after_leaf_turn w p None = w
after_leaf_turn w p (Some r) = record w {
  leaves = set w.leaves p r.0;
  links = set w.links p (record (link w p) { back = (link w p).back ++ r.1 });
}

-- The turn of leaf p, where there is one.
abbrev pub leaf_turn_of : {H L : Type 0} → Star H L → Option L → List ℕ → Option (L × List ℕ)
leaf_turn_of star None x = None
leaf_turn_of star (Some l) x = star.leaf_turn l x

abbrev pub star_after : {H L : Type 0} → Star H L → StarWorld H L → StarStep → StarWorld H L
star_after star w HubTurn = after_hub_turn w (star.hub_turn w.hub (hub_received w))
star_after star w (LeafTurn p) =
    after_leaf_turn w p (leaf_turn_of star (slice_get w.leaves p) (leaf_received w p))
star_after star w (DeliverOut p k) = record w {
  links =
      set w.links p (record (link w p) { out_delivered = handed_over (link w p).out_delivered (link w p).out k });
}
star_after star w (DeliverBack p k) = record w {
  links =
      set w.links p (record (link w p) { back_delivered = handed_over (link w p).back_delivered (link w p).back k });
}

abbrev pub star_all : {H L : Type 0} → Star H L → StarWorld H L → List StarStep → StarWorld H L
star_all star w [] = w
star_all star w (s ∷ ss) = star_all star (star_after star w s) ss

abbrev pub star_effective : {H L : Type 0} → Star H L → StarWorld H L → StarStep → Bool
star_effective star w HubTurn = is_some (star.hub_turn w.hub (hub_received w))
star_effective star w (LeafTurn p) = is_some (leaf_turn_of star (slice_get w.leaves p) (leaf_received w p))
star_effective star w (DeliverOut p k) =
    nat_lt (link w p).out_delivered (handed_over (link w p).out_delivered (link w p).out k)
star_effective star w (DeliverBack p k) =
    nat_lt (link w p).back_delivered (handed_over (link w p).back_delivered (link w p).back k)

abbrev pub star_effective_steps : {H L : Type 0} → Star H L → StarWorld H L → List StarStep → ℕ
star_effective_steps star w [] = 0
star_effective_steps star w (s ∷ ss) =
    (if star_effective star w s then 1 else 0) + star_effective_steps star (star_after star w s) ss

abbrev pub IsStarQuiescent : {H L : Type 0} → Star H L → StarWorld H L → Type 0
IsStarQuiescent star w = (s : StarStep) → star_effective star w s ≡ false

abbrev pub star_start : {H L : Type 0} → H → List L → StarWorld H L
star_start hub leaves = record { hub = hub; leaves = leaves; links = replicate (length leaves) new_link }

-- How many of the steps are turns that are taken.
abbrev pub one_turn : {H L : Type 0} → Star H L → StarWorld H L → StarStep → ℕ
one_turn star w HubTurn = if star_effective star w HubTurn then 1 else 0
one_turn star w (LeafTurn p) = if star_effective star w (LeafTurn p) then 1 else 0
one_turn star w (DeliverOut p k) = 0
one_turn star w (DeliverBack p k) = 0

abbrev pub star_turns : {H L : Type 0} → Star H L → StarWorld H L → List StarStep → ℕ
star_turns star w [] = 0
star_turns star w (s ∷ ss) = one_turn star w s + star_turns star (star_after star w s) ss

-- How many of them are turns that leaf p takes.
abbrev pub one_leaf_turn : {H L : Type 0} → Star H L → StarWorld H L → ℕ → StarStep → ℕ
one_leaf_turn star w p HubTurn = 0
one_leaf_turn star w p (LeafTurn q) =
    if q == p then (if star_effective star w (LeafTurn q) then 1 else 0) else 0
one_leaf_turn star w p (DeliverOut q k) = 0
one_leaf_turn star w p (DeliverBack q k) = 0

abbrev pub leaf_turns : {H L : Type 0} → Star H L → StarWorld H L → ℕ → List StarStep → ℕ
leaf_turns star w p [] = 0
leaf_turns star w p (s ∷ ss) = one_leaf_turn star w p s + leaf_turns star (star_after star w s) p ss

-- How many bytes the hub has taken at each port, and a leaf. No turn takes more than was received.
pub record Cursors {H L : Type 0} (star : Star H L) (hub : H) (leaves : List L) : Type 0 where
  pub hub_taken : H → ℕ → ℕ
  pub leaf_taken : L → ℕ
  pub hub_start : (p : ℕ) → hub_taken hub p ≡ 0
  pub leaf_start : (p : ℕ) (l : L) → slice_get leaves p ≡ Some l → leaf_taken l ≡ 0
  pub hub_within :
      (h : H) (x : Streams) (r : H × Option (ℕ × List ℕ)) → ((p : ℕ) → hub_taken h p ≤ length (x p))
      → star.hub_turn h x ≡ Some r → (p : ℕ) → hub_taken r.0 p ≤ length (x p)
  pub leaf_within :
      (l : L) (x : List ℕ) (r : L × List ℕ) → leaf_taken l ≤ length x → star.leaf_turn l x ≡ Some r
      → leaf_taken r.0 ≤ length x

-- The world that a schedule leads to.
abbrev pub reached : {H L : Type 0} → Star H L → H → List L → List StarStep → StarWorld H L
reached star hub leaves ss = star_all star (star_start hub leaves) ss

-- How many bytes were sent on the first n ports, both ways.
abbrev pub bytes_sent : {H L : Type 0} → ℕ → StarWorld H L → ℕ
bytes_sent n w = sum_below n (λ p. length (link w p).out + length (link w p).back)

-- Every schedule is compared with `script`, after which nothing is left to do.
pub record IsOneStarResult {H L : Type 0} (star : Star H L) (hub : H) (leaves : List L) (script : List StarStep)
    : Type 0 where
  -- what was sent is a beginning of what the script sends
  pub out_prefix : (ss : List StarStep) (p : ℕ)
      → IsPrefix (link (reached star hub leaves ss) p).out (link (reached star hub leaves script) p).out
  pub back_prefix : (ss : List StarStep) (p : ℕ)
      → IsPrefix (link (reached star hub leaves ss) p).back (link (reached star hub leaves script) p).back
  -- a schedule after which no step is effective ends as the script
  pub same : (ss : List StarStep)
      → IsStarQuiescent star (reached star hub leaves ss)
      → reached star hub leaves ss ≡ reached star hub leaves script
  -- no step is effective, or here is one that is
  pub progress : (ss : List StarStep)
      → IsStarQuiescent star (reached star hub leaves ss)
      ⊎ ((s : StarStep) × (star_effective star (reached star hub leaves ss) s ≡ true))
  -- there are no more effective steps than turns and bytes in the script
  pub bound : (ss : List StarStep)
      → star_effective_steps star (star_start hub leaves) ss
      ≤ star_turns star (star_start hub leaves) script + bytes_sent (length leaves) (reached star hub leaves script)

-- The star as a network: the hub is node 0, leaf p is node p + 1.

pub data StarNode (H L : Type 0) : Type 0 where
  Hub : H → StarNode H L
  Leaf : L → StarNode H L
  Absent : StarNode H L

abbrev pub leaf_of : {H L : Type 0} → Option L → StarNode H L
leaf_of None = Absent
leaf_of (Some l) = Leaf l

abbrev pub node_at : {H L : Type 0} → H → List L → ℕ → StarNode H L
node_at hub leaves zero = Hub hub
node_at hub leaves (suc p) = leaf_of (slice_get leaves p)

abbrev pub sent_at : List Link → ℕ → ℕ → List ℕ
sent_at links zero zero = []
sent_at links zero (suc p) = (get_or links p new_link).out
sent_at links (suc p) zero = (get_or links p new_link).back
sent_at links (suc p) (suc q) = []

abbrev pub delivered_at : List Link → ℕ → ℕ → ℕ
delivered_at links zero zero = 0
delivered_at links zero (suc p) = (get_or links p new_link).out_delivered
delivered_at links (suc p) zero = (get_or links p new_link).back_delivered
delivered_at links (suc p) (suc q) = 0

abbrev pub view : {H L : Type 0} → StarWorld H L → World (StarNode H L)
view w = record { state = node_at w.hub w.leaves; sent = sent_at w.links; delivered = delivered_at w.links }

abbrev pub to_leaf : ℕ → Option (ℕ × List ℕ) → Streams
to_leaf n None = λ j. []
to_leaf n (Some m) = if nat_lt m.0 n then only (suc m.0) m.1 else (λ j. [])

abbrev pub hub_result : {H L : Type 0} → ℕ → Option (H × Option (ℕ × List ℕ)) → Option (StarNode H L × Streams)
hub_result n None = None
hub_result n (Some r) = Some (Hub r.0, to_leaf n r.1)

abbrev pub leaf_result : {H L : Type 0} → Option (L × List ℕ) → Option (StarNode H L × Streams)
leaf_result None = None
leaf_result (Some r) = Some (Leaf r.0, only 0 r.1)

abbrev pub star_turn : {H L : Type 0} → Star H L → ℕ → StarNode H L → Streams → Option (StarNode H L × Streams)
star_turn star n (Hub h) x = hub_result n (star.hub_turn h (λ p. x (suc p)))
star_turn star n (Leaf l) x = leaf_result (star.leaf_turn l (x 0))
star_turn star n Absent x = None

abbrev pub star_network : {H L : Type 0} → Star H L → H → List L → Network (StarNode H L)
star_network star hub leaves = record { start = node_at hub leaves; turn = λ i s x. star_turn star (length leaves) s x }

abbrev pub net_step : StarStep → NetStep
net_step HubTurn = Turn 0
net_step (LeafTurn p) = Turn (suc p)
net_step (DeliverOut p k) = Deliver 0 (suc p) k
net_step (DeliverBack p k) = Deliver (suc p) 0 k
