-- A star with a relay on each link: a hub, and at each port a relay with a leaf behind it. A link is two pairs of
-- queues.
use Rattle.std.specs.Prelude.{◌≡◌, ℕ, zero, suc, ◌+◌, ◌≤◌, ◌⊎◌, ◌==◌, if◌then◌else◌, true, List, [], ◌∷◌, ◌++◌, length, set, map, Option, Some, None, slice_get}
use Rattle.process_network.specs.Network.{IsPrefix, Streams, Network, World, Step, outcome, start, effective_steps, is_effective, IsQuiescent, IsRun, IsSame, sum_below}
use Rattle.process_network.specs.CalmRun.{one_if_some}
use Rattle.process_network.specs.Star.{Star, IsStarMonotone, to_leaf}

-- The turns of a hub and of a leaf, and those of a relay: `relay_turn r x y` is what it does in state r when it
-- received x in all from the hub and y from the leaf: nothing, or one turn, which gives its next state and what it
-- sends to the leaf and to the hub.
pub record RelayStar (H R L : Type 0) : Type 0 where
  pub star : Star H L
  pub relay_turn : R → List ℕ → List ℕ → Option (R × (List ℕ × List ℕ))

-- The nodes: 0 is the hub, and after it each port has two, its relay and its leaf.
pub data Place : Type 0 where
  AtHub : Place
  AtRelay : (port : ℕ) → Place
  AtLeaf : (port : ℕ) → Place

abbrev pub next_place : Place → Place
next_place AtHub = AtRelay 0
next_place (AtRelay p) = AtLeaf p
next_place (AtLeaf p) = AtRelay (suc p)

abbrev pub place : ℕ → Place
place zero = AtHub
place (suc i) = next_place (place i)

abbrev pub twice : ℕ → ℕ
twice zero = zero
twice (suc p) = suc (suc (twice p))

abbrev pub number : Place → ℕ
number AtHub = 0
number (AtRelay p) = suc (twice p)
number (AtLeaf p) = suc (suc (twice p))

pub data RelayNode (H R L : Type 0) : Type 0 where
  TheHub : H → RelayNode H R L
  TheRelay : R → RelayNode H R L
  TheLeaf : L → RelayNode H R L
  NoNode : RelayNode H R L

-- What a turn sends, by the place that it is for.

abbrev pub hub_sends : ℕ → Option (ℕ × List ℕ) → Place → List ℕ
hub_sends n m AtHub = []
hub_sends n m (AtRelay p) = to_leaf n m (suc p)
hub_sends n m (AtLeaf p) = []

abbrev pub relay_sends : ℕ → List ℕ × List ℕ → Place → List ℕ
relay_sends p b AtHub = b.1
relay_sends p b (AtRelay q) = []
relay_sends p b (AtLeaf q) = if q == p then b.0 else []

abbrev pub leaf_sends : ℕ → List ℕ → Place → List ℕ
leaf_sends p b AtHub = []
leaf_sends p b (AtRelay q) = if q == p then b else []
leaf_sends p b (AtLeaf q) = []

abbrev pub hub_place_turn :
    {H R L : Type 0} → ℕ → Option (H × Option (ℕ × List ℕ)) → Option (RelayNode H R L × (Place → List ℕ))
hub_place_turn n None = None
hub_place_turn n (Some r) = Some (TheHub r.0, hub_sends n r.1)

abbrev pub relay_place_turn :
    {H R L : Type 0} → ℕ → Option (R × (List ℕ × List ℕ)) → Option (RelayNode H R L × (Place → List ℕ))
relay_place_turn p None = None
relay_place_turn p (Some r) = Some (TheRelay r.0, relay_sends p r.1)

abbrev pub leaf_place_turn :
    {H R L : Type 0} → ℕ → Option (L × List ℕ) → Option (RelayNode H R L × (Place → List ℕ))
leaf_place_turn p None = None
leaf_place_turn p (Some r) = Some (TheLeaf r.0, leaf_sends p r.1)

-- The turn of a node at a place, with n ports, when it received x from each place.
abbrev pub place_turn :
    {H R L : Type 0} → RelayStar H R L → ℕ → Place → RelayNode H R L → (Place → List ℕ)
    → Option (RelayNode H R L × (Place → List ℕ))
place_turn rs n AtHub (TheHub h) x = hub_place_turn n (rs.star.hub_turn h (λ p. x (AtRelay p)))
place_turn rs n (AtRelay p) (TheRelay r) x = relay_place_turn p (rs.relay_turn r (x AtHub) (x (AtLeaf p)))
place_turn rs n (AtLeaf p) (TheLeaf l) x = leaf_place_turn p (rs.star.leaf_turn l (x (AtRelay p)))
place_turn rs n q s x = None

abbrev pub by_number : {S : Type 0} → Option (S × (Place → List ℕ)) → Option (S × Streams)
by_number None = None
by_number (Some r) = Some (r.0, λ j. r.1 (place j))

abbrev pub relay_at : {H R L : Type 0} → R → Option L → RelayNode H R L
relay_at r None = NoNode
relay_at r (Some l) = TheRelay r

abbrev pub leaf_at : {H R L : Type 0} → Option L → RelayNode H R L
leaf_at None = NoNode
leaf_at (Some l) = TheLeaf l

-- Each relay begins in state `relay`.
abbrev pub place_start : {H R L : Type 0} → H → R → List L → Place → RelayNode H R L
place_start hub relay leaves AtHub = TheHub hub
place_start hub relay leaves (AtRelay p) = relay_at relay (slice_get leaves p)
place_start hub relay leaves (AtLeaf p) = leaf_at (slice_get leaves p)

abbrev pub relay_network : {H R L : Type 0} → RelayStar H R L → H → R → List L → Network (RelayNode H R L)
relay_network rs hub relay leaves = record {
  start = λ i. place_start hub relay leaves (place i);
  turn = λ i s x. by_number (place_turn rs (length leaves) (place i) s (λ q. x (number q)));
}

-- A run in which all is delivered as soon as it is sent.

-- A relay with its leaf, and the bytes sent on the four queues.
pub record RelayPort (R L : Type 0) : Type 0 where
  pub relay : R
  pub leaf : L
  pub hub_relay : List ℕ
  pub relay_leaf : List ℕ
  pub leaf_relay : List ℕ
  pub relay_hub : List ℕ

pub record RelayCalm (H R L : Type 0) : Type 0 where
  pub hub : H
  pub ports : List (RelayPort R L)

pub data RelayMove : Type 0 where
  MoveHub : RelayMove
  MoveRelay : (port : ℕ) → RelayMove
  MoveLeaf : (port : ℕ) → RelayMove

-- A field of the port, where there is one.
abbrev pub field_of : {A X : Type 0} → (A → X) → X → Option A → X
field_of f d None = d
field_of f d (Some q) = f q

abbrev pub port_sent :
    {R L : Type 0} → List (RelayPort R L) → ℕ × List ℕ → Option (RelayPort R L) → List (RelayPort R L)
port_sent ports m None = ports
port_sent ports m (Some q) = set ports m.0 (record q { hub_relay = q.hub_relay ++ m.1 })

abbrev pub ports_sent : {R L : Type 0} → List (RelayPort R L) → Option (ℕ × List ℕ) → List (RelayPort R L)
ports_sent ports None = ports
ports_sent ports (Some m) = port_sent ports m (slice_get ports m.0)

abbrev pub calm_hub : {H R L : Type 0} → RelayCalm H R L → Option (H × Option (ℕ × List ℕ)) → RelayCalm H R L
calm_hub c None = c
calm_hub c (Some r) = record { hub = r.0; ports = ports_sent c.ports r.1 }

abbrev pub calm_relay :
    {H R L : Type 0} → RelayCalm H R L → ℕ → RelayPort R L → Option (R × (List ℕ × List ℕ)) → RelayCalm H R L
calm_relay c p q None = c
calm_relay c p q (Some r) = record c {
  ports = set c.ports p (record q {
    relay = r.0;
    relay_leaf = q.relay_leaf ++ r.1.0;
    relay_hub = q.relay_hub ++ r.1.1;
  });
}

abbrev pub calm_leaf :
    {H R L : Type 0} → RelayCalm H R L → ℕ → RelayPort R L → Option (L × List ℕ) → RelayCalm H R L
calm_leaf c p q None = c
calm_leaf c p q (Some r) =
    record c { ports = set c.ports p (record q { leaf = r.0; leaf_relay = q.leaf_relay ++ r.1 }) }

-- The hub's turn over all that the relays have sent to it, a relay's over all that was sent to it, and a leaf's.
abbrev pub hub_turn_now :
    {H R L : Type 0} → RelayStar H R L → RelayCalm H R L → Option (H × Option (ℕ × List ℕ))
hub_turn_now rs c = rs.star.hub_turn c.hub (λ p. field_of (λ q. q.relay_hub) [] (slice_get c.ports p))

abbrev pub relay_turn_now : {H R L : Type 0} → RelayStar H R L → RelayPort R L → Option (R × (List ℕ × List ℕ))
relay_turn_now rs q = rs.relay_turn q.relay q.hub_relay q.leaf_relay

abbrev pub leaf_turn_now : {H R L : Type 0} → RelayStar H R L → RelayPort R L → Option (L × List ℕ)
leaf_turn_now rs q = rs.star.leaf_turn q.leaf q.relay_leaf

abbrev pub relay_moved :
    {H R L : Type 0} → RelayStar H R L → RelayCalm H R L → ℕ → Option (RelayPort R L) → RelayCalm H R L
relay_moved rs c p None = c
relay_moved rs c p (Some q) = calm_relay c p q (relay_turn_now rs q)

abbrev pub leaf_moved :
    {H R L : Type 0} → RelayStar H R L → RelayCalm H R L → ℕ → Option (RelayPort R L) → RelayCalm H R L
leaf_moved rs c p None = c
leaf_moved rs c p (Some q) = calm_leaf c p q (leaf_turn_now rs q)

abbrev pub relay_calm_after : {H R L : Type 0} → RelayStar H R L → RelayCalm H R L → RelayMove → RelayCalm H R L
relay_calm_after rs c MoveHub = calm_hub c (hub_turn_now rs c)
relay_calm_after rs c (MoveRelay p) = relay_moved rs c p (slice_get c.ports p)
relay_calm_after rs c (MoveLeaf p) = leaf_moved rs c p (slice_get c.ports p)

abbrev pub relay_calm_all :
    {H R L : Type 0} → RelayStar H R L → RelayCalm H R L → List RelayMove → RelayCalm H R L
relay_calm_all rs c [] = c
relay_calm_all rs c (m ∷ ms) = relay_calm_all rs (relay_calm_after rs c m) ms

abbrev pub new_port : {R L : Type 0} → R → L → RelayPort R L
new_port relay leaf =
    record { relay = relay; leaf = leaf; hub_relay = []; relay_leaf = []; leaf_relay = []; relay_hub = [] }

abbrev pub relay_calm_start : {H R L : Type 0} → H → R → List L → RelayCalm H R L
relay_calm_start hub relay leaves = record { hub = hub; ports = map (new_port relay) leaves }

-- Nothing can move.
pub record IsRelayAtRest {H R L : Type 0} (rs : RelayStar H R L) (c : RelayCalm H R L) : Type 0 where
  pub hub : hub_turn_now rs c ≡ None
  pub relay : (p : ℕ) (q : RelayPort R L) → slice_get c.ports p ≡ Some q → relay_turn_now rs q ≡ None
  pub leaf : (p : ℕ) (q : RelayPort R L) → slice_get c.ports p ≡ Some q → leaf_turn_now rs q ≡ None

-- More received bytes change no turn that can be taken.
abbrev pub IsRelayMonotone : {H R L : Type 0} → RelayStar H R L → Type 0
IsRelayMonotone {H} {R} {L} rs =
    IsStarMonotone rs.star
    × ((r : R) (x x' y y' : List ℕ) (t : R × (List ℕ × List ℕ))
    → IsPrefix x x' → IsPrefix y y' → rs.relay_turn r x y ≡ Some t → rs.relay_turn r x' y' ≡ Some t)

-- The state of each place, and what it sent to each place.

abbrev pub state_at : {H R L : Type 0} → RelayCalm H R L → Place → RelayNode H R L
state_at c AtHub = TheHub c.hub
state_at c (AtRelay p) = field_of (λ q. TheRelay q.relay) NoNode (slice_get c.ports p)
state_at c (AtLeaf p) = field_of (λ q. TheLeaf q.leaf) NoNode (slice_get c.ports p)

abbrev pub sent_at : {H R L : Type 0} → RelayCalm H R L → Place → Place → List ℕ
sent_at c AtHub (AtRelay p) = field_of (λ q. q.hub_relay) [] (slice_get c.ports p)
sent_at c (AtRelay p) AtHub = field_of (λ q. q.relay_hub) [] (slice_get c.ports p)
sent_at c (AtRelay p) (AtLeaf q) = if q == p then field_of (λ q. q.relay_leaf) [] (slice_get c.ports p) else []
sent_at c (AtLeaf p) (AtRelay q) = if q == p then field_of (λ q. q.leaf_relay) [] (slice_get c.ports p) else []
sent_at c a b = []

-- How many moves of a list are taken.

abbrev pub one_relay_move : {H R L : Type 0} → RelayStar H R L → RelayCalm H R L → RelayMove → ℕ
one_relay_move rs c MoveHub = one_if_some (hub_turn_now rs c)
one_relay_move rs c (MoveRelay p) = field_of (λ q. one_if_some (relay_turn_now rs q)) 0 (slice_get c.ports p)
one_relay_move rs c (MoveLeaf p) = field_of (λ q. one_if_some (leaf_turn_now rs q)) 0 (slice_get c.ports p)

abbrev pub relay_moves_taken : {H R L : Type 0} → RelayStar H R L → RelayCalm H R L → List RelayMove → ℕ
relay_moves_taken rs c [] = 0
relay_moves_taken rs c (m ∷ ms) = one_relay_move rs c m + relay_moves_taken rs (relay_calm_after rs c m) ms

-- How many bytes were sent on the four queues of the first n ports.
abbrev pub relay_bytes : {H R L : Type 0} → ℕ → RelayCalm H R L → ℕ
relay_bytes n c = sum_below n (λ p.
    length (sent_at c AtHub (AtRelay p))
    + length (sent_at c (AtRelay p) AtHub)
    + length (field_of (λ q. q.relay_leaf) [] (slice_get c.ports p))
    + length (field_of (λ q. q.leaf_relay) [] (slice_get c.ports p)))

-- The world in which all is delivered.
abbrev pub relay_world : {H R L : Type 0} → RelayCalm H R L → World (RelayNode H R L)
relay_world c = record {
  state = λ i. state_at c (place i);
  sent = λ i j. sent_at c (place i) (place j);
  delivered = λ i j. length (sent_at c (place i) (place j));
}

-- Every schedule is compared with a calm run that ends in `final`, where nothing can move.
pub record IsRelayResult {H R L : Type 0} (rs : RelayStar H R L) (hub : H) (relay : R) (leaves : List L)
    (moves : List RelayMove) (final : RelayCalm H R L) : Type 0 where
  -- what was sent is a beginning of what the calm run sends
  pub prefix : (ss : List Step) (a b : Place)
      → IsPrefix ((outcome (relay_network rs hub relay leaves) ss).sent (number a) (number b)) (sent_at final a b)
  -- each node is in a state through which it goes over all that it receives in the calm run
  pub on_the_way : (ss : List Step) (a : Place)
      → (k : ℕ) × IsRun (relay_network rs hub relay leaves) (number a) (λ j. sent_at final (place j) a) k
      ((outcome (relay_network rs hub relay leaves) ss).state (number a))
      ((outcome (relay_network rs hub relay leaves) ss).sent (number a))
  -- a schedule after which no step is effective ends in `final`
  pub same : (ss : List Step)
      → IsQuiescent (relay_network rs hub relay leaves) (outcome (relay_network rs hub relay leaves) ss)
      → IsSame (outcome (relay_network rs hub relay leaves) ss) (relay_world final)
  -- no step is effective, or here is one that is
  pub progress : (ss : List Step)
      → IsQuiescent (relay_network rs hub relay leaves) (outcome (relay_network rs hub relay leaves) ss)
      ⊎ ((s : Step)
      × (is_effective (relay_network rs hub relay leaves) (outcome (relay_network rs hub relay leaves) ss) s
      ≡ true))
  -- there are no more effective steps than moves, and bytes on the four queues of each port
  pub bound : (ss : List Step)
      → effective_steps (relay_network rs hub relay leaves) (start (relay_network rs hub relay leaves)) ss
      ≤ relay_moves_taken rs (relay_calm_start hub relay leaves) moves + relay_bytes (length leaves) final
