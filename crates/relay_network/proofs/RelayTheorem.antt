-- The theorem on every schedule of a star with relays, from a calm run.
use Rattle.std.proofs.Common.{◌≡◌, ℕ, zero, suc, ◌+◌, ◌<◌, ◌≤◌, ◌==◌, ⊎_elim, Bool, true, false, List, [], ◌∷◌, length, map, Option, Some, None, slice_get, option_map, if◌then◌else◌, refl, sym, ap, ap₂, ◌∙◌, subst, arith, length-set, eqb-true, add-le-add, le_trans}
use Rattle.std.proofs.lemmas.List.{length-map}
use Rattle.std.proofs.lemmas.Option.{none-some, slice_get-map, slice_get_past}
use Rattle.process_network.specs.Network.{received, update, IsPrefix, Streams, Network, World, start, outcome, Step, IsRun, IsSmall, turns, sum_below, effective_steps}
use Rattle.process_network.specs.CalmRun.{one_if_some}
use Rattle.relay_network.specs.RelayStar.{RelayStar, Place, place, twice, number, RelayNode, place_turn, by_number, place_start, relay_at, leaf_at, hub_place_turn, relay_place_turn, leaf_place_turn, relay_network, RelayPort, RelayCalm, RelayMove, field_of, port_sent, ports_sent, calm_hub, calm_relay, calm_leaf, hub_turn_now, relay_turn_now, leaf_turn_now, relay_moved, leaf_moved, relay_calm_after, relay_calm_all, new_port, relay_calm_start, IsRelayAtRest, IsRelayMonotone, state_at, sent_at, one_relay_move, relay_moves_taken, relay_bytes, relay_world, IsRelayResult}
use Rattle.relay_network.specs.RelayStar.Place.{AtHub, AtRelay, AtLeaf}
use Rattle.relay_network.specs.RelayStar.RelayNode.{NoNode}
use Rattle.relay_network.specs.RelayStar.RelayMove.{MoveHub, MoveRelay, MoveLeaf}
use Rattle.process_network.proofs.Prefixes.{le_or_lt}
use Rattle.process_network.proofs.Sums.{sum_le, sum_same}
use Rattle.process_network.proofs.StarTheorem.{sum_first, sum_add, sum_update_le}
use Rattle.process_network.proofs.ReachableWorlds.{IsFinal, Under, final_closed, final_received, on_the_way}
use Rattle.process_network.proofs.QuiescentWorlds.{quiescent_final, agree, schedule_run, schedule_under}
use Rattle.process_network.proofs.StepBound.{effective_bound}
use Rattle.process_network.proofs.HaltedNode.{runs_lead}
use Rattle.process_network.proofs.Progress.{progress}
use Rattle.relay_network.proofs.RelayNetwork.{place_number, number_place, grown_start, grown_same, grown_run, handed_received, relay_monotone, at_self, turn_is, CalmGrown, relay_node, leaf_node, hub_moves, relay_moves, leaf_moves}

-- Lists of ports keep their length.

ports_length : {R L : Type 0} (ports : List (RelayPort R L)) (o : Option (ℕ × List ℕ)) → length (ports_sent ports o) ≡ length ports
ports_length ports None = refl
ports_length {R} {L} ports (Some m) = go (slice_get ports m.0)
  where
    go : (o : Option (RelayPort R L)) → length (port_sent ports m o) ≡ length ports
    go None = refl
    go (Some q) = length-set ports m.0 _

module _ {H R L : Type 0} (rs : RelayStar H R L) (monotone : IsRelayMonotone rs) (hub : H) (relay : R) (leaves : List L) where
  abbrev pub net : Network (RelayNode H R L)
  net = relay_network rs hub relay leaves

  -- How many nodes there are.
  abbrev pub nodes : ℕ
  nodes = suc (twice (length leaves))

  -- What a run of moves leads to.
  abbrev Led : RelayCalm H R L → (ℕ → ℕ) → ℕ → Type 0
  Led c k more = (k' : ℕ → ℕ) × CalmGrown rs monotone hub relay leaves c k' × (sum_below nodes k' ≤ sum_below nodes k + more) × (length c.ports ≡ length leaves)

  move_leads : (c : RelayCalm H R L) (k : ℕ → ℕ) (m : RelayMove) → length c.ports ≡ length leaves → CalmGrown rs monotone hub relay leaves c k → Led (relay_calm_after rs c m) k (one_relay_move rs c m)
  move_leads c k MoveHub n g = go (hub_turn_now rs c) refl
    where
      go : (r : Option (H × Option (ℕ × List ℕ))) → hub_turn_now rs c ≡ r → Led (calm_hub c r) k (one_if_some r)
      go None e = (k, g, (omega arith), n)
      go (Some r) e = (update k 0 (suc (k 0)), hub_moves rs monotone hub relay leaves c k r n e g, (let l = sum_update_le nodes k 0 in omega arith), ports_length c.ports r.1 ∙ n)
  move_leads c k (MoveRelay p) n g = at (slice_get c.ports p) refl
    where
      go : (q : RelayPort R L) → slice_get c.ports p ≡ Some q → (r : Option (R × (List ℕ × List ℕ))) → relay_turn_now rs q ≡ r → Led (calm_relay c p q r) k (one_if_some r)
      go q s None e = (k, g, (omega arith), n)
      go q s (Some r) e = (update k (number (AtRelay p)) (suc (k (number (AtRelay p)))), relay_moves rs monotone hub relay leaves c k p q r s e g, (let l = sum_update_le nodes k (number (AtRelay p)) in omega arith), length-set c.ports p _ ∙ n)

      at : (o : Option (RelayPort R L)) → slice_get c.ports p ≡ o → Led (relay_moved rs c p o) k (field_of (λ q. one_if_some (relay_turn_now rs q)) 0 o)
      at None s = (k, g, (omega arith), n)
      at (Some q) s = go q s (relay_turn_now rs q) refl
  move_leads c k (MoveLeaf p) n g = at (slice_get c.ports p) refl
    where
      go : (q : RelayPort R L) → slice_get c.ports p ≡ Some q → (r : Option (L × List ℕ)) → leaf_turn_now rs q ≡ r → Led (calm_leaf c p q r) k (one_if_some r)
      go q s None e = (k, g, (omega arith), n)
      go q s (Some r) e = (update k (number (AtLeaf p)) (suc (k (number (AtLeaf p)))), leaf_moves rs monotone hub relay leaves c k p q r s e g, (let l = sum_update_le nodes k (number (AtLeaf p)) in omega arith), length-set c.ports p _ ∙ n)

      at : (o : Option (RelayPort R L)) → slice_get c.ports p ≡ o → Led (leaf_moved rs c p o) k (field_of (λ q. one_if_some (leaf_turn_now rs q)) 0 o)
      at None s = (k, g, (omega arith), n)
      at (Some q) s = go q s (leaf_turn_now rs q) refl

  moves_lead : (c : RelayCalm H R L) (k : ℕ → ℕ) (ms : List RelayMove) → length c.ports ≡ length leaves → CalmGrown rs monotone hub relay leaves c k → Led (relay_calm_all rs c ms) k (relay_moves_taken rs c ms)
  moves_lead c k [] n g = (k, g, (omega arith), n)
  moves_lead c k (m ∷ ms) n g =
      let a = move_leads c k m n g in
      let b = moves_lead (relay_calm_after rs c m) a.0 ms a.3 a.1 in
      let x : sum_below nodes a.0 ≤ sum_below nodes k + one_relay_move rs c m = a.2 in
      let y : sum_below nodes b.0 ≤ sum_below nodes a.0 + relay_moves_taken rs (relay_calm_after rs c m) ms = b.2 in
      (b.0, b.1, (omega arith), b.3)

  -- The start.

  begins : CalmGrown rs monotone hub relay leaves (relay_calm_start hub relay leaves) (λ i. 0)
  begins = grown_same net net.start (λ i. state_at c (place i)) (λ i j. []) (λ i j. sent_at c (place i) (place j)) (λ i. 0) (λ i. state (place i)) (λ i j. sent (place i) (place j)) (grown_start net)
    where
      c : RelayCalm H R L
      c = relay_calm_start hub relay leaves

      relay_is : (o : Option L) → relay_at {H = H} relay o ≡ field_of (relay_node rs monotone hub relay leaves) NoNode (option_map (new_port relay) o)
      relay_is None = refl
      relay_is (Some l) = refl

      leaf_is : (o : Option L) → leaf_at {H = H} {R = R} o ≡ field_of (leaf_node rs monotone hub relay leaves) NoNode (option_map (new_port relay) o)
      leaf_is None = refl
      leaf_is (Some l) = refl

      state : (a : Place) → place_start hub relay leaves a ≡ state_at c a
      state AtHub = refl
      state (AtRelay p) = relay_is (slice_get leaves p) ∙ ap (field_of (relay_node rs monotone hub relay leaves) NoNode) (sym (slice_get-map (new_port relay) leaves p))
      state (AtLeaf p) = leaf_is (slice_get leaves p) ∙ ap (field_of (leaf_node rs monotone hub relay leaves) NoNode) (sym (slice_get-map (new_port relay) leaves p))

      nothing : (f : RelayPort R L → List ℕ) → ((l : L) → f (new_port relay l) ≡ []) → (ls : List L) (p : ℕ) → [] ≡ field_of f [] (slice_get (map (new_port relay) ls) p)
      nothing f e [] p = refl
      nothing f e (l ∷ ls) zero = sym (e l)
      nothing f e (l ∷ ls) (suc p) = nothing f e ls p

      inside : (b : Bool) (t : List ℕ) → [] ≡ t → [] ≡ (if b then t else [])
      inside true t e = e
      inside false t e = refl

      sent : (a b : Place) → [] ≡ sent_at c a b
      sent AtHub AtHub = refl
      sent AtHub (AtRelay p) = nothing (λ q. q.hub_relay) (λ l. refl) leaves p
      sent AtHub (AtLeaf p) = refl
      sent (AtRelay p) AtHub = nothing (λ q. q.relay_hub) (λ l. refl) leaves p
      sent (AtRelay p) (AtRelay q) = refl
      sent (AtRelay p) (AtLeaf q) = inside (q == p) _ (nothing (λ q. q.relay_leaf) (λ l. refl) leaves p)
      sent (AtLeaf p) AtHub = refl
      sent (AtLeaf p) (AtRelay q) = inside (q == p) _ (nothing (λ q. q.leaf_relay) (λ l. refl) leaves p)
      sent (AtLeaf p) (AtLeaf q) = refl

-- Places past the ports.

twice_more : (p n : ℕ) → p < n → suc (suc (twice p)) ≤ twice n
twice_more p zero l = absurd (omega arith)
twice_more zero (suc n) l = omega arith
twice_more (suc p) (suc n) l = let ih = twice_more p n (omega arith) in omega arith

-- The port of a place, if it has one, is not among the first n.
abbrev pub IsPast : ℕ → Place → Type 0
IsPast n AtHub = ⊥
IsPast n (AtRelay p) = n ≤ p
IsPast n (AtLeaf p) = n ≤ p

past_number : (n : ℕ) (a : Place) → suc (twice n) ≤ number a → IsPast n a
past_number n AtHub l = omega arith
past_number n (AtRelay p) l = ⊎_elim (λ (m : n ≤ p). m) (λ (m : p < n). absurd (let t = twice_more p n m in omega arith)) (le_or_lt n p)
past_number n (AtLeaf p) l = ⊎_elim (λ (m : n ≤ p). m) (λ (m : p < n). absurd (let t = twice_more p n m in omega arith)) (le_or_lt n p)

-- Sums over the places.

sum_pairs : (n : ℕ) (f : ℕ → ℕ) → sum_below (twice n) f ≡ sum_below n (λ p. f (twice p) + f (suc (twice p)))
sum_pairs zero f = refl
sum_pairs (suc n) f = let ih = sum_pairs n f in omega arith

sum_places : (n : ℕ) (f : ℕ → ℕ) → sum_below (suc (twice n)) f ≡ f 0 + sum_below n (λ p. f (number (AtRelay p)) + f (number (AtLeaf p)))
sum_places n f = sum_first (twice n) f ∙ ap (λ t. f 0 + t) (sum_pairs n (λ i. f (suc i)))

if_length : (b : Bool) (v : List ℕ) → length (if b then v else []) ≡ (if b then length v else 0)
if_length true v = refl
if_length false v = refl

-- A sum with one term that counts.
sum_one : (n p v : ℕ) → sum_below n (λ q. if q == p then v else 0) ≤ v
sum_one zero p v = omega arith
sum_one (suc n) p v = go (n == p) refl (sum_one n p v)
  where
    none : (m : ℕ) → m ≤ p → sum_below m (λ q. if q == p then v else 0) ≡ 0
    none zero l = refl
    none (suc m) l = add (m == p) refl (none m (omega arith))
      where
        add : (b : Bool) → (m == p) ≡ b → sum_below m (λ q. if q == p then v else 0) ≡ 0 → sum_below m (λ q. if q == p then v else 0) + (if b then v else 0) ≡ 0
        add true e z = absurd (let s = eqb-true m p e in omega arith)
        add false e z = omega arith

    go : (b : Bool) → (n == p) ≡ b → sum_below n (λ q. if q == p then v else 0) ≤ v → sum_below n (λ q. if q == p then v else 0) + (if b then v else 0) ≤ v
    go true e ih = let z = none n (let s = eqb-true n p e in omega arith) in omega arith
    go false e ih = omega arith

module _ {H R L : Type 0} (rs : RelayStar H R L) (monotone : IsRelayMonotone rs) (hub : H) (relay : R) (leaves : List L) (moves : List RelayMove) (rest : IsRelayAtRest rs (relay_calm_all rs (relay_calm_start hub relay leaves) moves)) where
  abbrev pub final : RelayCalm H R L
  final = relay_calm_all rs (relay_calm_start hub relay leaves) moves

  abbrev pub n : ℕ
  n = length leaves

  abbrev pub network : Network (RelayNode H R L)
  network = relay_network rs hub relay leaves

  pub led : (k : ℕ → ℕ) × CalmGrown rs monotone hub relay leaves final k × (sum_below (suc (twice n)) k ≤ relay_moves_taken rs (relay_calm_start hub relay leaves) moves) × (length final.ports ≡ n)
  led =
      let r = moves_lead rs monotone hub relay leaves (relay_calm_start hub relay leaves) (λ i. 0) moves (length-map leaves (new_port relay)) (begins rs monotone hub relay leaves) in
      (r.0, r.1, (let l : sum_below (suc (twice n)) r.0 ≤ sum_below (suc (twice n)) (λ i. 0) + relay_moves_taken rs (relay_calm_start hub relay leaves) moves = r.2 in let z = zeros (suc (twice n)) in omega arith), r.3)
    where
      zeros : (m : ℕ) → sum_below m (λ i. 0) ≡ 0
      zeros zero = refl
      zeros (suc m) = let ih = zeros m in omega arith

  abbrev pub world : World (RelayNode H R L)
  world = relay_world final

  -- No place has a turn left.
  rest_at : (a : Place) → place_turn rs n a (state_at final a) (λ q. sent_at final q a) ≡ None
  rest_at AtHub = ap (hub_place_turn n) rest.hub
  rest_at (AtRelay p) = at (slice_get final.ports p) refl
    where
      at : (o : Option (RelayPort R L)) → slice_get final.ports p ≡ o → place_turn rs n (AtRelay p) (state_at final (AtRelay p)) (λ q. sent_at final q (AtRelay p)) ≡ None
      at None s = ap (λ (o : Option (RelayPort R L)). place_turn rs n (AtRelay p) (field_of (relay_node rs monotone hub relay leaves) NoNode o) (λ a. sent_at final a (AtRelay p))) s
      at (Some q) s =
          ap (λ (o : Option (RelayPort R L)). place_turn rs n (AtRelay p) (field_of (relay_node rs monotone hub relay leaves) NoNode o) (λ a. sent_at final a (AtRelay p))) s
          ∙ ap₂ (λ (x y : List ℕ). relay_place_turn {H = H} {L = L} p (rs.relay_turn q.relay x y)) (ap (field_of (λ (q : RelayPort R L). q.hub_relay) []) s) (at_self p _ _ ∙ ap (field_of (λ (q : RelayPort R L). q.leaf_relay) []) s)
          ∙ ap (relay_place_turn {H = H} {L = L} p) (rest.relay p q s)
  rest_at (AtLeaf p) = at (slice_get final.ports p) refl
    where
      at : (o : Option (RelayPort R L)) → slice_get final.ports p ≡ o → place_turn rs n (AtLeaf p) (state_at final (AtLeaf p)) (λ q. sent_at final q (AtLeaf p)) ≡ None
      at None s = ap (λ (o : Option (RelayPort R L)). place_turn rs n (AtLeaf p) (field_of (leaf_node rs monotone hub relay leaves) NoNode o) (λ a. sent_at final a (AtLeaf p))) s
      at (Some q) s =
          ap (λ (o : Option (RelayPort R L)). place_turn rs n (AtLeaf p) (field_of (leaf_node rs monotone hub relay leaves) NoNode o) (λ a. sent_at final a (AtLeaf p))) s
          ∙ ap (λ (x : List ℕ). leaf_place_turn {H = H} {R = R} p (rs.star.leaf_turn q.leaf x)) (at_self p _ _ ∙ ap (field_of (λ (q : RelayPort R L). q.relay_leaf) []) s)
          ∙ ap (leaf_place_turn {H = H} {R = R} p) (rest.leaf p q s)

  stops : (i : ℕ) → network.turn i (state_at final (place i)) (λ j. sent_at final (place j) (place i)) ≡ None
  stops i = subst (λ m. network.turn m (state_at final (place m)) (λ j. sent_at final (place j) (place m)) ≡ None) (number_place i)
      (turn_is rs monotone hub relay leaves (state_at final) (sent_at final) (place i) ∙ ap by_number (rest_at (place i)))

  pub fin : IsFinal network world led.0
  fin = record {
    run = grown_run network (λ i. state_at final (place i)) (λ i j. sent_at final (place i) (place j)) led.0 led.1;
    stop = λ i. ap (network.turn i (state_at final (place i))) (handed_received (λ i. state_at final (place i)) (λ i j. sent_at final (place i) (place j)) i) ∙ stops i;
    all = λ i j. refl;
  }

  -- Places past the ports take no turn, and send and get nothing.
  no_port : (p : ℕ) → n ≤ p → slice_get final.ports p ≡ None
  no_port p l = slice_get_past final.ports p (let e = led.3 in omega arith)

  pub sent_past : (a b : Place) → IsPast n a → sent_at final a b ≡ []
  sent_past AtHub b l = absurd l
  sent_past (AtRelay p) AtHub l = ap (field_of (λ (q : RelayPort R L). q.relay_hub) []) (no_port p l)
  sent_past (AtRelay p) (AtRelay q) l = refl
  sent_past (AtRelay p) (AtLeaf q) l = go (q == p)
    where
      go : (b : Bool) → (if b then field_of (λ (q : RelayPort R L). q.relay_leaf) [] (slice_get final.ports p) else []) ≡ []
      go true = ap (field_of (λ (q : RelayPort R L). q.relay_leaf) []) (no_port p l)
      go false = refl
  sent_past (AtLeaf p) AtHub l = refl
  sent_past (AtLeaf p) (AtRelay q) l = go (q == p)
    where
      go : (b : Bool) → (if b then field_of (λ (q : RelayPort R L). q.leaf_relay) [] (slice_get final.ports p) else []) ≡ []
      go true = ap (field_of (λ (q : RelayPort R L). q.leaf_relay) []) (no_port p l)
      go false = refl
  sent_past (AtLeaf p) (AtLeaf q) l = refl

  pub got_past : (a b : Place) → IsPast n b → sent_at final a b ≡ []
  got_past a AtHub l = absurd l
  got_past AtHub (AtRelay p) l = ap (field_of (λ (q : RelayPort R L). q.hub_relay) []) (no_port p l)
  got_past AtHub (AtLeaf p) l = refl
  got_past (AtRelay q) (AtRelay p) l = refl
  got_past (AtRelay q) (AtLeaf p) l = go (p == q) refl
    where
      go : (b : Bool) → (p == q) ≡ b → (if b then field_of (λ (q : RelayPort R L). q.relay_leaf) [] (slice_get final.ports q) else []) ≡ []
      go true e = ap (field_of (λ (q : RelayPort R L). q.relay_leaf) []) (no_port q (let s = eqb-true p q e in omega arith))
      go false e = refl
  got_past (AtLeaf q) (AtRelay p) l = go (p == q) refl
    where
      go : (b : Bool) → (p == q) ≡ b → (if b then field_of (λ (q : RelayPort R L). q.leaf_relay) [] (slice_get final.ports q) else []) ≡ []
      go true e = ap (field_of (λ (q : RelayPort R L). q.leaf_relay) []) (no_port q (let s = eqb-true p q e in omega arith))
      go false e = refl
  got_past (AtLeaf q) (AtLeaf p) l = refl

  start_past : (a : Place) → IsPast n a → place_start hub relay leaves a ≡ NoNode
  start_past AtHub l = absurd l
  start_past (AtRelay p) l = ap (relay_at relay) (slice_get_past leaves p l)
  start_past (AtLeaf p) l = ap leaf_at (slice_get_past leaves p l)

  no_turn : (a : Place) (x : Place → List ℕ) → place_turn rs n a NoNode x ≡ None
  no_turn AtHub x = refl
  no_turn (AtRelay p) x = refl
  no_turn (AtLeaf p) x = refl

  pub runs_past : (i : ℕ) → IsPast n (place i) → (x : Streams) (k : ℕ) (s : RelayNode H R L) (o : Streams) → IsRun network i x k s o → (k ≡ 0) × (s ≡ NoNode)
  runs_past i l x zero s o r = (refl, r.0 ∙ start_past (place i) l)
  runs_past i l x (suc k) s o r =
      let before = runs_past i l x k r.0 r.1 r.3 in
      absurd (none-some {A = RelayNode H R L × Streams} (s, r.2) (sym (ap by_number (no_turn (place i) (λ q. x (number q)))) ∙ ap (λ t. network.turn i t x) (sym before.1) ∙ r.4))

  pub past : (i : ℕ) → suc (twice n) ≤ i → IsPast n (place i)
  past i l = past_number n (place i) (subst (λ m. suc (twice n) ≤ m) (sym (number_place i)) l)

  pub small : IsSmall (suc (twice n)) world led.0
  small = record {
    turns = λ i l. (runs_past i (past i l) (λ j. sent_at final (place j) (place i)) (led.0 i) (state_at final (place i)) (λ j. sent_at final (place i) (place j)) (led.1.0 i)).0;
    sent_from = λ i j l. sent_past (place i) (place j) (past i l);
    sent_to = λ i j l. got_past (place i) (place j) (past j l);
  }

  pub below_final : (ss : List Step) → Under (outcome network ss) world.sent
  below_final ss = schedule_under network (relay_monotone rs monotone hub relay leaves) ss world.sent (final_closed network world led.0 fin)

  -- All bytes.
  bytes_within : sum_below (suc (twice n)) (λ i. sum_below (suc (twice n)) (λ j. length (sent_at final (place i) (place j)))) ≤ relay_bytes n final
  bytes_within =
      let all = sum_places n (λ i. sum_below (suc (twice n)) (λ j. length (sent_at final (place i) (place j)))) in
      let total : sum_below n (λ p. all_from (number (AtRelay p)) + all_from (number (AtLeaf p))) ≤ sum_below n rest_of = sum_le n (λ p. all_from (number (AtRelay p)) + all_from (number (AtLeaf p))) rest_of (λ p _. add-le-add (at_relay p) (at_leaf p)) in
      let both : sum_below n (λ p. out p + rest_of p) ≡ sum_below n out + sum_below n rest_of = sum_add n out rest_of in
      let same : sum_below n (λ p. out p + rest_of p) ≡ relay_bytes n final = sum_same n (λ p. out p + rest_of p) (λ p. out p + length (sent_at final (AtRelay p) AtHub) + length (field_of (λ (q : RelayPort R L). q.relay_leaf) [] (slice_get final.ports p)) + length (field_of (λ (q : RelayPort R L). q.leaf_relay) [] (slice_get final.ports p))) (λ p _. (omega arith)) in
      let first = at_hub in
      omega arith
    where
      out : ℕ → ℕ
      out p = length (sent_at final AtHub (AtRelay p))

      rest_of : ℕ → ℕ
      rest_of p = length (sent_at final (AtRelay p) AtHub) + length (field_of (λ (q : RelayPort R L). q.relay_leaf) [] (slice_get final.ports p)) + length (field_of (λ (q : RelayPort R L). q.leaf_relay) [] (slice_get final.ports p))

      all_from : ℕ → ℕ
      all_from i = sum_below (suc (twice n)) (λ j. length (sent_at final (place i) (place j)))

      -- what a place sends, summed by the places that it sends to
      all_from_is : (a : Place) → all_from (number a) ≡ length (sent_at final a AtHub) + sum_below n (λ q. length (sent_at final a (AtRelay q)) + length (sent_at final a (AtLeaf q)))
      all_from_is a =
          sum_places n (λ j. length (sent_at final (place (number a)) (place j)))
          ∙ ap (λ (v : Place). length (sent_at final v AtHub) + sum_below n (λ q. length (sent_at final v (place (number (AtRelay q)))) + length (sent_at final v (place (number (AtLeaf q)))))) (place_number a)
          ∙ ap (λ t. length (sent_at final a AtHub) + t) (sum_same n _ _ (λ q _. ap₂ (λ (u v : Place). length (sent_at final a u) + length (sent_at final a v)) (place_number (AtRelay q)) (place_number (AtLeaf q))))

      at_hub : all_from 0 ≤ sum_below n out
      at_hub = let e = all_from_is AtHub in let s : sum_below n (λ q. out q + 0) ≡ sum_below n out = sum_same n (λ q. out q + 0) out (λ q _. (omega arith)) in omega arith

      at_relay : (p : ℕ) → all_from (number (AtRelay p)) ≤ length (sent_at final (AtRelay p) AtHub) + length (field_of (λ (q : RelayPort R L). q.relay_leaf) [] (slice_get final.ports p))
      at_relay p =
          let v : ℕ = length (field_of (λ (q : RelayPort R L). q.relay_leaf) [] (slice_get final.ports p)) in
          let e = all_from_is (AtRelay p) in
          let s : sum_below n (λ q. 0 + length (sent_at final (AtRelay p) (AtLeaf q))) ≡ sum_below n (λ q. if q == p then v else 0) = sum_same n (λ q. 0 + length (sent_at final (AtRelay p) (AtLeaf q))) (λ q. if q == p then v else 0) (λ q _. zero_add (if_length (q == p) (field_of (λ (q : RelayPort R L). q.relay_leaf) [] (slice_get final.ports p)))) in
          let l = sum_one n p v in
          omega arith
        where
          zero_add : {a b : ℕ} → a ≡ b → 0 + a ≡ b
          zero_add e = omega arith

      at_leaf : (p : ℕ) → all_from (number (AtLeaf p)) ≤ length (field_of (λ (q : RelayPort R L). q.leaf_relay) [] (slice_get final.ports p))
      at_leaf p =
          let v : ℕ = length (field_of (λ (q : RelayPort R L). q.leaf_relay) [] (slice_get final.ports p)) in
          let e = all_from_is (AtLeaf p) in
          let s : sum_below n (λ q. length (sent_at final (AtLeaf p) (AtRelay q)) + 0) ≡ sum_below n (λ q. if q == p then v else 0) = sum_same n (λ q. length (sent_at final (AtLeaf p) (AtRelay q)) + 0) (λ q. if q == p then v else 0) (λ q _. add_zero (if_length (q == p) (field_of (λ (q : RelayPort R L). q.leaf_relay) [] (slice_get final.ports p)))) in
          let l = sum_one n p v in
          omega arith
        where
          add_zero : {a b : ℕ} → a ≡ b → a + 0 ≡ b
          add_zero e = omega arith

  -- A relation that each turn keeps leads from the state of a node in any schedule to its state at the end. Take for it: the
  -- calls of the one are a beginning of the calls of the other; if the one has a fault, so has the other.
  pub node_leads : (T : RelayNode H R L → RelayNode H R L → Type 0) → ((s : RelayNode H R L) → T s s) → ((i : ℕ) (x : Streams) (s s₀ s₁ : RelayNode H R L) (more : Streams) → T s s₀ → network.turn i s₀ x ≡ Some (s₁, more) → T s s₁) → (ss : List Step) (i : ℕ) → T ((outcome network ss).state i) (state_at final (place i))
  node_leads T same step ss i =
      let m = relay_monotone rs monotone hub relay leaves in
      let way = on_the_way network m (outcome network ss) world (turns network ss) led.0 (schedule_run network m ss) fin (below_final ss) i in
      runs_lead network i (received world i) T same (step i (received world i)) (turns network ss i) (led.0 i) ((outcome network ss).state i) (state_at final (place i)) ((outcome network ss).sent i) (λ j. sent_at final (place i) (place j)) way.0 way.1 (fin.run.runs i)

  pub every_relay_schedule : IsRelayResult rs hub relay leaves moves final
  every_relay_schedule = record {
    prefix = λ ss a b. subst (λ (v : List ℕ). IsPrefix ((outcome network ss).sent (number a) (number b)) v) (ap₂ (sent_at final) (place_number a) (place_number b)) (below_final ss (number a) (number b));
    on_the_way = λ ss a. (
      turns network ss (number a),
      subst (λ (x : Streams). IsRun network (number a) x (turns network ss (number a)) ((outcome network ss).state (number a)) ((outcome network ss).sent (number a)))
          (final_received network world led.0 fin (number a) ∙ (λ d j. sent_at final (place j) (place_number a d)))
          ((on_the_way network (relay_monotone rs monotone hub relay leaves) (outcome network ss) world (turns network ss) led.0 (schedule_run network (relay_monotone rs monotone hub relay leaves) ss) fin (below_final ss) (number a)).1),
    );
    same = λ ss here.
        let m = relay_monotone rs monotone hub relay leaves in
        let stop = quiescent_final network (outcome network ss) (turns network ss) (schedule_run network m ss) here in
        agree network m (outcome network ss) world (turns network ss) led.0 stop fin (below_final ss) (led.1.1 (outcome network ss).sent (final_closed network (outcome network ss) (turns network ss) stop));
    progress = λ ss. progress network (relay_monotone rs monotone hub relay leaves) (suc (twice n)) (outcome network ss) world (turns network ss) led.0 small (schedule_run network (relay_monotone rs monotone hub relay leaves) ss) fin (below_final ss);
    bound = λ ss.
        let b : effective_steps network (start network) ss ≤ sum_below (suc (twice n)) led.0 + sum_below (suc (twice n)) (λ i. sum_below (suc (twice n)) (λ j. length (sent_at final (place i) (place j)))) = effective_bound network (relay_monotone rs monotone hub relay leaves) (suc (twice n)) world led.0 small fin ss in
        le_trans b (add-le-add led.2 bytes_within);
  }
