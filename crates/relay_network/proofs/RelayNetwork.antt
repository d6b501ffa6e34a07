-- A star with relays is a network, and a calm run of it is a part of each schedule.
use Rattle.std.proofs.Common.{◌≡◌, ℕ, zero, suc, ◌≤◌, ◌≢◌, ◌⊎◌, ◌==◌, ⊎_elim, Bool, true, false, List, [], ◌∷◌, ◌++◌, length, set, Option, Some, None, slice_get, if◌then◌else◌, refl, sym, ap, ap₂, ◌∙◌, subst, arith, take_all, le_refl, eq-eqb, eqb-true, append-nil}
use Rattle.std.proofs.lemmas.Option.{same_Some, none-some, slice_get_within}
use Rattle.process_network.specs.Network.{update, IsPrefix, Streams, Below, Network, IsMonotone, World, received, after_turn, turns_counted, IsRun, IsClosed}
use Rattle.process_network.specs.Star.{to_leaf}
use Rattle.relay_network.specs.RelayStar.{RelayStar, Place, next_place, place, twice, number, RelayNode, hub_sends, relay_sends, leaf_sends, hub_place_turn, relay_place_turn, leaf_place_turn, place_turn, by_number, relay_network, RelayPort, RelayCalm, field_of, port_sent, ports_sent, calm_hub, calm_relay, calm_leaf, hub_turn_now, relay_turn_now, leaf_turn_now, IsRelayMonotone, state_at, sent_at}
use Rattle.relay_network.specs.RelayStar.Place.{AtHub, AtRelay, AtLeaf}
use Rattle.relay_network.specs.RelayStar.RelayNode.{TheHub, TheRelay, TheLeaf, NoNode}
use Rattle.process_network.proofs.Prefixes.{prefix_take, update_all}
use Rattle.process_network.proofs.ProcessRuns.{runs_more}
use Rattle.process_network.proofs.ReachableWorlds.{IsOnRun, acted_run, acted_under}
use Rattle.process_network.proofs.StarView.{to_leaf_here, to_leaf_other}
use Rattle.process_network.proofs.HubHalted.{none_past}

-- Places and their numbers.

pub place_twice : (p : ℕ) → place (suc (twice p)) ≡ AtRelay p
place_twice zero = refl
place_twice (suc p) = ap (λ q. next_place (next_place q)) (place_twice p)

pub place_number : (q : Place) → place (number q) ≡ q
place_number AtHub = refl
place_number (AtRelay p) = place_twice p
place_number (AtLeaf p) = ap next_place (place_twice p)

number_next : (q : Place) → number (next_place q) ≡ suc (number q)
number_next AtHub = refl
number_next (AtRelay p) = refl
number_next (AtLeaf p) = refl

pub number_place : (i : ℕ) → number (place i) ≡ i
number_place zero = refl
number_place (suc i) = number_next (place i) ∙ ap suc (number_place i)

-- Each node is on its run over all that was sent to it, and has sent no more than any closed z says.
abbrev pub Grown : {S : Type 0} → Network S → (ℕ → S) → (ℕ → Streams) → (ℕ → ℕ) → Type 0
Grown net st se k = ((i : ℕ) → IsRun net i (λ j. se j i) (k i) (st i) (se i)) × ((z : ℕ → Streams) → IsClosed net z → (i : ℕ) → Below (se i) (z i))

pub grown_start : {S : Type 0} (net : Network S) → Grown net net.start (λ i j. []) (λ i. 0)
grown_start net = ((λ i. (refl, λ j. refl)), λ z closed i j. (z i j, refl))

-- The world in which all of it is delivered.
abbrev pub handed : {S : Type 0} → (ℕ → S) → (ℕ → Streams) → World S
handed st se = record { state = st; sent = se; delivered = λ i j. length (se i j) }

pub handed_received : {S : Type 0} (st : ℕ → S) (se : ℕ → Streams) (i : ℕ) → received (handed st se) i ≡ (λ j. se j i)
handed_received st se i = λ d j. take_all (length (se j i)) (se j i) (le_refl (length (se j i))) d

pub grown_run : {S : Type 0} (net : Network S) (st : ℕ → S) (se : ℕ → Streams) (k : ℕ → ℕ) → Grown net st se k → IsOnRun net (handed st se) k
grown_run net st se k g = record {
  runs = λ i. subst (λ x. IsRun net i x (k i) (st i) (se i)) (sym (handed_received st se i)) (g.0 i);
  within = λ i j. le_refl (length (se i j));
}

grown_turn : {S : Type 0} (net : Network S) → IsMonotone net → (st : ℕ → S) (se : ℕ → Streams) (k : ℕ → ℕ) → Grown net st se k → (i : ℕ) (r : S × Streams) → net.turn i (st i) (λ j. se j i) ≡ Some r → Grown net (update st i r.0) (update se i (λ j. se i j ++ r.1 j)) (update k i (suc (k i)))
grown_turn {S} net monotone st se k g i r e = (
  (λ a. runs_more net monotone a (received w' a) (λ j. update se i (λ j. se i j ++ r.1 j) j a) (λ j. prefix_take (length (se j a)) (w'.sent j a)) (update k i (suc (k i)) a) (update st i r.0 a) (update se i (λ j. se i j ++ r.1 j) a) (run.runs a)),
  λ z closed. acted_under net monotone w z k i (Some r) turn (grown_run net st se k g) closed (g.1 z closed),
)
  where
    w : World S
    w = handed st se

    w' : World S
    w' = after_turn w i (Some r)

    turn : net.turn i (st i) (received w i) ≡ Some r
    turn = ap (net.turn i (st i)) (handed_received st se i) ∙ e

    run : IsOnRun net w' (turns_counted k i (Some r))
    run = acted_run net monotone w k i (Some r) turn (grown_run net st se k g)

pub grown_same : {S : Type 0} (net : Network S) (st st' : ℕ → S) (se se' : ℕ → Streams) (k : ℕ → ℕ) → ((i : ℕ) → st i ≡ st' i) → ((i j : ℕ) → se i j ≡ se' i j) → Grown net st se k → Grown net st' se' k
grown_same {S} net st st' se se' k a b g = subst (λ (t : ℕ → Streams). Grown net st' t k) (λ d i j. b i j d) (subst (λ (s : ℕ → S). Grown net s se k) (λ d i. a i d) g)

-- The relays' network keeps each turn over more received bytes.

keeps : {A B : Type 0} (f : Option A → Option B) → f None ≡ None → (a b : Option A) (r : B) → ((t : A) → a ≡ Some t → b ≡ Some t) → f a ≡ Some r → f b ≡ Some r
keeps f none None b r keep e = absurd (none-some r (sym none ∙ e))
keeps f none (Some t) b r keep e = ap f (keep t refl) ∙ e

module _ {H R L : Type 0} (rs : RelayStar H R L) (monotone : IsRelayMonotone rs) (n : ℕ) where
  place_keeps : (q : Place) (s : RelayNode H R L) (x y : Place → List ℕ) → ((a : Place) → IsPrefix (x a) (y a)) → (r : RelayNode H R L × Streams) → by_number (place_turn rs n q s x) ≡ Some r → by_number (place_turn rs n q s y) ≡ Some r
  place_keeps AtHub (TheHub h) x y b r e = keeps (λ t. by_number (hub_place_turn n t)) refl (rs.star.hub_turn h (λ p. x (AtRelay p))) (rs.star.hub_turn h (λ p. y (AtRelay p))) r (λ t. monotone.0.0 h (λ p. x (AtRelay p)) (λ p. y (AtRelay p)) t (λ p. b (AtRelay p))) e
  place_keeps (AtRelay p) (TheRelay c) x y b r e = keeps (λ t. by_number (relay_place_turn p t)) refl (rs.relay_turn c (x AtHub) (x (AtLeaf p))) (rs.relay_turn c (y AtHub) (y (AtLeaf p))) r (λ t. monotone.1 c (x AtHub) (y AtHub) (x (AtLeaf p)) (y (AtLeaf p)) t (b AtHub) (b (AtLeaf p))) e
  place_keeps (AtLeaf p) (TheLeaf l) x y b r e = keeps (λ t. by_number (leaf_place_turn p t)) refl (rs.star.leaf_turn l (x (AtRelay p))) (rs.star.leaf_turn l (y (AtRelay p))) r (λ t. monotone.0.1 l (x (AtRelay p)) (y (AtRelay p)) t (b (AtRelay p))) e
  place_keeps q s x y b r e = e

pub relay_monotone : {H R L : Type 0} (rs : RelayStar H R L) → IsRelayMonotone rs → (hub : H) (relay : R) (leaves : List L) → IsMonotone (relay_network rs hub relay leaves)
relay_monotone rs monotone hub relay leaves i s x y r b e = place_keeps rs monotone (length leaves) (place i) s (λ q. x (number q)) (λ q. y (number q)) (λ q. b (number q)) r e

-- Members of a list after one of them is changed.

pub set_here : {A : Type 0} (xs : List A) (p : ℕ) (q v : A) → slice_get xs p ≡ Some q → slice_get (set xs p v) p ≡ Some v
set_here [] p q v e = absurd (none-some q e)
set_here (x ∷ xs) zero q v e = refl
set_here (x ∷ xs) (suc p) q v e = set_here xs p q v e

pub set_there : {A : Type 0} (xs : List A) (p : ℕ) (v : A) (j : ℕ) → j ≢ p → slice_get (set xs p v) j ≡ slice_get xs j
set_there [] p v j ne = refl
set_there (x ∷ xs) zero v zero ne = absurd (ne refl)
set_there (x ∷ xs) zero v (suc j) ne = refl
set_there (x ∷ xs) (suc p) v zero ne = refl
set_there (x ∷ xs) (suc p) v (suc j) ne = set_there xs p v j (λ e. ne (ap suc e))

-- A field that the change leaves is everywhere as it was.
field_kept : {A X : Type 0} (f : A → X) (d : X) (xs : List A) (p : ℕ) (q v : A) → slice_get xs p ≡ Some q → f v ≡ f q → (j : ℕ) → field_of f d (slice_get (set xs p v) j) ≡ field_of f d (slice_get xs j)
field_kept f d [] p q v e same j = refl
field_kept f d (x ∷ xs) zero q v e same zero = same ∙ ap f (sym (same_Some x q e))
field_kept f d (x ∷ xs) zero q v e same (suc j) = refl
field_kept f d (x ∷ xs) (suc p) q v e same zero = refl
field_kept f d (x ∷ xs) (suc p) q v e same (suc j) = field_kept f d xs p q v e same j

port_or_not : (p q : ℕ) → (p ≡ q) ⊎ (p ≢ q)
port_or_not p q = grind arith

pub at_self : {A : Type 0} (p : ℕ) (a b : A) → (if p == p then a else b) ≡ a
at_self p a b = rw (eq-eqb p p refl)

at_other : {A : Type 0} (p q : ℕ) (a b : A) → q ≢ p → (if q == p then a else b) ≡ b
at_other p q a b ne = go (q == p) refl
  where
    go : (t : Bool) → (q == p) ≡ t → (if t then a else b) ≡ b
    go true e = absurd (ne (eqb-true q p e))
    go false e = refl

module _ {H R L : Type 0} (rs : RelayStar H R L) (monotone : IsRelayMonotone rs) (hub : H) (relay : R) (leaves : List L) where
  abbrev pub net : Network (RelayNode H R L)
  net = relay_network rs hub relay leaves

  -- `Grown` by places.
  abbrev pub PlaceGrown : (Place → RelayNode H R L) → (Place → Place → List ℕ) → (ℕ → ℕ) → Type 0
  PlaceGrown s z k = Grown net (λ i. s (place i)) (λ i j. z (place i) (place j)) k

  pub turn_is : (s : Place → RelayNode H R L) (z : Place → Place → List ℕ) (a : Place) → net.turn (number a) (s (place (number a))) (λ j. z (place j) (place (number a))) ≡ by_number (place_turn rs (length leaves) a (s a) (λ q. z q a))
  turn_is s z a = λ d. by_number (place_turn rs (length leaves) (place_number a d) (s (place_number a d)) (λ q. z (place_number q d) (place_number a d)))

  -- One turn, at place a.
  place_moves : (s s' : Place → RelayNode H R L) (z z' : Place → Place → List ℕ) (k : ℕ → ℕ) (a : Place) (r : RelayNode H R L × (Place → List ℕ)) → place_turn rs (length leaves) a (s a) (λ q. z q a) ≡ Some r → s' a ≡ r.0 → ((q : Place) → q ≢ a → s' q ≡ s q) → ((b : Place) → z' a b ≡ z a b ++ r.1 b) → ((q : Place) → q ≢ a → (b : Place) → z' q b ≡ z q b) → PlaceGrown s z k → PlaceGrown s' z' (update k (number a) (suc (k (number a))))
  place_moves s s' z z' k a r e here there row rows g =
      grown_same net (update (λ i. s (place i)) (number a) r.0) (λ i. s' (place i)) (update (λ i j. z (place i) (place j)) (number a) (λ j. z (place (number a)) (place j) ++ r.1 (place j))) (λ i j. z' (place i) (place j)) (update k (number a) (suc (k (number a))))
      (update_all (λ i t. t ≡ s' (place i)) (λ i. s (place i)) (number a) r.0 (sym here ∙ ap s' (sym (place_number a))) (λ i ne. sym (there (place i) (away i ne))))
      (update_all (λ i (t : Streams). (j : ℕ) → t j ≡ z' (place i) (place j)) (λ i j. z (place i) (place j)) (number a) (λ j. z (place (number a)) (place j) ++ r.1 (place j))
      (λ j. ap (λ q. z q (place j) ++ r.1 (place j)) (place_number a) ∙ sym (row (place j)) ∙ ap (λ q. z' q (place j)) (sym (place_number a)))
      (λ i ne j. sym (rows (place i) (away i ne) (place j))))
      (grown_turn net (relay_monotone rs monotone hub relay leaves) (λ i. s (place i)) (λ i j. z (place i) (place j)) k g (number a) (r.0, λ j. r.1 (place j)) (turn_is s z a ∙ ap by_number e))
    where
      away : (i : ℕ) → i ≢ number a → place i ≢ a
      away i ne e = ne (sym (number_place i) ∙ ap number e)

  abbrev pub relay_node : RelayPort R L → RelayNode H R L
  relay_node q = TheRelay q.relay

  abbrev pub leaf_node : RelayPort R L → RelayNode H R L
  leaf_node q = TheLeaf q.leaf

  -- The calm run's moves.
  abbrev pub CalmGrown : RelayCalm H R L → (ℕ → ℕ) → Type 0
  CalmGrown c k = PlaceGrown (state_at c) (sent_at c) k

  -- What the hub sends changes no field but that of the queue to the relay.
  sent_kept : {X : Type 0} (f : RelayPort R L → X) (d : X) → ((q : RelayPort R L) (b : List ℕ) → f (record q { hub_relay = b }) ≡ f q) → (ports : List (RelayPort R L)) (o : Option (ℕ × List ℕ)) (j : ℕ) → field_of f d (slice_get (ports_sent ports o) j) ≡ field_of f d (slice_get ports j)
  sent_kept f d same ports None j = refl
  sent_kept f d same ports (Some m) j = go (slice_get ports m.0) refl
    where
      go : (o : Option (RelayPort R L)) → slice_get ports m.0 ≡ o → field_of f d (slice_get (port_sent ports m o) j) ≡ field_of f d (slice_get ports j)
      go None e = refl
      go (Some q) e = field_kept f d ports m.0 q (record q { hub_relay = q.hub_relay ++ m.1 }) e (same q (q.hub_relay ++ m.1)) j

  sent_grows : (ports : List (RelayPort R L)) (o : Option (ℕ × List ℕ)) (p : ℕ) → field_of (λ (q : RelayPort R L). q.hub_relay) [] (slice_get (ports_sent ports o) p) ≡ field_of (λ (q : RelayPort R L). q.hub_relay) [] (slice_get ports p) ++ to_leaf (length ports) o (suc p)
  sent_grows ports None p = sym (append-nil _)
  sent_grows ports (Some m) p = go (slice_get ports m.0) refl
    where
      queue : Option (RelayPort R L) → List ℕ
      queue o = field_of (λ (q : RelayPort R L). q.hub_relay) [] o

      go : (o : Option (RelayPort R L)) → slice_get ports m.0 ≡ o → field_of (λ (q : RelayPort R L). q.hub_relay) [] (slice_get (port_sent ports m o) p) ≡ field_of (λ (q : RelayPort R L). q.hub_relay) [] (slice_get ports p) ++ to_leaf (length ports) (Some m) (suc p)
      go None e = sym (append-nil _) ∙ ap (λ t. field_of (λ (q : RelayPort R L). q.hub_relay) [] (slice_get ports p) ++ t) (sym (to_leaf_other (length ports) m (suc p) (λ l _. absurd (let past : length ports ≤ m.0 = none_past ports m.0 e in omega arith))))
      go (Some q) e = ⊎_elim
          (λ (same : p ≡ m.0). subst (λ t. field_of (λ (q : RelayPort R L). q.hub_relay) [] (slice_get (set ports m.0 (record q { hub_relay = q.hub_relay ++ m.1 })) t) ≡ field_of (λ (q : RelayPort R L). q.hub_relay) [] (slice_get ports t) ++ to_leaf (length ports) (Some m) (suc t)) (sym same)
          (ap (field_of (λ (q : RelayPort R L). q.hub_relay) []) (set_here ports m.0 q (record q { hub_relay = q.hub_relay ++ m.1 }) e)
          ∙ ap₂ ◌++◌ (sym (ap (field_of (λ (q : RelayPort R L). q.hub_relay) []) e)) (sym (to_leaf_here (length ports) m (slice_get_within ports m.0 q e)))))
          (λ (ne : p ≢ m.0). ap (field_of (λ (q : RelayPort R L). q.hub_relay) []) (set_there ports m.0 (record q { hub_relay = q.hub_relay ++ m.1 }) p ne)
          ∙ sym (append-nil _) ∙ ap (λ t. field_of (λ (q : RelayPort R L). q.hub_relay) [] (slice_get ports p) ++ t) (sym (to_leaf_other (length ports) m (suc p) (λ l bad. ne (omega arith)))))
          (port_or_not p m.0)

  pub hub_moves : (c : RelayCalm H R L) (k : ℕ → ℕ) (r : H × Option (ℕ × List ℕ)) → length c.ports ≡ length leaves → hub_turn_now rs c ≡ Some r → CalmGrown c k → CalmGrown (calm_hub c (Some r)) (update k 0 (suc (k 0)))
  hub_moves c k r n e g = place_moves (state_at c) (state_at c') (sent_at c) (sent_at c') k AtHub (TheHub r.0, hub_sends (length leaves) r.1) (ap (hub_place_turn (length leaves)) e) refl there row rows g
    where
      c' : RelayCalm H R L
      c' = calm_hub c (Some r)

      there : (q : Place) → q ≢ AtHub → state_at c' q ≡ state_at c q
      there AtHub ne = absurd (ne refl)
      there (AtRelay p) ne = sent_kept relay_node NoNode (λ q b. refl) c.ports r.1 p
      there (AtLeaf p) ne = sent_kept leaf_node NoNode (λ q b. refl) c.ports r.1 p

      row : (b : Place) → sent_at c' AtHub b ≡ sent_at c AtHub b ++ hub_sends (length leaves) r.1 b
      row AtHub = refl
      row (AtRelay p) = subst (λ m. field_of (λ (q : RelayPort R L). q.hub_relay) [] (slice_get (ports_sent c.ports r.1) p) ≡ field_of (λ (q : RelayPort R L). q.hub_relay) [] (slice_get c.ports p) ++ to_leaf m r.1 (suc p)) n (sent_grows c.ports r.1 p)
      row (AtLeaf p) = refl

      rows : (q : Place) → q ≢ AtHub → (b : Place) → sent_at c' q b ≡ sent_at c q b
      rows AtHub ne b = absurd (ne refl)
      rows (AtRelay p) ne AtHub = sent_kept (λ q. q.relay_hub) [] (λ q b. refl) c.ports r.1 p
      rows (AtRelay p) ne (AtRelay b) = refl
      rows (AtRelay p) ne (AtLeaf b) = ap (λ (t : List ℕ). if b == p then t else []) (sent_kept (λ q. q.relay_leaf) [] (λ q b. refl) c.ports r.1 p)
      rows (AtLeaf p) ne AtHub = refl
      rows (AtLeaf p) ne (AtRelay b) = ap (λ (t : List ℕ). if b == p then t else []) (sent_kept (λ q. q.leaf_relay) [] (λ q b. refl) c.ports r.1 p)
      rows (AtLeaf p) ne (AtLeaf b) = refl

  pub relay_moves : (c : RelayCalm H R L) (k : ℕ → ℕ) (p : ℕ) (q : RelayPort R L) (r : R × (List ℕ × List ℕ)) → slice_get c.ports p ≡ Some q → relay_turn_now rs q ≡ Some r → CalmGrown c k → CalmGrown (calm_relay c p q (Some r)) (update k (number (AtRelay p)) (suc (k (number (AtRelay p)))))
  relay_moves c k p q r s e g = place_moves (state_at c) (state_at c') (sent_at c) (sent_at c') k (AtRelay p) (TheRelay r.0, relay_sends p r.1) turn (ap (field_of relay_node NoNode) (set_here c.ports p q v s)) there row rows g
    where
      v : RelayPort R L
      v = record q { relay = r.0; relay_leaf = q.relay_leaf ++ r.1.0; relay_hub = q.relay_hub ++ r.1.1 }

      c' : RelayCalm H R L
      c' = calm_relay c p q (Some r)

      turn : place_turn rs (length leaves) (AtRelay p) (state_at c (AtRelay p)) (λ a. sent_at c a (AtRelay p)) ≡ Some (TheRelay r.0, relay_sends p r.1)
      turn =
          ap (λ (o : Option (RelayPort R L)). place_turn rs (length leaves) (AtRelay p) (field_of relay_node NoNode o) (λ a. sent_at c a (AtRelay p))) s
          ∙ ap₂ (λ (x y : List ℕ). relay_place_turn {H = H} {L = L} p (rs.relay_turn q.relay x y)) (ap (field_of (λ (q : RelayPort R L). q.hub_relay) []) s) (at_self p _ _ ∙ ap (field_of (λ (q : RelayPort R L). q.leaf_relay) []) s)
          ∙ ap (relay_place_turn {H = H} {L = L} p) e

      there : (a : Place) → a ≢ AtRelay p → state_at c' a ≡ state_at c a
      there AtHub ne = refl
      there (AtRelay j) ne = ap (field_of relay_node NoNode) (set_there c.ports p v j (λ e. ne (ap AtRelay e)))
      there (AtLeaf j) ne = field_kept leaf_node NoNode c.ports p q v s refl j

      row : (b : Place) → sent_at c' (AtRelay p) b ≡ sent_at c (AtRelay p) b ++ relay_sends p r.1 b
      row AtHub = ap (field_of (λ (q : RelayPort R L). q.relay_hub) []) (set_here c.ports p q v s) ∙ ap (λ (o : Option (RelayPort R L)). field_of (λ (q : RelayPort R L). q.relay_hub) [] o ++ r.1.1) (sym s)
      row (AtRelay b) = refl
      row (AtLeaf b) = go (b == p)
        where
          go : (t : Bool) → (if t then field_of (λ (q : RelayPort R L). q.relay_leaf) [] (slice_get (set c.ports p v) p) else []) ≡ (if t then field_of (λ (q : RelayPort R L). q.relay_leaf) [] (slice_get c.ports p) else []) ++ (if t then r.1.0 else [])
          go true = ap (field_of (λ (q : RelayPort R L). q.relay_leaf) []) (set_here c.ports p q v s) ∙ ap (λ (o : Option (RelayPort R L)). field_of (λ (q : RelayPort R L). q.relay_leaf) [] o ++ r.1.0) (sym s)
          go false = refl

      rows : (a : Place) → a ≢ AtRelay p → (b : Place) → sent_at c' a b ≡ sent_at c a b
      rows AtHub ne AtHub = refl
      rows AtHub ne (AtRelay j) = field_kept (λ (q : RelayPort R L). q.hub_relay) [] c.ports p q v s refl j
      rows AtHub ne (AtLeaf j) = refl
      rows (AtRelay j) ne AtHub = ap (field_of (λ (q : RelayPort R L). q.relay_hub) []) (set_there c.ports p v j (λ e. ne (ap AtRelay e)))
      rows (AtRelay j) ne (AtRelay b) = refl
      rows (AtRelay j) ne (AtLeaf b) = ap (λ (o : Option (RelayPort R L)). if b == j then field_of (λ (q : RelayPort R L). q.relay_leaf) [] o else []) (set_there c.ports p v j (λ e. ne (ap AtRelay e)))
      rows (AtLeaf j) ne AtHub = refl
      rows (AtLeaf j) ne (AtRelay b) = ap (λ (t : List ℕ). if b == j then t else []) (field_kept (λ (q : RelayPort R L). q.leaf_relay) [] c.ports p q v s refl j)
      rows (AtLeaf j) ne (AtLeaf b) = refl

  pub leaf_moves : (c : RelayCalm H R L) (k : ℕ → ℕ) (p : ℕ) (q : RelayPort R L) (r : L × List ℕ) → slice_get c.ports p ≡ Some q → leaf_turn_now rs q ≡ Some r → CalmGrown c k → CalmGrown (calm_leaf c p q (Some r)) (update k (number (AtLeaf p)) (suc (k (number (AtLeaf p)))))
  leaf_moves c k p q r s e g = place_moves (state_at c) (state_at c') (sent_at c) (sent_at c') k (AtLeaf p) (TheLeaf r.0, leaf_sends p r.1) turn (ap (field_of leaf_node NoNode) (set_here c.ports p q v s)) there row rows g
    where
      v : RelayPort R L
      v = record q { leaf = r.0; leaf_relay = q.leaf_relay ++ r.1 }

      c' : RelayCalm H R L
      c' = calm_leaf c p q (Some r)

      turn : place_turn rs (length leaves) (AtLeaf p) (state_at c (AtLeaf p)) (λ a. sent_at c a (AtLeaf p)) ≡ Some (TheLeaf r.0, leaf_sends p r.1)
      turn =
          ap (λ (o : Option (RelayPort R L)). place_turn rs (length leaves) (AtLeaf p) (field_of leaf_node NoNode o) (λ a. sent_at c a (AtLeaf p))) s
          ∙ ap (λ (x : List ℕ). leaf_place_turn {H = H} {R = R} p (rs.star.leaf_turn q.leaf x)) (at_self p _ _ ∙ ap (field_of (λ (q : RelayPort R L). q.relay_leaf) []) s)
          ∙ ap (leaf_place_turn {H = H} {R = R} p) e

      there : (a : Place) → a ≢ AtLeaf p → state_at c' a ≡ state_at c a
      there AtHub ne = refl
      there (AtRelay j) ne = field_kept relay_node NoNode c.ports p q v s refl j
      there (AtLeaf j) ne = ap (field_of leaf_node NoNode) (set_there c.ports p v j (λ e. ne (ap AtLeaf e)))

      row : (b : Place) → sent_at c' (AtLeaf p) b ≡ sent_at c (AtLeaf p) b ++ leaf_sends p r.1 b
      row AtHub = refl
      row (AtRelay b) = go (b == p)
        where
          go : (t : Bool) → (if t then field_of (λ (q : RelayPort R L). q.leaf_relay) [] (slice_get (set c.ports p v) p) else []) ≡ (if t then field_of (λ (q : RelayPort R L). q.leaf_relay) [] (slice_get c.ports p) else []) ++ (if t then r.1 else [])
          go true = ap (field_of (λ (q : RelayPort R L). q.leaf_relay) []) (set_here c.ports p q v s) ∙ ap (λ (o : Option (RelayPort R L)). field_of (λ (q : RelayPort R L). q.leaf_relay) [] o ++ r.1) (sym s)
          go false = refl
      row (AtLeaf b) = refl

      rows : (a : Place) → a ≢ AtLeaf p → (b : Place) → sent_at c' a b ≡ sent_at c a b
      rows AtHub ne AtHub = refl
      rows AtHub ne (AtRelay j) = field_kept (λ (q : RelayPort R L). q.hub_relay) [] c.ports p q v s refl j
      rows AtHub ne (AtLeaf j) = refl
      rows (AtRelay j) ne AtHub = field_kept (λ (q : RelayPort R L). q.relay_hub) [] c.ports p q v s refl j
      rows (AtRelay j) ne (AtRelay b) = refl
      rows (AtRelay j) ne (AtLeaf b) = ap (λ (t : List ℕ). if b == j then t else []) (field_kept (λ (q : RelayPort R L). q.relay_leaf) [] c.ports p q v s refl j)
      rows (AtLeaf j) ne AtHub = refl
      rows (AtLeaf j) ne (AtRelay b) = ap (λ (o : Option (RelayPort R L)). if b == j then field_of (λ (q : RelayPort R L). q.leaf_relay) [] o else []) (set_there c.ports p v j (λ e. ne (ap AtLeaf e)))
      rows (AtLeaf j) ne (AtLeaf b) = refl
