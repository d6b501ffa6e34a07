-- With relays all is at its end as soon as the hub has halted, where each leaf ends by sending.
use Rattle.std.proofs.Common.{◌≡◌, ℕ, zero, suc, ◌≤◌, ◌==◌, Bool, true, false, List, [], ◌++◌, length, get_or, map, Option, Some, None, slice_get, if◌then◌else◌, refl, sym, ap, ◌∙◌, subst, arith}
use Rattle.std.proofs.lemmas.Option.{none-some, same_Some}
use Rattle.process_network.specs.Network.{Streams, Network, IsRun}
use Rattle.process_network.specs.PacketProcesses.{IsDecided}
use Rattle.process_network.specs.PacketStar.{Ends, HubEnd, LeafEnd, hub_turn_by, leaf_turn_by, star_of, fresh_hub, fresh_leaf}
use Rattle.process_network.specs.StarTalk.{IsLeafRun}
use Rattle.process_network.proofs.PacketCursors.{zero_at, fresh_taken, hub_stays, leaf_stays}
use Rattle.relay_network.specs.RelayStar.{RelayStar, Place, place, number, RelayNode, relay_sends, leaf_sends, hub_place_turn, relay_place_turn, leaf_place_turn, place_turn, by_number, place_start, relay_at, leaf_at, relay_network}
use Rattle.relay_network.specs.RelayStar.Place.{AtHub, AtRelay, AtLeaf}
use Rattle.relay_network.specs.RelayStar.RelayNode.{TheHub, TheRelay, TheLeaf, NoNode}
use Rattle.relay_network.specs.RelayPackets.{Relays, RelayEnd, relay_turn_by, relay_star_of, fresh_relay}
use Rattle.relay_network.proofs.RelayNetwork.{place_number, at_self}
use Rattle.relay_network.proofs.RelayStates.{RelayRuns}

-- What a run's turns keep holds of its states.
run_keeps : {S : Type 0} (net : Network S) (i : ℕ) (x : Streams) (T : S → Type 0) → T (net.start i) → ((s : S) (r : S × Streams) → T s → net.turn i s x ≡ Some r → T r.0) → (m : ℕ) (s : S) (o : Streams) → IsRun net i x m s o → T s
run_keeps net i x T first step zero s o run = subst T (sym run.0) first
run_keeps net i x T first step (suc m) s o run = step run.0 (s, run.2) (run_keeps net i x T first step m run.0 run.1 run.3) run.4

the_relay : {H R L : Type 0} → R → RelayNode H R L → R
the_relay d (TheRelay r) = r
the_relay d s = d

pub relay_is : {H R L : Type 0} (a b : R) → ◌≡◌ {A = RelayNode H R L} (TheRelay a) (TheRelay b) → a ≡ b
unfolding the_relay
relay_is a b same = ap (the_relay a) same

module _ {H R L P : Type 0} (e : Ends H L P) (decided : IsDecided e.first) (k : Relays R P) (hub : H) (relay : R) (leaves : List L) where
  abbrev rs : RelayStar (HubEnd H) (RelayEnd R) (LeafEnd L)
  rs = relay_star_of e k

  abbrev n : ℕ
  n = length (map fresh_leaf leaves)

  abbrev net : Network (RelayNode (HubEnd H) (RelayEnd R) (LeafEnd L))
  net = relay_network rs (fresh_hub hub (length leaves)) (fresh_relay relay) (map fresh_leaf leaves)

  turn_at : (a : Place) (s : RelayNode (HubEnd H) (RelayEnd R) (LeafEnd L)) (x : Streams) → net.turn (number a) s x ≡ by_number (place_turn rs n a s (λ q. x (number q)))
  turn_at a s x = ap (λ b. by_number (place_turn rs n b s (λ q. x (number q)))) (place_number a)

  -- The run of a relay's node is the relay's run.

  abbrev pub HasRelayRun : ℕ → Streams → ℕ → RelayNode (HubEnd H) (RelayEnd R) (LeafEnd L) → Streams → Type 0
  HasRelayRun p x m st o = (s : RelayEnd R) × (st ≡ TheRelay s) × RelayRuns e decided k relay (x 0) (x (number (AtLeaf p))) m s (o (number (AtLeaf p))) (o 0)

  relay_next : (p : ℕ) (x : Streams) (m : ℕ) (st : RelayNode (HubEnd H) (RelayEnd R) (LeafEnd L)) (o : Streams) (run : IsRun net (number (AtRelay p)) x (suc m) st o) → HasRelayRun p x m run.0 run.1 → HasRelayRun p x (suc m) st o
  relay_next p x m st o run ih = go (relay_turn_by e k ih.0 (x 0) (x (number (AtLeaf p))) (k.outlook ih.0.core)) refl (sym (turn_at (AtRelay p) (TheRelay ih.0) x) ∙ ap (λ t. net.turn (number (AtRelay p)) t x) (sym ih.1) ∙ run.4)
    where
      go : (t : Option (RelayEnd R × (List ℕ × List ℕ))) → relay_turn_by e k ih.0 (x 0) (x (number (AtLeaf p))) (k.outlook ih.0.core) ≡ t → by_number (relay_place_turn {H = HubEnd H} {L = LeafEnd L} p t) ≡ Some (st, run.2) → HasRelayRun p x (suc m) st o
      go None g eq = absurd (none-some {A = RelayNode (HubEnd H) (RelayEnd R) (LeafEnd L) × Streams} (st, run.2) eq)
      go (Some r) g eq =
          let same = same_Some {A = RelayNode (HubEnd H) (RelayEnd R) (LeafEnd L) × Streams} (TheRelay r.0, λ j. relay_sends p r.1 (place j)) (st, run.2) eq in (
            r.0,
            sym (ap (λ (v : RelayNode (HubEnd H) (RelayEnd R) (LeafEnd L) × Streams). v.0) same),
            (
              ih.0,
              run.1 (number (AtLeaf p)),
              run.1 0,
              r.1,
              ih.2,
              g,
              run.5 (number (AtLeaf p)) ∙ ap (λ t. run.1 (number (AtLeaf p)) ++ t) (sym (ap (λ (v : RelayNode (HubEnd H) (RelayEnd R) (LeafEnd L) × Streams). v.1 (number (AtLeaf p))) same) ∙ ap (relay_sends p r.1) (place_number (AtLeaf p)) ∙ at_self p r.1.0 []),
              run.5 0 ∙ ap (λ t. run.1 0 ++ t) (sym (ap (λ (v : RelayNode (HubEnd H) (RelayEnd R) (LeafEnd L) × Streams). v.1 0) same)),
            ),
          )

  pub relay_runs : (p : ℕ) (l : LeafEnd L) → slice_get (map fresh_leaf leaves) p ≡ Some l → (x : Streams) (m : ℕ) (st : RelayNode (HubEnd H) (RelayEnd R) (LeafEnd L)) (o : Streams) → IsRun net (number (AtRelay p)) x m st o → HasRelayRun p x m st o
  relay_runs p l g x zero st o run = (fresh_relay relay, run.0 ∙ ap (place_start (fresh_hub hub (length leaves)) (fresh_relay relay) (map fresh_leaf leaves)) (place_number (AtRelay p)) ∙ ap (relay_at (fresh_relay relay)) g, (refl, run.1 (number (AtLeaf p)), run.1 0))
  relay_runs p l g x (suc m) st o run = relay_next p x m st o run (relay_runs p l g x m run.0 run.1 run.3)

  pub relay_same : (x y : List ℕ) (m : ℕ) (s s' : RelayEnd R) (a b a' b' : List ℕ) → RelayRuns e decided k relay x y m s a b → RelayRuns e decided k relay x y m s' a' b' → s ≡ s'
  relay_same x y zero s s' a b a' b' r r' = r.0 ∙ sym r'.0
  relay_same x y (suc m) s s' a b a' b' r r' =
      let ih = relay_same x y m r.0 r'.0 r.1 r.2 r'.1 r'.2 r.4 r'.4 in
      ap (λ (v : RelayEnd R × (List ℕ × List ℕ)). v.0) (same_Some (s, r.3) (s', r'.3) (sym r.5 ∙ ap (λ (v : RelayEnd R). relay_turn_by e k v x y (k.outlook v.core)) ih ∙ r'.5))

  -- A leaf's run is the run of its node.
  pub leaf_runs : (p : ℕ) (l : LeafEnd L) → slice_get (map fresh_leaf leaves) p ≡ Some l → (x : Streams) (m : ℕ) (l' : LeafEnd L) (o : List ℕ) → IsLeafRun (star_of e) l (x (number (AtRelay p))) m l' o → IsRun net (number (AtLeaf p)) x m (TheLeaf l') (λ j. leaf_sends p o (place j))
  leaf_runs p l g x zero l' o run = (ap TheLeaf run.0 ∙ sym (ap (place_start (fresh_hub hub (length leaves)) (fresh_relay relay) (map fresh_leaf leaves)) (place_number (AtLeaf p)) ∙ ap leaf_at g), λ j. none (place j))
    where
      none : (b : Place) → leaf_sends p o b ≡ []
      none AtHub = refl
      none (AtRelay q) = go (q == p)
        where
          go : (t : Bool) → (if t then o else []) ≡ []
          go true = run.1
          go false = refl
      none (AtLeaf q) = refl
  leaf_runs p l g x (suc m) l' o run = (TheLeaf run.0, (λ j. leaf_sends p run.1 (place j)), (λ j. leaf_sends p run.2 (place j)), leaf_runs p l g x m run.0 run.1 run.3, turn_at (AtLeaf p) (TheLeaf run.0) x ∙ ap (λ t. by_number (leaf_place_turn {H = HubEnd H} {R = RelayEnd R} p t)) run.4, λ j. more (place j))
    where
      more : (b : Place) → leaf_sends p o b ≡ leaf_sends p run.1 b ++ leaf_sends p run.2 b
      more AtHub = refl
      more (AtRelay q) = go (q == p)
        where
          go : (t : Bool) → (if t then o else []) ≡ (if t then run.1 else []) ++ (if t then run.2 else [])
          go true = run.5
          go false = refl
      more (AtLeaf q) = refl

  -- No turn takes more than was received.

  abbrev pub HubWithin : Streams → RelayNode (HubEnd H) (RelayEnd R) (LeafEnd L) → Type 0
  HubWithin x (TheHub h) = (p : ℕ) → get_or h.taken p 0 ≤ length (x (number (AtRelay p)))
  HubWithin x s = ⊥

  abbrev pub LeafWithin : ℕ → Streams → RelayNode (HubEnd H) (RelayEnd R) (LeafEnd L) → Type 0
  LeafWithin p x (TheLeaf l) = l.taken ≤ length (x (number (AtRelay p)))
  LeafWithin p x s = ⊥

  pub hub_within : (x : Streams) (m : ℕ) (s : RelayNode (HubEnd H) (RelayEnd R) (LeafEnd L)) (o : Streams) → IsRun net 0 x m s o → HubWithin x s
  hub_within x m s o run = run_keeps net 0 x (HubWithin x) (λ p. (let z = zero_at (length leaves) p in omega arith)) step m s o run
    where
      step : (s : RelayNode (HubEnd H) (RelayEnd R) (LeafEnd L)) (r : RelayNode (HubEnd H) (RelayEnd R) (LeafEnd L) × Streams) → HubWithin x s → net.turn 0 s x ≡ Some r → HubWithin x r.0
      step (TheHub h) r within t = go (hub_turn_by e h (λ p. x (number (AtRelay p))) (e.hub_outlook h.core)) refl t
        where
          go : (o : Option (HubEnd H × Option (ℕ × List ℕ))) → hub_turn_by e h (λ p. x (number (AtRelay p))) (e.hub_outlook h.core) ≡ o → by_number (hub_place_turn {R = RelayEnd R} {L = LeafEnd L} n o) ≡ Some r → HubWithin x r.0
          go None g eq = absurd (none-some {A = RelayNode (HubEnd H) (RelayEnd R) (LeafEnd L) × Streams} r eq)
          go (Some v) g eq = subst (λ (w : RelayNode (HubEnd H) (RelayEnd R) (LeafEnd L) × Streams). HubWithin x w.0) (same_Some {A = RelayNode (HubEnd H) (RelayEnd R) (LeafEnd L) × Streams} _ r eq) (λ p. hub_stays e decided h (λ p. x (number (AtRelay p))) v within (e.hub_outlook h.core) g p)
      step (TheRelay s) r within t = absurd within
      step (TheLeaf l) r within t = absurd within
      step NoNode r within t = absurd within

  pub leaf_within : (p : ℕ) (l : LeafEnd L) → slice_get (map fresh_leaf leaves) p ≡ Some l → (x : Streams) (m : ℕ) (s : RelayNode (HubEnd H) (RelayEnd R) (LeafEnd L)) (o : Streams) → IsRun net (number (AtLeaf p)) x m s o → LeafWithin p x s
  leaf_within p l g x m s o run = run_keeps net (number (AtLeaf p)) x (LeafWithin p x)
      (subst (LeafWithin p x) (sym (ap (place_start (fresh_hub hub (length leaves)) (fresh_relay relay) (map fresh_leaf leaves)) (place_number (AtLeaf p)) ∙ ap leaf_at g)) (let z = fresh_taken leaves p l g in omega arith)) step m s o run
    where
      step : (s : RelayNode (HubEnd H) (RelayEnd R) (LeafEnd L)) (r : RelayNode (HubEnd H) (RelayEnd R) (LeafEnd L) × Streams) → LeafWithin p x s → net.turn (number (AtLeaf p)) s x ≡ Some r → LeafWithin p x r.0
      step (TheLeaf t) r within eq₀ = go (leaf_turn_by e t (x (number (AtRelay p))) (e.leaf_outlook t.core)) refl (sym (turn_at (AtLeaf p) (TheLeaf t) x) ∙ eq₀)
        where
          go : (o : Option (LeafEnd L × List ℕ)) → leaf_turn_by e t (x (number (AtRelay p))) (e.leaf_outlook t.core) ≡ o → by_number (leaf_place_turn {H = HubEnd H} {R = RelayEnd R} p o) ≡ Some r → LeafWithin p x r.0
          go None g eq = absurd (none-some {A = RelayNode (HubEnd H) (RelayEnd R) (LeafEnd L) × Streams} r eq)
          go (Some v) g eq = subst (λ (w : RelayNode (HubEnd H) (RelayEnd R) (LeafEnd L) × Streams). LeafWithin p x w.0) (same_Some {A = RelayNode (HubEnd H) (RelayEnd R) (LeafEnd L) × Streams} _ r eq) (leaf_stays e decided t (x (number (AtRelay p))) v within (e.leaf_outlook t.core) g)
      step (TheHub h) r within t = absurd within
      step (TheRelay s) r within t = absurd within
      step NoNode r within t = absurd within
