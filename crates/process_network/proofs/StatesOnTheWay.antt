-- Each state that a node reaches in any schedule is one that it reaches in the calm run, with the same bytes sent.
use Rattle.std.proofs.Common.{◌≡◌, ℕ, zero, suc, ◌≤◌, ⊎_elim, List, [], ◌∷◌, ◌++◌, length, map, Option, Some, None, slice_get, refl, sym, ap, ◌∙◌, subst, arith, append-nil, append_assoc, eq-or-lt_of_le, le_refl}
use Rattle.std.proofs.lemmas.List.{map-append}
use Rattle.process_network.specs.Network.{IsPrefix, Below, Streams, Network, IsMonotone, World, received, start, after, after_all, IsRun, turns, turns_all, turns_after, turns_counted}
use Rattle.process_network.specs.Network.{Step as NetStep}
use Rattle.process_network.specs.Star.{Star, IsStarMonotone, Link, StarWorld, link, StarStep, star_all, star_start, StarNode, leaf_of, node_at, sent_at, view, star_network, star_turn, leaf_result, leaf_received, leaf_turn_of, net_step}
use Rattle.process_network.specs.Star.StarStep.{HubTurn}
use Rattle.process_network.specs.CalmRun.{Calm, Move, traffic_at, calm_hub_turn, calm_leaf_turn, calm_after, calm_all, calm_start, IsAtRest, out_steps, hub_steps, leaf_steps, move_steps, script_of, all_delivered}
use Rattle.process_network.specs.CalmRun.Move.{HubMoves, LeafMoves}
use Rattle.process_network.proofs.Prefixes.{update_all, prefix_take}
use Rattle.process_network.proofs.ProcessRuns.{runs_same, run_below}
use Rattle.process_network.proofs.ReachableWorlds.{IsOnRun}
use Rattle.process_network.proofs.QuiescentWorlds.{schedule_run, run_prefix}
use Rattle.process_network.proofs.StarTheorem.{star_monotone, from_start, net_quiescent, same_hub, same_leaf}
use Rattle.process_network.proofs.CalmRuns.{script_in_schedule, script_quiescent, calm_at_start, link_calm, leaf_heard_calm}

-- A count that goes up by at most one with each item meets each number on its way.
meets : {A : Type 0} (g : List A → ℕ) (k : ℕ) → ((xs : List A) (x : A) → g (xs ++ x ∷ []) ≤ suc (g xs)) → (done rest : List A) → g done ≤ k → k ≤ g (done ++ rest) → (before : List A) × (behind : List A) × (before ++ behind ≡ done ++ rest) × (g before ≡ k)
meets g k up done [] low high = (done, [], refl, (let e : k ≤ g done = subst (λ t. k ≤ g t) (append-nil done) high in omega arith))
meets {A} g k up done (x ∷ rest) low high = ⊎_elim
    (λ e. (done, x ∷ rest, refl, e))
    (λ m.
    let same : (done ++ x ∷ []) ++ rest ≡ done ++ x ∷ rest = append_assoc done (x ∷ []) rest in
    let r = meets g k up (done ++ x ∷ []) rest (let u = up done x in omega arith) (subst (λ t. k ≤ g t) (sym same) high) in
    (r.0, r.1, r.2 ∙ same, r.3))
    (eq-or-lt_of_le low)

script_append : {H L : Type 0} (star : Star H L) (c : Calm H L) (xs ys : List Move) → script_of star c (xs ++ ys) ≡ script_of star c xs ++ script_of star (calm_all star c xs) ys
script_append star c [] ys = refl
script_append star c (x ∷ xs) ys = ap (λ t. move_steps star c x ++ t) (script_append star (calm_after star c x) xs ys) ∙ sym (append_assoc (move_steps star c x) (script_of star (calm_after star c x) xs) (script_of star (calm_all star (calm_after star c x) xs) ys))

turns_all_append : {S : Type 0} (net : Network S) (w : World S) (k : ℕ → ℕ) (xs ys : List NetStep) → turns_all net w k (xs ++ ys) ≡ turns_all net (after_all net w xs) (turns_all net w k xs) ys
turns_all_append net w k [] ys = refl
turns_all_append net w k (x ∷ xs) ys = turns_all_append net (after net w x) (turns_after net w k x) xs ys

counted_one : {S : Type 0} (k : ℕ → ℕ) (a : ℕ) (r : Option (S × Streams)) (i : ℕ) → turns_counted k a r i ≤ suc (k i)
counted_one k a None i = omega arith
counted_one k a (Some r) i = update_all (λ i v. v ≤ suc (k i)) k a (suc (k a)) (le_refl _) (λ j ne. omega arith) i

module _ {H L : Type 0} (star : Star H L) (hub : H) (leaves : List L) where
  out_turns : (w : World (StarNode H L)) (k : ℕ → ℕ) (o : Option (ℕ × List ℕ)) → turns_all (star_network star hub leaves) w k (map net_step (out_steps o)) ≡ k
  out_turns w k None = refl
  out_turns w k (Some m) = refl

  move_one : (w : World (StarNode H L)) (k : ℕ → ℕ) (c : Calm H L) (m : Move) (i : ℕ) → turns_all (star_network star hub leaves) w k (map net_step (move_steps star c m)) i ≤ suc (k i)
  move_one w k c HubMoves i = go (calm_hub_turn star c)
    where
      go : (r : Option (H × Option (ℕ × List ℕ))) → turns_all (star_network star hub leaves) w k (map net_step (hub_steps r)) i ≤ suc (k i)
      go None = omega arith
      go (Some r) = subst (λ (t : ℕ → ℕ). t i ≤ suc (k i)) (sym (out_turns (after (star_network star hub leaves) w (net_step HubTurn)) (turns_after (star_network star hub leaves) w k (net_step HubTurn)) r.1)) (counted_one k 0 _ i)
  move_one w k c (LeafMoves p) i = go (calm_leaf_turn star c p)
    where
      go : (r : Option (L × List ℕ)) → turns_all (star_network star hub leaves) w k (map net_step (leaf_steps p r)) i ≤ suc (k i)
      go None = omega arith
      go (Some r) = counted_one k (suc p) _ i

  -- the turns of node i in the schedule of these moves
  node_turns : ℕ → List Move → ℕ
  node_turns i ms = turns (star_network star hub leaves) (map net_step (script_of star (calm_start hub leaves) ms)) i

  node_turns_up : (i : ℕ) (xs : List Move) (x : Move) → node_turns i (xs ++ x ∷ []) ≤ suc (node_turns i xs)
  unfolding node_turns
  node_turns_up i xs x =
      let net = star_network star hub leaves in
      let c = calm_all star (calm_start hub leaves) xs in
      let a = script_of star (calm_start hub leaves) xs in
      let e : map net_step (script_of star (calm_start hub leaves) (xs ++ x ∷ [])) ≡ map net_step a ++ map net_step (move_steps star c x) =
      ap (map net_step) (script_append star (calm_start hub leaves) xs (x ∷ []) ∙ ap (λ t. a ++ t) (append-nil (move_steps star c x))) ∙ map-append net_step a (move_steps star c x) in
      subst (λ t. turns net t i ≤ suc (turns net (map net_step a) i)) (sym e)
      (subst (λ (t : ℕ → ℕ). t i ≤ suc (turns net (map net_step a) i)) (sym (turns_all_append net (start net) (λ i. 0) (map net_step a) (map net_step (move_steps star c x))))
      (move_one (after_all net (start net) (map net_step a)) (turns net (map net_step a)) c x i))

module _ {H L : Type 0} (star : Star H L) (monotone : IsStarMonotone star) (hub : H) (leaves : List L) (moves : List Move) (rest : IsAtRest star (calm_all star (calm_start hub leaves) moves)) (ss : List StarStep) where
  abbrev world : StarWorld H L
  world = star_all star (star_start hub leaves) ss

  abbrev calm : List Move → Calm H L
  calm ms = calm_all star (calm_start hub leaves) ms

  pub node_occurs : (i : ℕ) → (before : List Move) × (behind : List Move) × (before ++ behind ≡ moves) × (node_at (calm before).hub (calm before).leaves i ≡ node_at world.hub world.leaves i) × ((j : ℕ) → sent_at (all_delivered (calm before)).links i j ≡ sent_at world.links i j)
  unfolding node_turns
  node_occurs i =
      let net = star_network star hub leaves in
      let st = star_monotone star monotone hub leaves in
      let script = script_of star (calm_start hub leaves) moves in
      let ns = net_quiescent star monotone hub leaves script (script_quiescent star monotone hub leaves moves rest) in
      let k : ℕ = turns net (map net_step ss) i in
      let way = run_prefix net st (map net_step script) ns (map net_step ss) i in
      let found = meets (node_turns star hub leaves i) k (node_turns_up star hub leaves i) [] moves (omega arith) way.0 in
      let there = script_of star (calm_start hub leaves) found.0 in
      let way' = run_prefix net st (map net_step script) ns (map net_step there) i in
      let both = runs_same net i (received (after_all net (start net) (map net_step script)) i) k _ _ _ _
      (subst (λ t. IsRun net i (received (after_all net (start net) (map net_step script)) i) t ((after_all net (start net) (map net_step there)).state i) ((after_all net (start net) (map net_step there)).sent i)) found.3 way'.1) way.1 in
      let to_there : view (all_delivered (calm found.0)) ≡ after_all net (start net) (map net_step there) = ap view (sym (script_in_schedule star (calm_start hub leaves) found.0) ∙ ap (λ w. star_all star w there) (sym (calm_at_start hub leaves))) ∙ from_start star hub leaves there in
      let to_world : view world ≡ after_all net (start net) (map net_step ss) = from_start star hub leaves ss in (
        found.0,
        found.1,
        found.2,
        ap (λ (v : World (StarNode H L)). v.state i) to_there ∙ both.0 ∙ sym (ap (λ (v : World (StarNode H L)). v.state i) to_world),
        λ j. ap (λ (v : World (StarNode H L)). v.sent i j) to_there ∙ both.1 j ∙ sym (ap (λ (v : World (StarNode H L)). v.sent i j) to_world),
      )

  -- The hub's state occurs in the calm run, after some of the moves, when it has sent as much.
  pub hub_occurs : (before : List Move) × (behind : List Move) × (before ++ behind ≡ moves) × ((calm before).hub ≡ world.hub) × ((p : ℕ) → (traffic_at (calm before).traffic p).0 ≡ (link world p).out)
  hub_occurs =
      let r = node_occurs 0 in
      (r.0, r.1, r.2, same_hub {L = L} (calm r.0).hub world.hub r.3, λ p. ap (λ (l : Link). l.out) (sym (link_calm (calm r.0) p)) ∙ r.4 (suc p))

  -- So does the state of a leaf.
  pub leaf_occurs : (p : ℕ) → (before : List Move) × (behind : List Move) × (before ++ behind ≡ moves) × (slice_get (calm before).leaves p ≡ slice_get world.leaves p) × ((traffic_at (calm before).traffic p).1 ≡ (link world p).back)
  leaf_occurs p =
      let r = node_occurs (suc p) in
      (r.0, r.1, r.2, same_leaf {H = H} (slice_get (calm r.0).leaves p) (slice_get world.leaves p) r.3, ap (λ (l : Link). l.back) (sym (link_calm (calm r.0) p)) ∙ r.4 0)

  -- What leaf p has sent in any schedule is a beginning of what it sent in the calm run when the hub was there, if the leaf
  -- rested then.
  pub hub_sees : (before : List Move) → ((p : ℕ) → (traffic_at (calm before).traffic p).0 ≡ (link world p).out) → (p : ℕ) → calm_leaf_turn star (calm before) p ≡ None → IsPrefix (link world p).back (traffic_at (calm before).traffic p).1
  hub_sees before out p stop =
      subst (λ (l : Link). IsPrefix (link world p).back l.back) (link_calm (calm before) p)
      (subst (λ (v : World (StarNode H L)). IsPrefix (v.sent (suc p) 0) (link (all_delivered (calm before)) p).back) (sym to_world)
      (subst (λ (v : World (StarNode H L)). IsPrefix ((after_all net (start net) (map net_step ss)).sent (suc p) 0) (v.sent (suc p) 0)) (sym to_there)
      ((run_below net st (suc p) (received W (suc p)) (received V (suc p)) below _ _ _ _ _ _ (run_w.runs (suc p)) (run_v.runs (suc p)) stop_v).1 0)))
    where
      net : Network (StarNode H L)
      net = star_network star hub leaves

      st : IsMonotone net
      st = star_monotone star monotone hub leaves

      there : List StarStep
      there = script_of star (calm_start hub leaves) before

      W : World (StarNode H L)
      W = after_all net (start net) (map net_step ss)

      V : World (StarNode H L)
      V = after_all net (start net) (map net_step there)

      to_there : view (all_delivered (calm before)) ≡ V
      to_there = ap view (sym (script_in_schedule star (calm_start hub leaves) before) ∙ ap (λ w. star_all star w there) (sym (calm_at_start hub leaves))) ∙ from_start star hub leaves there

      to_world : view world ≡ W
      to_world = from_start star hub leaves ss

      run_w : IsOnRun net W (turns net (map net_step ss))
      run_w = schedule_run net st (map net_step ss)

      run_v : IsOnRun net V (turns net (map net_step there))
      run_v = schedule_run net st (map net_step there)

      stop_v : net.turn (suc p) (V.state (suc p)) (received V (suc p)) ≡ None
      stop_v = subst (λ (v : World (StarNode H L)). net.turn (suc p) (v.state (suc p)) (received v (suc p)) ≡ None) to_there (rests (slice_get (calm before).leaves p) refl)
        where
          rests : (o : Option L) → slice_get (calm before).leaves p ≡ o → star_turn star (length leaves) (leaf_of {H = H} o) (received (view (all_delivered (calm before))) (suc p)) ≡ None
          rests None e = refl
          rests (Some l) e = ap leaf_result (ap (star.leaf_turn l) (leaf_heard_calm (calm before) p) ∙ ap (λ (t : Option L). leaf_turn_of star t (traffic_at (calm before).traffic p).0) (sym e) ∙ stop)

      view_below : (j : ℕ) → IsPrefix (received (view world) (suc p) j) (received (view (all_delivered (calm before))) (suc p) j)
      view_below zero = subst (λ t. IsPrefix (leaf_received world p) t) (sym (leaf_heard_calm (calm before) p ∙ out p)) (prefix_take (link world p).out_delivered (link world p).out)
      view_below (suc q) = ([], refl)

      below : Below (received W (suc p)) (received V (suc p))
      below = subst (λ (v : World (StarNode H L)). Below (received v (suc p)) (received V (suc p))) to_world (subst (λ (v : World (StarNode H L)). Below (received (view world) (suc p)) (received v (suc p))) to_there view_below)
