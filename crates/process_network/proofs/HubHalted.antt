-- What holds along the runs of a star, and the hub's end.
use Rattle.std.proofs.Common.{◌≡◌, ℕ, zero, suc, ◌+◌, ◌<◌, ◌≤◌, ◌⊎◌, ◌==◌, inl, inr, ⊎_elim, Bool, true, false, List, [], ◌∷◌, length, map, Option, Some, None, is_some, if◌then◌else◌, slice_get, refl, sym, ap, ◌∙◌, subst, arith, eqb-true}
use Rattle.std.proofs.lemmas.Bool.{eqb-false}
use Rattle.std.proofs.lemmas.List.{length-replicate}
use Rattle.std.proofs.lemmas.Option.{none-some, same_Some}
use Rattle.process_network.specs.Network.{update, Streams, Network, IsMonotone, World, received, start, after_all, IsQuiescent, IsSame, turns, turns_all, turns_after, turns_counted}
use Rattle.process_network.specs.Star.{Star, IsStarMonotone, new_link, StarWorld, link, StarStep, star_after, star_all, IsStarQuiescent, star_start, StarNode, leaf_of, node_at, sent_at, view, hub_result, leaf_result, star_turn, star_network, net_step, one_leaf_turn, leaf_turns, Cursors}
use Rattle.process_network.specs.Star.StarStep.{HubTurn, LeafTurn, DeliverOut, DeliverBack}
use Rattle.process_network.specs.Star.StarNode.{Hub, Leaf, Absent}
use Rattle.process_network.proofs.Prefixes.{update_same, update_other, le_or_lt}
use Rattle.process_network.proofs.ReachableWorlds.{IsFinal}
use Rattle.process_network.proofs.QuiescentWorlds.{schedule_run, script_final, sent_prefix, run_prefix}
use Rattle.process_network.proofs.HaltedNode.{runs_lead, IsHungry, EndsBySending, IsCursor, cursor_hungry, halted_same}
use Rattle.process_network.proofs.StarView.{step_view}
use Rattle.process_network.proofs.StarTheorem.{star_monotone, from_start, effective_view, step_kept, all_kept, net_quiescent, same_star, past_out, start_view, absent_runs}

abbrev HubLeads : {H L : Type 0} → (H → H → Type 0) → StarNode H L → StarNode H L → Type 0
HubLeads R (Hub a) (Hub b) = R a b
HubLeads R (Hub a) (Leaf b) = ⊥
HubLeads R (Hub a) Absent = ⊥
HubLeads R (Leaf a) s = Unit {0}
HubLeads R Absent s = Unit {0}

abbrev LeafLeads : {H L : Type 0} → (L → L → Type 0) → StarNode H L → StarNode H L → Type 0
LeafLeads R (Leaf a) (Leaf b) = R a b
LeafLeads R (Leaf a) (Hub b) = ⊥
LeafLeads R (Leaf a) Absent = ⊥
LeafLeads R (Hub a) s = Unit {0}
LeafLeads R Absent s = Unit {0}

module _ {H L : Type 0} (star : Star H L) where
  hub_lead_step : (n : ℕ) (R : H → H → Type 0) → ((h a : H) (x : Streams) (r : H × Option (ℕ × List ℕ)) → R h a → star.hub_turn a x ≡ Some r → R h r.0) → (x : Streams) (s s₀ s₁ : StarNode H L) (more : Streams) → HubLeads R s s₀ → star_turn star n s₀ x ≡ Some (s₁, more) → HubLeads R s s₁
  hub_lead_step n R step x (Leaf a) s₀ s₁ more l e = tt
  hub_lead_step n R step x Absent s₀ s₁ more l e = tt
  hub_lead_step n R step x (Hub a) (Leaf b) s₁ more l e = absurd l
  hub_lead_step n R step x (Hub a) Absent s₁ more l e = absurd l
  hub_lead_step n R step x (Hub a) (Hub b) s₁ more l e = go (star.hub_turn b (λ p. x (suc p))) refl e
    where
      go : (r : Option (H × Option (ℕ × List ℕ))) → star.hub_turn b (λ p. x (suc p)) ≡ r → hub_result n r ≡ Some (s₁, more) → HubLeads R (Hub a) s₁
      go None h e' = absurd (none-some {A = StarNode H L × Streams} (s₁, more) e')
      go (Some r) h e' = subst (λ (t : StarNode H L × Streams). HubLeads R (Hub a) t.0) (same_Some {A = StarNode H L × Streams} _ _ e') (step a b (λ p. x (suc p)) r l h)

  leaf_lead_step : (n : ℕ) (R : L → L → Type 0) → ((h a : L) (x : List ℕ) (r : L × List ℕ) → R h a → star.leaf_turn a x ≡ Some r → R h r.0) → (x : Streams) (s s₀ s₁ : StarNode H L) (more : Streams) → LeafLeads R s s₀ → star_turn star n s₀ x ≡ Some (s₁, more) → LeafLeads R s s₁
  leaf_lead_step n R step x (Hub a) s₀ s₁ more l e = tt
  leaf_lead_step n R step x Absent s₀ s₁ more l e = tt
  leaf_lead_step n R step x (Leaf a) (Hub b) s₁ more l e = absurd l
  leaf_lead_step n R step x (Leaf a) Absent s₁ more l e = absurd l
  leaf_lead_step n R step x (Leaf a) (Leaf b) s₁ more l e = go (star.leaf_turn b (x 0)) refl e
    where
      go : (r : Option (L × List ℕ)) → star.leaf_turn b (x 0) ≡ r → leaf_result r ≡ Some (s₁, more) → LeafLeads R (Leaf a) s₁
      go None h e' = absurd (none-some {A = StarNode H L × Streams} (s₁, more) e')
      go (Some r) h e' = subst (λ (t : StarNode H L × Streams). LeafLeads R (Leaf a) t.0) (same_Some {A = StarNode H L × Streams} _ _ e') (step a b (x 0) r l h)

  hub_lead_refl : (R : H → H → Type 0) → ((h : H) → R h h) → (s : StarNode H L) → HubLeads R s s
  hub_lead_refl R same (Hub a) = same a
  hub_lead_refl R same (Leaf a) = tt
  hub_lead_refl R same Absent = tt

  leaf_lead_refl : (R : L → L → Type 0) → ((h : L) → R h h) → (s : StarNode H L) → LeafLeads R s s
  leaf_lead_refl R same (Hub a) = tt
  leaf_lead_refl R same (Leaf a) = same a
  leaf_lead_refl R same Absent = tt

module _ {H L : Type 0} (star : Star H L) (monotone : IsStarMonotone star) (hub : H) (leaves : List L) (script : List StarStep) (quiescent : IsStarQuiescent star (star_all star (star_start hub leaves) script)) (ss : List StarStep) where
  -- A relation that each node's turns keep leads from its state to that at the script's end.
  node_leads : (R : StarNode H L → StarNode H L → Type 0) → ((s : StarNode H L) → R s s) → ((x : Streams) (s s₀ s₁ : StarNode H L) (more : Streams) → R s s₀ → star_turn star (length leaves) s₀ x ≡ Some (s₁, more) → R s s₁) → (i : ℕ) → R (node_at (star_all star (star_start hub leaves) ss).hub (star_all star (star_start hub leaves) ss).leaves i) (node_at (star_all star (star_start hub leaves) script).hub (star_all star (star_start hub leaves) script).leaves i)
  node_leads R same step i =
      let net = star_network star hub leaves in
      let ns = net_quiescent star monotone hub leaves script quiescent in
      let st = star_monotone star monotone hub leaves in
      let way = run_prefix net st (map net_step script) ns (map net_step ss) i in
      let fin = script_final net st (map net_step script) ns in
      let lead = runs_lead net i (received (after_all net (start net) (map net_step script)) i) R same (λ s s₀ s₁ more. step (received (after_all net (start net) (map net_step script)) i) s s₀ s₁ more) (turns net (map net_step ss) i) (turns net (map net_step script) i) _ _ _ _ way.0 way.1 (fin.run.runs i) in
      subst (λ (v : World (StarNode H L)). R (v.state i) (node_at (star_all star (star_start hub leaves) script).hub (star_all star (star_start hub leaves) script).leaves i)) (sym (from_start star hub leaves ss))
      (subst (λ (v : World (StarNode H L)). R ((after_all net (start net) (map net_step ss)).state i) (v.state i)) (sym (from_start star hub leaves script)) lead)

  pub hub_leads : (R : H → H → Type 0) → ((h : H) → R h h) → ((h a : H) (x : Streams) (r : H × Option (ℕ × List ℕ)) → R h a → star.hub_turn a x ≡ Some r → R h r.0) → R (star_all star (star_start hub leaves) ss).hub (star_all star (star_start hub leaves) script).hub
  hub_leads R same step = node_leads (HubLeads R) (hub_lead_refl star R same) (hub_lead_step star (length leaves) R step) 0

  pub leaf_leads : (R : L → L → Type 0) → ((l : L) → R l l) → ((l a : L) (x : List ℕ) (r : L × List ℕ) → R l a → star.leaf_turn a x ≡ Some r → R l r.0) → (p : ℕ) (l m : L) → slice_get (star_all star (star_start hub leaves) ss).leaves p ≡ Some l → slice_get (star_all star (star_start hub leaves) script).leaves p ≡ Some m → R l m
  leaf_leads R same step p l m e e' =
      subst (λ (t : Option L). LeafLeads R (Leaf l) (leaf_of {H = H} t)) e' (subst (λ (t : Option L). LeafLeads R (leaf_of {H = H} t) (leaf_of {H = H} (slice_get (star_all star (star_start hub leaves) script).leaves p))) e
      (node_leads (LeafLeads R) (leaf_lead_refl star R same) (leaf_lead_step star (length leaves) R step) (suc p)))

-- The turns of a leaf, counted in the star and in the network.
module _ {H L : Type 0} (star : Star H L) (hub : H) (leaves : List L) where
  count_hub : (k : ℕ → ℕ) (p : ℕ) (r : Option (StarNode H L × Streams)) → turns_counted k 0 r (suc p) ≡ k (suc p) + 0
  count_hub k p None = omega arith
  count_hub k p (Some r) = update_other k 0 (suc (k 0)) (suc p) (λ e. (omega arith)) ∙ (omega arith)

  count_leaf : (k : ℕ → ℕ) (p q : ℕ) (r : Option (StarNode H L × Streams)) → turns_counted k (suc q) r (suc p) ≡ k (suc p) + (if q == p then (if is_some r then 1 else 0) else 0)
  count_leaf k p q r = go (q == p) refl r
    where
      go : (b : Bool) → (q == p) ≡ b → (r : Option (StarNode H L × Streams)) → turns_counted k (suc q) r (suc p) ≡ k (suc p) + (if b then (if is_some r then 1 else 0) else 0)
      go true e None = omega arith
      go true e (Some r) = subst (λ t. update k (suc q) (suc (k (suc q))) (suc t) ≡ k (suc t) + 1) (eqb-true q p e) (update_same k (suc q) (suc (k (suc q))) ∙ (omega arith))
      go false e None = omega arith
      go false e (Some r) = update_other k (suc q) (suc (k (suc q))) (suc p) (λ s. eqb-false q p e (omega arith)) ∙ (omega arith)

  count_step : (w : StarWorld H L) (k : ℕ → ℕ) (p : ℕ) (s : StarStep) → turns_after (star_network star hub leaves) (view w) k (net_step s) (suc p) ≡ k (suc p) + one_leaf_turn star w p s
  count_step w k p HubTurn = count_hub k p _
  count_step w k p (LeafTurn q) = count_leaf k p q _ ∙ ap (λ (b : Bool). k (suc p) + (if q == p then (if b then 1 else 0) else 0)) (effective_view star hub leaves w (LeafTurn q))
  count_step w k p (DeliverOut q c) = omega arith
  count_step w k p (DeliverBack q c) = omega arith

  count_all : (w : StarWorld H L) → length w.links ≡ length leaves → length w.leaves ≡ length leaves → (k : ℕ → ℕ) (p : ℕ) (ss : List StarStep) → turns_all (star_network star hub leaves) (view w) k (map net_step ss) (suc p) ≡ k (suc p) + leaf_turns star w p ss
  count_all w a b k p [] = omega arith
  count_all w a b k p (s ∷ ss) =
      let kept = step_kept star w s in
      let one = count_step w k p s in
      let rest = count_all (star_after star w s) (kept.0 ∙ a) (kept.1 ∙ b) (turns_after (star_network star hub leaves) (view w) k (net_step s)) p ss in
      let same = ap (λ v. turns_all (star_network star hub leaves) v (turns_after (star_network star hub leaves) (view w) k (net_step s)) (map net_step ss) (suc p)) (step_view star hub leaves w a b s) in
      sym same ∙ rest ∙ (omega arith)

  count_start : (p : ℕ) (ss : List StarStep) → turns (star_network star hub leaves) (map net_step ss) (suc p) ≡ leaf_turns star (star_start hub leaves) p ss
  count_start p ss = sym (ap (λ v. turns_all (star_network star hub leaves) v (λ i. 0) (map net_step ss) (suc p)) (start_view star hub leaves)) ∙ count_all (star_start hub leaves) (length-replicate (length leaves) new_link) refl (λ i. 0) p ss ∙ (omega arith)

-- The bytes that a node has taken, in the network.
abbrev node_taken : {H L : Type 0} → (H → ℕ → ℕ) → (L → ℕ) → StarNode H L → ℕ → ℕ
node_taken a b (Hub h) zero = 0
node_taken a b (Hub h) (suc p) = a h p
node_taken a b (Leaf l) zero = b l
node_taken a b (Leaf l) (suc p) = 0
node_taken a b Absent j = 0

module _ {H L : Type 0} (star : Star H L) (hub : H) (leaves : List L) (c : Cursors star hub leaves) where
  cursor_step : (n : ℕ) (s : StarNode H L) (x : Streams) (r : StarNode H L × Streams) → ((j : ℕ) → node_taken c.hub_taken c.leaf_taken s j ≤ length (x j)) → star_turn star n s x ≡ Some r → (j : ℕ) → node_taken c.hub_taken c.leaf_taken r.0 j ≤ length (x j)
  cursor_step n Absent x r within e j = absurd (none-some {A = StarNode H L × Streams} r e)
  cursor_step n (Hub h) x r within e j = go (star.hub_turn h (λ p. x (suc p))) refl e
    where
      at : (r : H × Option (ℕ × List ℕ)) → ((p : ℕ) → c.hub_taken r.0 p ≤ length (x (suc p))) → (j : ℕ) → node_taken c.hub_taken c.leaf_taken (Hub r.0) j ≤ length (x j)
      at r f zero = omega arith
      at r f (suc p) = f p

      go : (t : Option (H × Option (ℕ × List ℕ))) → star.hub_turn h (λ p. x (suc p)) ≡ t → hub_result n t ≡ Some r → node_taken c.hub_taken c.leaf_taken r.0 j ≤ length (x j)
      go None g e' = absurd (none-some {A = StarNode H L × Streams} r e')
      go (Some t) g e' = subst (λ (v : StarNode H L × Streams). node_taken c.hub_taken c.leaf_taken v.0 j ≤ length (x j)) (same_Some {A = StarNode H L × Streams} _ _ e') (at t (c.hub_within h (λ p. x (suc p)) t (λ p. within (suc p)) g) j)
  cursor_step n (Leaf l) x r within e j = go (star.leaf_turn l (x 0)) refl e
    where
      at : (r : L × List ℕ) → c.leaf_taken r.0 ≤ length (x 0) → (j : ℕ) → node_taken c.hub_taken c.leaf_taken (Leaf r.0) j ≤ length (x j)
      at r f zero = f
      at r f (suc p) = omega arith

      go : (t : Option (L × List ℕ)) → star.leaf_turn l (x 0) ≡ t → leaf_result t ≡ Some r → node_taken c.hub_taken c.leaf_taken r.0 j ≤ length (x j)
      go None g e' = absurd (none-some {A = StarNode H L × Streams} r e')
      go (Some t) g e' = subst (λ (v : StarNode H L × Streams). node_taken c.hub_taken c.leaf_taken v.0 j ≤ length (x j)) (same_Some {A = StarNode H L × Streams} _ _ e') (at t (c.leaf_within l (x 0) t (within 0) g) j)

  star_cursor : IsCursor (star_network star hub leaves) (node_taken c.hub_taken c.leaf_taken)
  star_cursor = (first, λ i s x r. cursor_step (length leaves) s x r)
    where
      leaf_first : (o : Option L) → ((l : L) → o ≡ Some l → c.leaf_taken l ≡ 0) → (j : ℕ) → node_taken c.hub_taken c.leaf_taken (leaf_of {H = H} o) j ≡ 0
      leaf_first None f j = refl
      leaf_first (Some l) f zero = f l refl
      leaf_first (Some l) f (suc p) = refl

      first : (i j : ℕ) → node_taken c.hub_taken c.leaf_taken (node_at hub leaves i) j ≡ 0
      first zero zero = refl
      first zero (suc p) = c.hub_start p
      first (suc q) j = leaf_first (slice_get leaves q) (λ l e. c.leaf_start q l e) j

pub none_past : {A : Type 0} (xs : List A) (p : ℕ) → slice_get xs p ≡ None → length xs ≤ p
none_past [] p e = omega arith
none_past {A} (x ∷ xs) zero e = absurd (none-some {A = A} x (sym e))
none_past (x ∷ xs) (suc p) e = let r = none_past xs p e in omega arith

abbrev pub EndsBySendingIn : {H L : Type 0} → Star H L → H → List L → List StarStep → ℕ → Type 0
EndsBySendingIn star hub leaves script p =
    (leaf_turns star (star_start hub leaves) p script ≡ 0)
    ⊎ ((before : List StarStep) × (leaf_turns star (star_start hub leaves) p script ≡ suc (leaf_turns star (star_start hub leaves) p before)) × (length (link (star_all star (star_start hub leaves) before) p).back < length (link (star_all star (star_start hub leaves) script) p).back))

-- In a schedule that ends the run: all is taken, and each leaf ends by sending.
pub record IsHubLastIn {H L : Type 0} (star : Star H L) (hub : H) (leaves : List L) (c : Cursors star hub leaves) (script : List StarStep) : Type 0 where
  pub hub_all : (p : ℕ) → c.hub_taken (star_all star (star_start hub leaves) script).hub p ≡ length (link (star_all star (star_start hub leaves) script) p).back
  pub leaf_all : (p : ℕ) (l : L) → slice_get (star_all star (star_start hub leaves) script).leaves p ≡ Some l → c.leaf_taken l ≡ length (link (star_all star (star_start hub leaves) script) p).out
  pub ends : (p : ℕ) → p < length leaves → EndsBySendingIn star hub leaves script p

-- Then the run is at its end as soon as no more bytes would move the hub.
pub hub_halted_same : {H L : Type 0} (star : Star H L) (monotone : IsStarMonotone star) (hub : H) (leaves : List L) (c : Cursors star hub leaves) (script : List StarStep) (quiescent : IsStarQuiescent star (star_all star (star_start hub leaves) script)) → IsHubLastIn star hub leaves c script → (ss : List StarStep) → ((x : Streams) → star.hub_turn (star_all star (star_start hub leaves) ss).hub x ≡ None) → star_all star (star_start hub leaves) ss ≡ star_all star (star_start hub leaves) script
hub_halted_same {H} {L} star monotone hub leaves c script quiescent hub_last ss halted =
    same_star w f ((all_kept star (star_start hub leaves) ss).0 ∙ sym ((all_kept star (star_start hub leaves) script).0))
    (subst (λ v. IsSame v (view f)) (sym (from_start star hub leaves ss))
    (subst (λ v. IsSame (after_all (star_network star hub leaves) (start (star_network star hub leaves)) (map net_step ss)) v) (sym (from_start star hub leaves script))
    (halted_same net st (after_all net (start net) (map net_step ss)) F (turns net (map net_step ss)) (turns net (map net_step script)) (schedule_run net st (map net_step ss)) fin (sent_prefix net st (map net_step script) ns (map net_step ss)) 0 still hungry ends)))
  where
    w : StarWorld H L
    w = star_all star (star_start hub leaves) ss

    f : StarWorld H L
    f = star_all star (star_start hub leaves) script

    net : Network (StarNode H L)
    net = star_network star hub leaves

    st : IsMonotone net
    st = star_monotone star monotone hub leaves

    F : World (StarNode H L)
    F = after_all net (start net) (map net_step script)

    ns : IsQuiescent net F
    ns = net_quiescent star monotone hub leaves script quiescent

    fin : IsFinal net F (turns net (map net_step script))
    fin = script_final net st (map net_step script) ns

    still : (x : Streams) → net.turn 0 ((after_all net (start net) (map net_step ss)).state 0) x ≡ None
    still x = subst (λ (v : World (StarNode H L)). net.turn 0 (v.state 0) x ≡ None) (from_start star hub leaves ss) (ap (hub_result (length leaves)) (halted (λ p. x (suc p))))

    leaf_rest : (p : ℕ) (o : Option L) → slice_get f.leaves p ≡ o → (j : ℕ) → node_taken c.hub_taken c.leaf_taken (leaf_of {H = H} o) j ≡ length (sent_at f.links j (suc p))
    leaf_rest p (Some l) e zero = hub_last.leaf_all p l e
    leaf_rest p (Some l) e (suc q) = refl
    leaf_rest p None e zero = sym (ap length (past_out star hub leaves f p past).0)
      where
        past : length f.links ≤ p
        past =
            let a : length f.links ≡ length (star_start hub leaves).links = (all_kept star (star_start hub leaves) script).0 in
            let b : length f.leaves ≡ length leaves = (all_kept star (star_start hub leaves) script).1 in
            omega (arith, a ∙ length-replicate (length leaves) new_link, b, none_past f.leaves p e)
    leaf_rest p None e (suc q) = refl

    taken_at : (i j : ℕ) → node_taken c.hub_taken c.leaf_taken (node_at f.hub f.leaves i) j ≡ length (sent_at f.links j i)
    taken_at zero zero = refl
    taken_at zero (suc p) = hub_last.hub_all p
    taken_at (suc p) j = leaf_rest p (slice_get f.leaves p) refl j

    hungry : (i : ℕ) → IsHungry net F (turns net (map net_step script)) i
    hungry i = cursor_hungry net st (node_taken c.hub_taken c.leaf_taken) (star_cursor star hub leaves c) F (turns net (map net_step script)) fin i
        (subst (λ (v : World (StarNode H L)). (j : ℕ) → node_taken c.hub_taken c.leaf_taken (v.state i) j ≡ length (v.sent j i)) (from_start star hub leaves script) (taken_at i))

    ends : (j : ℕ) → (j ≡ 0) ⊎ EndsBySending net F (turns net (map net_step script)) j 0
    ends zero = inl refl
    ends (suc p) = inr (⊎_elim
        (λ (l : length leaves ≤ p). inl ((absent_runs star hub leaves (suc p) (omega arith) _ _ _ _ (fin.run.runs (suc p))).0))
        (λ l. ⊎_elim
        (λ none. inl (count_start star hub leaves p script ∙ none))
        (λ last. inr
        (let way = run_prefix net st (map net_step script) ns (map net_step last.0) (suc p) in (
          turns net (map net_step last.0) (suc p),
          (after_all net (start net) (map net_step last.0)).state (suc p),
          (after_all net (start net) (map net_step last.0)).sent (suc p),
          count_start star hub leaves p script ∙ last.1 ∙ ap suc (sym (count_start star hub leaves p last.0)),
          way.1,
          subst (λ (v : World (StarNode H L)). length ((after_all net (start net) (map net_step last.0)).sent (suc p) 0) < length (v.sent (suc p) 0)) (from_start star hub leaves script)
              (subst (λ (v : World (StarNode H L)). length (v.sent (suc p) 0) < length (link f p).back) (from_start star hub leaves last.0) last.2),
        )))
        (hub_last.ends p l))
        (le_or_lt (length leaves) p))
