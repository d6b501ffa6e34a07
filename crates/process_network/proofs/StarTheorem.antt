-- The theorem on every schedule of a star.
use Rattle.std.proofs.Common.{◌≡◌, ℕ, zero, suc, ◌+◌, ◌<◌, ◌≤◌, inl, inr, ⊎_elim, Bool, true, false, List, [], ◌∷◌, length, get_or, replicate, map, Option, Some, None, is_some, nat_lt, if◌then◌else◌, slice_get, refl, sym, ap, ap₂, ◌∙◌, subst, arith, length-set, ltb-true, true≢false}
use Rattle.std.proofs.lemmas.List.{get_or_past, get_or-replicate, ext_get_or, length-replicate}
use Rattle.std.proofs.lemmas.Option.{none-some, same_Some, slice_get_past}
use Rattle.process_network.specs.Network.{handed_over, update, IsPrefix, Streams, Below, Network, IsMonotone, World, received, start, after, is_effective, after_all, effective_steps, IsQuiescent, IsRun, IsSame, IsSmall, IsOneResult, turns, turns_all, turns_after, turns_counted, sum_below}
use Rattle.process_network.specs.Network.{Step as NetStep}
use Rattle.process_network.specs.Network.Step.{Turn, Deliver}
use Rattle.process_network.specs.Star.{Star, IsStarMonotone, Link, new_link, StarWorld, link, hub_received, leaf_received, StarStep, links_with, after_hub_turn, after_leaf_turn, leaf_turn_of, star_after, star_all, star_effective, star_effective_steps, one_turn, star_turns, IsStarQuiescent, star_start, StarNode, leaf_of, sent_at, delivered_at, view, hub_result, leaf_result, star_turn, star_network, net_step, IsOneStarResult}
use Rattle.process_network.specs.Star.StarStep.{HubTurn, LeafTurn, DeliverOut, DeliverBack}
use Rattle.process_network.specs.Star.StarNode.{Hub, Leaf, Absent}
use Rattle.process_network.proofs.Prefixes.{update_other, le_or_lt}
use Rattle.process_network.proofs.Sums.{sum_same, sum_update}
use Rattle.process_network.proofs.QuiescentWorlds.{script_final}
use Rattle.process_network.proofs.OneResult.{every_schedule}
use Rattle.process_network.proofs.StarView.{same_world, step_view}

pub idle : (a b : ℕ) → b ≤ a → nat_lt a b ≡ false
idle a b l = go (nat_lt a b) refl
  where
    go : (t : Bool) → nat_lt a b ≡ t → nat_lt a b ≡ false
    go true e = absurd (let m = ltb-true a b e in omega arith)
    go false e = e

-- More bytes change no turn of a star.

hub_same : {H L : Type 0} (n : ℕ) (a b : Option (H × Option (ℕ × List ℕ))) (r : StarNode H L × Streams) → ((t : H × Option (ℕ × List ℕ)) → a ≡ Some t → b ≡ Some t) → hub_result n a ≡ Some r → hub_result n b ≡ Some r
hub_same {H} {L} n None b r keep e = absurd (none-some {A = StarNode H L × Streams} r e)
hub_same n (Some t) b r keep e = ap (hub_result n) (keep t refl) ∙ e

leaf_same : {H L : Type 0} (a b : Option (L × List ℕ)) (r : StarNode H L × Streams) → ((t : L × List ℕ) → a ≡ Some t → b ≡ Some t) → leaf_result a ≡ Some r → leaf_result b ≡ Some r
leaf_same {H} {L} None b r keep e = absurd (none-some {A = StarNode H L × Streams} r e)
leaf_same (Some t) b r keep e = ap leaf_result (keep t refl) ∙ e

turn_monotone : {H L : Type 0} (star : Star H L) → IsStarMonotone star → (n : ℕ) (s : StarNode H L) (x y : Streams) (r : StarNode H L × Streams) → Below x y → star_turn star n s x ≡ Some r → star_turn star n s y ≡ Some r
turn_monotone star monotone n (Hub h) x y r b e = hub_same n (star.hub_turn h (λ p. x (suc p))) (star.hub_turn h (λ p. y (suc p))) r (λ t. monotone.0 h (λ p. x (suc p)) (λ p. y (suc p)) t (λ p. b (suc p))) e
turn_monotone star monotone n (Leaf l) x y r b e = leaf_same (star.leaf_turn l (x 0)) (star.leaf_turn l (y 0)) r (λ t. monotone.1 l (x 0) (y 0) t (b 0)) e
turn_monotone star monotone n Absent x y r b e = e

pub star_monotone : {H L : Type 0} (star : Star H L) → IsStarMonotone star → (hub : H) (leaves : List L) → IsMonotone (star_network star hub leaves)
star_monotone star monotone hub leaves i s x y r b e = turn_monotone star monotone (length leaves) s x y r b e

-- A schedule of the star is a schedule of the network.

links_kept : {H L : Type 0} (w : StarWorld H L) (r : Option (H × Option (ℕ × List ℕ))) → (length (after_hub_turn w r).links ≡ length w.links) × (length (after_hub_turn w r).leaves ≡ length w.leaves)
links_kept w None = (refl, refl)
links_kept w (Some r) = (kept r.1, refl)
  where
    kept : (o : Option (ℕ × List ℕ)) → length (links_with w.links o) ≡ length w.links
    kept None = refl
    kept (Some m) = length-set w.links m.0 _

leaf_kept : {H L : Type 0} (w : StarWorld H L) (p : ℕ) (r : Option (L × List ℕ)) → (length (after_leaf_turn w p r).links ≡ length w.links) × (length (after_leaf_turn w p r).leaves ≡ length w.leaves)
leaf_kept w p None = (refl, refl)
leaf_kept w p (Some r) = (length-set w.links p _, length-set w.leaves p r.0)

pub step_kept : {H L : Type 0} (star : Star H L) (w : StarWorld H L) (s : StarStep) → (length (star_after star w s).links ≡ length w.links) × (length (star_after star w s).leaves ≡ length w.leaves)
step_kept star w HubTurn = links_kept w (star.hub_turn w.hub (hub_received w))
step_kept star w (LeafTurn p) = leaf_kept w p (leaf_turn_of star (slice_get w.leaves p) (leaf_received w p))
step_kept star w (DeliverOut p k) = (length-set w.links p _, refl)
step_kept star w (DeliverBack p k) = (length-set w.links p _, refl)

pub all_kept : {H L : Type 0} (star : Star H L) (w : StarWorld H L) (ss : List StarStep) → (length (star_all star w ss).links ≡ length w.links) × (length (star_all star w ss).leaves ≡ length w.leaves)
all_kept star w [] = (refl, refl)
all_kept star w (s ∷ ss) =
    let one = step_kept star w s in
    let rest = all_kept star (star_after star w s) ss in
    (rest.0 ∙ one.0, rest.1 ∙ one.1)

pub all_view : {H L : Type 0} (star : Star H L) (hub : H) (leaves : List L) (w : StarWorld H L) → length w.links ≡ length leaves → length w.leaves ≡ length leaves → (ss : List StarStep) → view (star_all star w ss) ≡ after_all (star_network star hub leaves) (view w) (map net_step ss)
all_view star hub leaves w a b [] = refl
all_view star hub leaves w a b (s ∷ ss) =
    let one = step_kept star w s in
    all_view star hub leaves (star_after star w s) (one.0 ∙ a) (one.1 ∙ b) ss
    ∙ ap (λ v. after_all (star_network star hub leaves) v (map net_step ss)) (step_view star hub leaves w a b s)

start_link : (n p : ℕ) → get_or (replicate n new_link) p new_link ≡ new_link
start_link n p = ⊎_elim
    (λ (l : n ≤ p). get_or_past (replicate n new_link) p new_link (omega (arith, length-replicate n new_link)))
    (λ l. get_or-replicate n p new_link new_link l) (le_or_lt n p)

pub start_view : {H L : Type 0} (star : Star H L) (hub : H) (leaves : List L) → view (star_start hub leaves) ≡ start (star_network star hub leaves)
start_view star hub leaves = same_world (view (star_start hub leaves)) (start (star_network star hub leaves)) (λ i. refl) sent delivered
  where
    n : ℕ
    n = length leaves

    sent : (i j : ℕ) → sent_at (replicate n new_link) i j ≡ []
    sent zero zero = refl
    sent zero (suc p) = ap (λ (t : Link). t.out) (start_link n p)
    sent (suc p) zero = ap (λ (t : Link). t.back) (start_link n p)
    sent (suc p) (suc q) = refl

    delivered : (i j : ℕ) → delivered_at (replicate n new_link) i j ≡ 0
    delivered zero zero = refl
    delivered zero (suc p) = ap (λ (t : Link). t.out_delivered) (start_link n p)
    delivered (suc p) zero = ap (λ (t : Link). t.back_delivered) (start_link n p)
    delivered (suc p) (suc q) = refl

module _ {H L : Type 0} (star : Star H L) (hub : H) (leaves : List L) where
  pub from_start : (ss : List StarStep) → view (star_all star (star_start hub leaves) ss) ≡ after_all (star_network star hub leaves) (start (star_network star hub leaves)) (map net_step ss)
  from_start ss = all_view star hub leaves (star_start hub leaves) (length-replicate (length leaves) new_link) refl ss ∙ ap (λ v. after_all (star_network star hub leaves) v (map net_step ss)) (start_view star hub leaves)

  pub effective_view : (w : StarWorld H L) (s : StarStep) → is_effective (star_network star hub leaves) (view w) (net_step s) ≡ star_effective star w s
  effective_view w HubTurn = go (star.hub_turn w.hub (hub_received w))
    where
      go : (r : Option (H × Option (ℕ × List ℕ))) → is_some (hub_result {L = L} (length leaves) r) ≡ is_some r
      go None = refl
      go (Some r) = refl
  effective_view w (LeafTurn p) = go (slice_get w.leaves p)
    where
      some : (r : Option (L × List ℕ)) → is_some (leaf_result {H = H} r) ≡ is_some r
      some None = refl
      some (Some r) = refl

      go : (s : Option L) → is_some (star_turn star (length leaves) (leaf_of {H = H} s) (received (view w) (suc p))) ≡ is_some (leaf_turn_of star s (leaf_received w p))
      go None = refl
      go (Some l) = some (star.leaf_turn l (leaf_received w p))
  effective_view w (DeliverOut p k) = refl
  effective_view w (DeliverBack p k) = refl

  nothing_less : (k : ℕ) → nat_lt 0 (handed_over 0 [] k) ≡ false
  nothing_less k = idle 0 (handed_over 0 [] k) (omega arith)

  quiescent_view : (w : StarWorld H L) → IsStarQuiescent star w → IsQuiescent (star_network star hub leaves) (view w)
  quiescent_view w quiescent (Turn zero) = effective_view w HubTurn ∙ quiescent HubTurn
  quiescent_view w quiescent (Turn (suc p)) = effective_view w (LeafTurn p) ∙ quiescent (LeafTurn p)
  quiescent_view w quiescent (Deliver zero zero k) = nothing_less k
  quiescent_view w quiescent (Deliver zero (suc p) k) = effective_view w (DeliverOut p k) ∙ quiescent (DeliverOut p k)
  quiescent_view w quiescent (Deliver (suc p) zero k) = effective_view w (DeliverBack p k) ∙ quiescent (DeliverBack p k)
  quiescent_view w quiescent (Deliver (suc p) (suc q) k) = nothing_less k

  quiescent_back : (w : StarWorld H L) → IsQuiescent (star_network star hub leaves) (view w) → IsStarQuiescent star w
  quiescent_back w quiescent s = sym (effective_view w s) ∙ quiescent (net_step s)

  pub absent_runs : (i : ℕ) → length leaves < i → (x : Streams) (k : ℕ) (s : StarNode H L) (o : Streams) → IsRun (star_network star hub leaves) i x k s o → (k ≡ 0) × (s ≡ Absent)
  absent_runs zero l x k s o h = absurd (omega arith)
  absent_runs (suc p) l x zero s o h = (refl, h.0 ∙ ap leaf_of (slice_get_past leaves p (omega arith)))
  absent_runs (suc p) l x (suc k) s o h =
      let before = absent_runs (suc p) l x k h.0 h.1 h.3 in
      absurd (none-some {A = StarNode H L × Streams} (s, h.2) (ap (λ t. star_turn star (length leaves) t x) (sym before.1) ∙ h.4))

  pub past_out : (w : StarWorld H L) (p : ℕ) → length w.links ≤ p → ((link w p).out ≡ []) × ((link w p).back ≡ [])
  past_out w p l = let e = get_or_past w.links p new_link l in (ap (λ (t : Link). t.out) e, ap (λ (t : Link). t.back) e)

  sent_to_past : (w : StarWorld H L) → length w.links ≡ length leaves → (i j : ℕ) → length leaves < j → sent_at w.links i j ≡ []
  sent_to_past w e zero zero l = refl
  sent_to_past w e zero (suc p) l = (past_out w p (omega arith)).0
  sent_to_past w e (suc p) zero l = absurd (omega arith)
  sent_to_past w e (suc p) (suc q) l = refl

  sent_from_past : (w : StarWorld H L) → length w.links ≡ length leaves → (i j : ℕ) → length leaves < i → sent_at w.links i j ≡ []
  sent_from_past w e zero zero l = refl
  sent_from_past w e zero (suc p) l = absurd (omega arith)
  sent_from_past w e (suc p) zero l = (past_out w p (omega arith)).1
  sent_from_past w e (suc p) (suc q) l = refl

-- Sums over the star.

pub sum_first : (n : ℕ) (f : ℕ → ℕ) → sum_below (suc n) f ≡ f 0 + sum_below n (λ i. f (suc i))
sum_first zero f = omega arith
sum_first (suc n) f = let ih = sum_first n f in omega arith

pub sum_add : (n : ℕ) (f g : ℕ → ℕ) → sum_below n (λ i. f i + g i) ≡ sum_below n f + sum_below n g
sum_add zero f g = refl
sum_add (suc n) f g = let ih = sum_add n f g in omega arith

sum_zero : (n : ℕ) → sum_below n (λ i. 0) ≡ 0
sum_zero zero = refl
sum_zero (suc n) = let ih = sum_zero n in omega arith

bytes_of : (links : List Link) (n : ℕ) → sum_below (suc n) (λ i. sum_below (suc n) (λ j. length (sent_at links i j))) ≡ sum_below n (λ p. length (get_or links p new_link).out + length (get_or links p new_link).back)
bytes_of links n =
    let first : sum_below (suc n) (λ i. sum_below (suc n) (λ j. length (sent_at links i j))) ≡ sum_below (suc n) (λ j. length (sent_at links 0 j)) + sum_below n (λ p. sum_below (suc n) (λ j. length (sent_at links (suc p) j))) = sum_first n (λ i. sum_below (suc n) (λ j. length (sent_at links i j))) in
    let row : sum_below (suc n) (λ j. length (sent_at links 0 j)) ≡ 0 + sum_below n (λ p. length (get_or links p new_link).out) = sum_first n (λ j. length (sent_at links 0 j)) in
    let others : sum_below n (λ p. sum_below (suc n) (λ j. length (sent_at links (suc p) j))) ≡ sum_below n (λ p. length (get_or links p new_link).back) =
    sum_same n (λ p. sum_below (suc n) (λ j. length (sent_at links (suc p) j))) (λ p. length (get_or links p new_link).back)
    (λ p _. let e : sum_below (suc n) (λ j. length (sent_at links (suc p) j)) ≡ length (get_or links p new_link).back + sum_below n (λ j. 0) = sum_first n (λ j. length (sent_at links (suc p) j)) in let z = sum_zero n in omega arith) in
    let both = sum_add n (λ p. length (get_or links p new_link).out) (λ p. length (get_or links p new_link).back) in
    omega arith

pub sum_update_le : (n : ℕ) (k : ℕ → ℕ) (i : ℕ) → sum_below n (update k i (suc (k i))) ≤ suc (sum_below n k)
sum_update_le n k i = ⊎_elim
    (λ (l : n ≤ i). let same : sum_below n (update k i (suc (k i))) ≡ sum_below n k = sum_same n (update k i (suc (k i))) k (λ a m. update_other k i (suc (k i)) a (omega arith)) in omega arith)
    (λ l. let e = sum_update n k i (suc (k i)) l in omega arith)
    (le_or_lt n i)

module _ {H L : Type 0} (star : Star H L) (hub : H) (leaves : List L) where
  counted_le : (n : ℕ) (k : ℕ → ℕ) (i : ℕ) (r : Option (StarNode H L × Streams)) → sum_below n (turns_counted k i r) ≤ sum_below n k + (if is_some r then 1 else 0)
  counted_le n k i None = omega arith
  counted_le n k i (Some r) = let e = sum_update_le n k i in omega arith

  step_turns : (n : ℕ) (w : StarWorld H L) (k : ℕ → ℕ) (s : StarStep) → sum_below n (turns_after (star_network star hub leaves) (view w) k (net_step s)) ≤ sum_below n k + one_turn star w s
  step_turns n w k HubTurn = subst (λ b. sum_below n (turns_after (star_network star hub leaves) (view w) k (net_step HubTurn)) ≤ sum_below n k + (if b then 1 else 0)) (effective_view star hub leaves w HubTurn) (counted_le n k 0 _)
  step_turns n w k (LeafTurn p) = subst (λ b. sum_below n (turns_after (star_network star hub leaves) (view w) k (net_step (LeafTurn p))) ≤ sum_below n k + (if b then 1 else 0)) (effective_view star hub leaves w (LeafTurn p)) (counted_le n k (suc p) _)
  step_turns n w k (DeliverOut p c) = omega arith
  step_turns n w k (DeliverBack p c) = omega arith

  turns_le : (n : ℕ) (w : StarWorld H L) (k : ℕ → ℕ) → length w.links ≡ length leaves → length w.leaves ≡ length leaves → (ss : List StarStep) → sum_below n (turns_all (star_network star hub leaves) (view w) k (map net_step ss)) ≤ sum_below n k + star_turns star w ss
  turns_le n w k a b [] = omega arith
  turns_le n w k a b (s ∷ ss) =
      let kept = step_kept star w s in
      let one = step_turns n w k s in
      let rest = turns_le n (star_after star w s) (turns_after (star_network star hub leaves) (view w) k (net_step s)) (kept.0 ∙ a) (kept.1 ∙ b) ss in
      let same : turns_all (star_network star hub leaves) (view (star_after star w s)) (turns_after (star_network star hub leaves) (view w) k (net_step s)) (map net_step ss) ≡ turns_all (star_network star hub leaves) (after (star_network star hub leaves) (view w) (net_step s)) (turns_after (star_network star hub leaves) (view w) k (net_step s)) (map net_step ss) = ap (λ v. turns_all (star_network star hub leaves) v (turns_after (star_network star hub leaves) (view w) k (net_step s)) (map net_step ss)) (step_view star hub leaves w a b s) in
      let same_sum = ap (sum_below n) same in
      omega arith

  steps_view : (w : StarWorld H L) → length w.links ≡ length leaves → length w.leaves ≡ length leaves → (ss : List StarStep) → star_effective_steps star w ss ≡ effective_steps (star_network star hub leaves) (view w) (map net_step ss)
  steps_view w a b [] = refl
  steps_view w a b (s ∷ ss) =
      let kept = step_kept star w s in
      let rest = steps_view (star_after star w s) (kept.0 ∙ a) (kept.1 ∙ b) ss ∙ ap (λ v. effective_steps (star_network star hub leaves) v (map net_step ss)) (step_view star hub leaves w a b s) in
      ap₂ (λ (b : Bool) (r : ℕ). (if b then 1 else 0) + r) (sym (effective_view star hub leaves w s)) rest

step_back : {H L : Type 0} (star : Star H L) (hub : H) (leaves : List L) (w : StarWorld H L) (s : NetStep) → is_effective (star_network star hub leaves) (view w) s ≡ true → (t : StarStep) × (star_effective star w t ≡ true)
step_back star hub leaves w (Turn zero) e = (HubTurn, sym (effective_view star hub leaves w HubTurn) ∙ e)
step_back star hub leaves w (Turn (suc p)) e = (LeafTurn p, sym (effective_view star hub leaves w (LeafTurn p)) ∙ e)
step_back star hub leaves w (Deliver zero zero k) e = absurd (true≢false (sym e ∙ nothing_less star hub leaves k))
step_back star hub leaves w (Deliver zero (suc p) k) e = (DeliverOut p k, sym (effective_view star hub leaves w (DeliverOut p k)) ∙ e)
step_back star hub leaves w (Deliver (suc p) zero k) e = (DeliverBack p k, sym (effective_view star hub leaves w (DeliverBack p k)) ∙ e)
step_back star hub leaves w (Deliver (suc p) (suc q) k) e = absurd (true≢false (sym e ∙ nothing_less star hub leaves k))

-- Lists of leaves and of links are known by their places.

pub same_leaf : {H L : Type 0} (a b : Option L) → leaf_of {H = H} a ≡ leaf_of b → a ≡ b
same_leaf None None e = refl
same_leaf None (Some y) e = absurd (grind arith)
same_leaf (Some x) None e = absurd (grind arith)
same_leaf {H} {L} (Some x) (Some y) e = ap Some (cc)

same_list : {A : Type 0} (xs ys : List A) → ((i : ℕ) → slice_get xs i ≡ slice_get ys i) → xs ≡ ys
same_list [] [] e = refl
same_list {A} [] (y ∷ ys) e = absurd (none-some {A = A} y (e 0))
same_list {A} (x ∷ xs) [] e = absurd (none-some {A = A} x (sym (e 0)))
same_list (x ∷ xs) (y ∷ ys) e = ap₂ ◌∷◌ (same_Some x y (e 0)) (same_list xs ys (λ i. e (suc i)))

same_link : (a b : Link) → a.out ≡ b.out → a.out_delivered ≡ b.out_delivered → a.back ≡ b.back → a.back_delivered ≡ b.back_delivered → a ≡ b
same_link a b o od k kd = λ d. record { out = o d; out_delivered = od d; back = k d; back_delivered = kd d }

pub same_hub : {H L : Type 0} (a b : H) → ◌≡◌ {A = StarNode H L} (Hub a) (Hub b) → a ≡ b
same_hub a b e = cc

pub same_star : {H L : Type 0} (w f : StarWorld H L) → length w.links ≡ length f.links → IsSame (view w) (view f) → w ≡ f
same_star {H} {L} w f n same = λ d. record { hub = hub d; leaves = leaves d; links = links d }
  where
    hub : w.hub ≡ f.hub
    hub = same_hub {L = L} w.hub f.hub (same.state 0)

    leaves : w.leaves ≡ f.leaves
    leaves = same_list w.leaves f.leaves (λ p. same_leaf {H = H} (slice_get w.leaves p) (slice_get f.leaves p) (same.state (suc p)))

    links : w.links ≡ f.links
    links = ext_get_or new_link w.links f.links n (λ p l. same_link (link w p) (link f p) (same.sent 0 (suc p)) (same.delivered 0 (suc p)) (same.sent (suc p) 0) (same.delivered (suc p) 0))

module _ {H L : Type 0} (star : Star H L) (monotone : IsStarMonotone star) (hub : H) (leaves : List L) (script : List StarStep) (quiescent : IsStarQuiescent star (star_all star (star_start hub leaves) script)) where
  net : Network (StarNode H L)
  net = star_network star hub leaves

  abbrev world : List StarStep → StarWorld H L
  world ss = star_all star (star_start hub leaves) ss

  pub net_quiescent : IsQuiescent (star_network star hub leaves) (after_all (star_network star hub leaves) (start (star_network star hub leaves)) (map net_step script))
  net_quiescent = subst (λ v. IsQuiescent (star_network star hub leaves) v) (from_start star hub leaves script) (quiescent_view star hub leaves (world script) quiescent)

  links_length : (ss : List StarStep) → length (world ss).links ≡ length leaves
  links_length ss = (all_kept star (star_start hub leaves) ss).0 ∙ length-replicate (length leaves) new_link

  pub net_small : IsSmall (suc (length leaves)) (after_all (star_network star hub leaves) (start (star_network star hub leaves)) (map net_step script)) (turns (star_network star hub leaves) (map net_step script))
  net_small = record {
    turns = λ i l.
        let fin = script_final (star_network star hub leaves) (star_monotone star monotone hub leaves) (map net_step script) net_quiescent in
        (absent_runs star hub leaves i l _ _ _ _ (fin.run.runs i)).0;
    sent_from = λ i j l. subst (λ (v : World (StarNode H L)). v.sent i j ≡ []) (from_start star hub leaves script) (sent_from_past star hub leaves (world script) (links_length script) i j l);
    sent_to = λ i j l. subst (λ (v : World (StarNode H L)). v.sent i j ≡ []) (from_start star hub leaves script) (sent_to_past star hub leaves (world script) (links_length script) i j l);
  }

  pub net_one : IsOneResult (star_network star hub leaves) (map net_step script) (suc (length leaves))
  net_one = every_schedule (star_network star hub leaves) (star_monotone star monotone hub leaves) (map net_step script) (suc (length leaves)) net_quiescent net_small

  prefix_at : (ss : List StarStep) (i j : ℕ) → IsPrefix (sent_at (world ss).links i j) (sent_at (world script).links i j)
  prefix_at ss i j =
      subst (λ (v : World (StarNode H L)). IsPrefix (v.sent i j) (sent_at (world script).links i j)) (sym (from_start star hub leaves ss))
      (subst (λ (v : World (StarNode H L)). IsPrefix ((after_all (star_network star hub leaves) (start (star_network star hub leaves)) (map net_step ss)).sent i j) (v.sent i j)) (sym (from_start star hub leaves script))
      (net_one.prefix (map net_step ss) i j))

  pub one_star : IsOneStarResult star hub leaves script
  one_star = record {
    out_prefix = λ ss p. prefix_at ss 0 (suc p);
    back_prefix = λ ss p. prefix_at ss (suc p) 0;
    same = λ ss here.
        let there = subst (λ v. IsQuiescent (star_network star hub leaves) v) (from_start star hub leaves ss) (quiescent_view star hub leaves (world ss) here) in
        same_star (world ss) (world script) (links_length ss ∙ sym (links_length script))
        (subst (λ v. IsSame v (view (world script))) (sym (from_start star hub leaves ss))
        (subst (λ v. IsSame (after_all (star_network star hub leaves) (start (star_network star hub leaves)) (map net_step ss)) v) (sym (from_start star hub leaves script))
        (net_one.same (map net_step ss) there)));
    progress = λ ss. ⊎_elim
        (λ none. inl (quiescent_back star hub leaves (world ss) (subst (λ v. IsQuiescent (star_network star hub leaves) v) (sym (from_start star hub leaves ss)) none)))
        (λ some. inr (step_back star hub leaves (world ss) some.0 (subst (λ v. is_effective (star_network star hub leaves) v some.0 ≡ true) (sym (from_start star hub leaves ss)) some.1)))
        (net_one.progress (map net_step ss));
    bound = λ ss. bound_at ss;
  }
    where
      n : ℕ
      n = length leaves

      bound_at : (ss : List StarStep) → star_effective_steps star (star_start hub leaves) ss ≤ star_turns star (star_start hub leaves) script + sum_below (length leaves) (λ p. length (link (world script) p).out + length (link (world script) p).back)
      bound_at ss =
          let b = net_one.bound (map net_step ss) in
          let steps : star_effective_steps star (star_start hub leaves) ss ≡ effective_steps (star_network star hub leaves) (start (star_network star hub leaves)) (map net_step ss) =
          steps_view star hub leaves (star_start hub leaves) (length-replicate (length leaves) new_link) refl ss ∙ ap (λ v. effective_steps (star_network star hub leaves) v (map net_step ss)) (start_view star hub leaves) in
          let turns_of : sum_below (suc (length leaves)) (turns (star_network star hub leaves) (map net_step script)) ≤ sum_below (suc (length leaves)) (λ i. 0) + star_turns star (star_start hub leaves) script =
          subst (λ v. sum_below (suc (length leaves)) (turns_all (star_network star hub leaves) v (λ i. 0) (map net_step script)) ≤ sum_below (suc (length leaves)) (λ i. 0) + star_turns star (star_start hub leaves) script) (start_view star hub leaves)
          (turns_le star hub leaves (suc (length leaves)) (star_start hub leaves) (λ i. 0) (length-replicate (length leaves) new_link) refl script) in
          let nothing = sum_zero (suc (length leaves)) in
          let bytes : sum_below (suc (length leaves)) (λ i. sum_below (suc (length leaves)) (λ j. length ((after_all (star_network star hub leaves) (start (star_network star hub leaves)) (map net_step script)).sent i j))) ≡ sum_below (length leaves) (λ p. length (link (world script) p).out + length (link (world script) p).back) =
          ap (λ (v : World (StarNode H L)). sum_below (suc (length leaves)) (λ i. sum_below (suc (length leaves)) (λ j. length (v.sent i j)))) (sym (from_start star hub leaves script)) ∙ bytes_of (world script).links (length leaves) in
          omega arith
