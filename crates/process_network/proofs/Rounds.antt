-- A round that names each step has an effective one, or nothing is left to do.
use Rattle.std.proofs.Common.{◌≡◌, ℕ, zero, suc, ◌+◌, ◌-◌, ◌<◌, ◌≤◌, ⊎_elim, min, Bool, true, false, List, [], ◌∷◌, length, set, map, Option, Some, None, is_some, nat_lt, if◌then◌else◌, slice_get, refl, sym, ap, ◌∙◌, subst, arith, ltb-false}
use Rattle.std.proofs.lemmas.List.{set-get_or, get_or_past}
use Rattle.std.proofs.lemmas.Option.{slice_get_past, none-some, same_Some}
use Rattle.process_network.specs.Network.{handed_over, World}
use Rattle.process_network.specs.Star.{Star, IsStarMonotone, Link, new_link, StarWorld, link, hub_received, leaf_received, StarStep, after_hub_turn, after_leaf_turn, leaf_turn_of, star_after, star_all, star_effective, star_effective_steps, IsStarQuiescent, star_start, StarNode, star_network, net_step}
use Rattle.process_network.specs.Star.StarStep.{HubTurn, LeafTurn, DeliverOut, DeliverBack}
use Rattle.process_network.proofs.Prefixes.{le_or_lt}
use Rattle.process_network.proofs.CalmRuns.{all_append}
use Rattle.process_network.proofs.QuiescentWorlds.{schedule_run}
use Rattle.process_network.proofs.StarTheorem.{star_monotone, from_start, idle}
use Rattle.std.proofs.Common.{◌++◌, ◌⊎◌, inl, inr}
use Rattle.process_network.specs.Rounds.{IsRound, rounds}
use Rattle.process_network.proofs.StarTheorem.{all_kept}
use Rattle.std.proofs.lemmas.List.{length-replicate}

-- No more was delivered than was sent.
abbrev pub IsWithin : {H L : Type 0} → StarWorld H L → Type 0
IsWithin w = (p : ℕ) → ((link w p).out_delivered ≤ length (link w p).out) × ((link w p).back_delivered ≤ length (link w p).back)

pub within : {H L : Type 0} (star : Star H L) → IsStarMonotone star → (hub : H) (leaves : List L) (ss : List StarStep) → IsWithin (star_all star (star_start hub leaves) ss)
within {H} {L} star monotone hub leaves ss p =
    let run = schedule_run (star_network star hub leaves) (star_monotone star monotone hub leaves) (map net_step ss) in
    let at = subst (λ (v : World (StarNode H L)). (i j : ℕ) → v.delivered i j ≤ length (v.sent i j)) (sym (from_start star hub leaves ss)) run.within in
    (at 0 (suc p), at (suc p) 0)

none_of : {A : Type 0} (r : Option A) → is_some r ≡ false → r ≡ None
none_of None e = refl
none_of (Some x) e = absurd (grind arith)

-- A step that is not effective changes nothing.
pub idle_keeps : {H L : Type 0} (star : Star H L) (w : StarWorld H L) → IsWithin w → (s : StarStep) → star_effective star w s ≡ false → star_after star w s ≡ w
idle_keeps star w fits HubTurn e = ap (after_hub_turn w) (none_of (star.hub_turn w.hub (hub_received w)) e)
idle_keeps star w fits (LeafTurn p) e = ap (after_leaf_turn w p) (none_of (leaf_turn_of star (slice_get w.leaves p) (leaf_received w p)) e)
idle_keeps star w fits (DeliverOut p k) e = λ d. record { hub = w.hub; leaves = w.leaves; links = same d }
  where
    done : handed_over (link w p).out_delivered (link w p).out k ≡ (link w p).out_delivered
    done = omega (arith, (fits p).0, ltb-false (link w p).out_delivered (handed_over (link w p).out_delivered (link w p).out k) e)

    same : set w.links p (record { out = (link w p).out; out_delivered = handed_over (link w p).out_delivered (link w p).out k; back = (link w p).back; back_delivered = (link w p).back_delivered }) ≡ w.links
    same = ap (λ k. set w.links p (record { out = (link w p).out; out_delivered = k; back = (link w p).back; back_delivered = (link w p).back_delivered })) done ∙ set-get_or w.links p new_link
idle_keeps star w fits (DeliverBack p k) e = λ d. record { hub = w.hub; leaves = w.leaves; links = same d }
  where
    done : handed_over (link w p).back_delivered (link w p).back k ≡ (link w p).back_delivered
    done = omega (arith, (fits p).1, ltb-false (link w p).back_delivered (handed_over (link w p).back_delivered (link w p).back k) e)

    same : set w.links p (record { out = (link w p).out; out_delivered = (link w p).out_delivered; back = (link w p).back; back_delivered = handed_over (link w p).back_delivered (link w p).back k }) ≡ w.links
    same = ap (λ k. set w.links p (record { out = (link w p).out; out_delivered = (link w p).out_delivered; back = (link w p).back; back_delivered = k })) done ∙ set-get_or w.links p new_link

zero_bit : (b : Bool) (r : ℕ) → (if b then 1 else 0) + r ≡ 0 → (b ≡ false) × (r ≡ 0)
zero_bit true r e = absurd (omega arith)
zero_bit false r e = (refl, omega arith)

-- Where no step of a list is effective in its turn, none is at once.
round_idle : {H L : Type 0} (star : Star H L) (w : StarWorld H L) → IsWithin w → (xs : List StarStep) → star_effective_steps star w xs ≡ 0 → (i : ℕ) (s : StarStep) → slice_get xs i ≡ Some s → star_effective star w s ≡ false
round_idle star w fits [] nothing i s e = absurd (none-some {A = StarStep} s e)
round_idle star w fits (x ∷ xs) nothing zero s e = subst (λ t. star_effective star w t ≡ false) (same_Some x s e) ((zero_bit (star_effective star w x) (star_effective_steps star (star_after star w x) xs) nothing).0)
round_idle star w fits (x ∷ xs) nothing (suc i) s e =
    let z = zero_bit (star_effective star w x) (star_effective_steps star (star_after star w x) xs) nothing in
    round_idle star w fits xs (subst (λ v. star_effective_steps star v xs ≡ 0) (idle_keeps star w fits x z.0) z.1) i s e

all_done : (done len k : ℕ) → done ≤ len → nat_lt done (done + min (suc k) (len - done)) ≡ false → len ≤ done
all_done done len k fits e =
    let l : done + min (suc k) (len - done) ≤ done = ltb-false done (done + min (suc k) (len - done)) e in
    omega arith

-- A round in which no step is effective shows that nothing is left to do.
pub round_quiescent : {H L : Type 0} (star : Star H L) (n : ℕ) (w : StarWorld H L) → IsWithin w → length w.links ≡ n → length w.leaves ≡ n → (xs : List StarStep) → IsRound n xs → star_effective_steps star w xs ≡ 0 → IsStarQuiescent star w
round_quiescent {H} {L} star n w fits links leaves xs round nothing = quiescent
  where
    still : (i : ℕ) (s : StarStep) → slice_get xs i ≡ Some s → star_effective star w s ≡ false
    still = round_idle star w fits xs nothing

    quiescent : IsStarQuiescent star w
    quiescent HubTurn = still round.hub.0 HubTurn round.hub.1
    quiescent (LeafTurn p) = ⊎_elim
        (λ (l : n ≤ p). ap (λ (o : Option L). is_some (leaf_turn_of star o (leaf_received w p))) (slice_get_past w.leaves p (omega arith)))
        (λ l. let r = round.leaf p l in still r.0 (LeafTurn p) r.1)
        (le_or_lt n p)
    quiescent (DeliverOut p k) = idle (link w p).out_delivered (handed_over (link w p).out_delivered (link w p).out k) (⊎_elim
        (λ (l : n ≤ p).
        let e : link w p ≡ new_link = get_or_past w.links p new_link (omega arith) in
        let z : length (link w p).out ≡ 0 = ap (λ (t : Link). length t.out) e in omega arith)
        (λ l.
        let r = round.out p l in
        let d : length (link w p).out ≤ (link w p).out_delivered = all_done (link w p).out_delivered (length (link w p).out) r.1 (fits p).0 (still r.0 (DeliverOut p (suc r.1)) r.2) in omega arith)
        (le_or_lt n p))
    quiescent (DeliverBack p k) = idle (link w p).back_delivered (handed_over (link w p).back_delivered (link w p).back k) (⊎_elim
        (λ (l : n ≤ p).
        let e : link w p ≡ new_link = get_or_past w.links p new_link (omega arith) in
        let z : length (link w p).back ≡ 0 = ap (λ (t : Link). length t.back) e in omega arith)
        (λ l.
        let r = round.back p l in
        let d : length (link w p).back ≤ (link w p).back_delivered = all_done (link w p).back_delivered (length (link w p).back) r.1 (fits p).1 (still r.0 (DeliverBack p (suc r.1)) r.2) in omega arith)
        (le_or_lt n p))

-- Rounds from the start.

steps_append : {H L : Type 0} (star : Star H L) (w : StarWorld H L) (xs ys : List StarStep) → star_effective_steps star w (xs ++ ys) ≡ star_effective_steps star w xs + star_effective_steps star (star_all star w xs) ys
steps_append star w [] ys = omega arith
steps_append star w (x ∷ xs) ys = let ih = steps_append star (star_after star w x) xs ys in omega arith

quiescent_stays : {H L : Type 0} (star : Star H L) (w : StarWorld H L) → IsWithin w → IsStarQuiescent star w → (xs : List StarStep) → star_all star w xs ≡ w
quiescent_stays star w fits quiescent [] = refl
quiescent_stays star w fits quiescent (x ∷ xs) = ap (λ v. star_all star v xs) (idle_keeps star w fits x (quiescent x)) ∙ quiescent_stays star w fits quiescent xs

-- A step that is effective changes something, where the effective steps are bounded.
repeated : ℕ → StarStep → List StarStep
repeated zero s = []
repeated (suc n) s = s ∷ repeated n s

repeats : {H L : Type 0} (star : Star H L) (w : StarWorld H L) (s : StarStep) → star_effective star w s ≡ true → star_after star w s ≡ w → (n : ℕ) → star_effective_steps star w (repeated n s) ≡ n
unfolding repeated
repeats star w s e same zero = refl
repeats star w s e same (suc n) =
    let one : ◌≡◌ {A = ℕ} (if star_effective star w s then 1 else 0) 1 = ap (λ (b : Bool). if b then 1 else 0) e in
    let rest : star_effective_steps star (star_after star w s) (repeated n s) ≡ n = subst (λ v. star_effective_steps star v (repeated n s) ≡ n) (sym same) (repeats star w s e same n) in
    omega arith

pub effective_changes : {H L : Type 0} (star : Star H L) (hub : H) (leaves : List L) (most : ℕ) → ((ss : List StarStep) → star_effective_steps star (star_start hub leaves) ss ≤ most) → (ss : List StarStep) (s : StarStep) → star_effective star (star_all star (star_start hub leaves) ss) s ≡ true → star_after star (star_all star (star_start hub leaves) ss) s ≡ star_all star (star_start hub leaves) ss → ⊥
effective_changes star hub leaves most bound ss s e same =
    let b = bound (ss ++ repeated (suc most) s) in
    let all = steps_append star (star_start hub leaves) ss (repeated (suc most) s) in
    let many = repeats star (star_all star (star_start hub leaves) ss) s e same (suc most) in
    omega arith

-- As many rounds as there are effective steps at most, and one more, come to the end.
pub rounds_end : {H L : Type 0} (star : Star H L) → IsStarMonotone star → (hub : H) (leaves : List L) (xs : ℕ → List StarStep) → ((i : ℕ) → IsRound (length leaves) (xs i)) → (most : ℕ) → ((ss : List StarStep) → star_effective_steps star (star_start hub leaves) ss ≤ most) → IsStarQuiescent star (star_all star (star_start hub leaves) (rounds xs (suc most)))
rounds_end {H} {L} star monotone hub leaves xs round most bound =
    ⊎_elim (λ (l : suc most ≤ star_effective_steps star (star_start hub leaves) (rounds xs (suc most))). absurd (let b = bound (rounds xs (suc most)) in omega arith)) (λ s. s) (each (suc most))
  where
    world : ℕ → StarWorld H L
    world n = star_all star (star_start hub leaves) (rounds xs n)

    fits : (n : ℕ) → IsWithin (world n)
    fits n = within star monotone hub leaves (rounds xs n)

    links : (n : ℕ) → length (world n).links ≡ length leaves
    links n = (all_kept star (star_start hub leaves) (rounds xs n)).0 ∙ length-replicate (length leaves) new_link

    each : (n : ℕ) → (n ≤ star_effective_steps star (star_start hub leaves) (rounds xs n)) ⊎ IsStarQuiescent star (world n)
    each zero = inl (omega arith)
    each (suc n) = ⊎_elim
        (λ (l : n ≤ star_effective_steps star (star_start hub leaves) (rounds xs n)). ⊎_elim
        (λ (none : star_effective_steps star (world n) (xs n) ≤ 0). inr (next (round_quiescent star (length leaves) (world n) (fits n) (links n) ((all_kept star (star_start hub leaves) (rounds xs n)).1) (xs n) (round n) (omega arith))))
        (λ (some : 0 < star_effective_steps star (world n) (xs n)). inl (omega (arith, steps_append star (star_start hub leaves) (rounds xs n) (xs n))))
        (le_or_lt (star_effective_steps star (world n) (xs n)) 0))
        (λ s. inr (next s))
        (each n)
      where
        next : IsStarQuiescent star (world n) → IsStarQuiescent star (world (suc n))
        next s = subst (λ w. IsStarQuiescent star w) (sym (all_append star (star_start hub leaves) (rounds xs n) (xs n) ∙ quiescent_stays star (world n) (fits n) s (xs n))) s
