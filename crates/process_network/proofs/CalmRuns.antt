-- A run in which all is delivered at once is a schedule.
use Rattle.std.proofs.Common.{◌≡◌, ℕ, zero, suc, ◌+◌, ◌<◌, ◌≤◌, inl, inr, ⊎_elim, Bool, true, false, ◌==◌, List, [], ◌∷◌, ◌++◌, length, take, get_or, set, replicate, map, Option, Some, None, is_some, nat_lt, if◌then◌else◌, slice_get, refl, sym, ap, ap₂, ◌∙◌, subst, arith, take_all, le_refl, length-append, add-zero}
use Rattle.std.proofs.Math.ListN.{get_or-map}
use Rattle.std.proofs.lemmas.List.{map-set, set-set, set_past, get_or-set_same}
use Rattle.process_network.specs.Network.{handed_over, Streams, IsPrefix}
use Rattle.process_network.specs.Star.{Star, Link, new_link, StarWorld, link, hub_received, leaf_received, StarStep, after_hub_turn, after_leaf_turn, leaf_turn_of, star_after, star_all, IsStarQuiescent, star_start, star_turns, one_turn, star_effective_steps, leaf_turns, Cursors, IsStarMonotone}
use Rattle.process_network.specs.Star.StarStep.{HubTurn, LeafTurn, DeliverOut, DeliverBack}
use Rattle.process_network.specs.CalmRun.{Calm, Move, no_traffic, traffic_at, calm_hub_turn, calm_leaf_turn, calm_after_hub, calm_after_leaf, calm_after, calm_all, calm_start, IsAtRest, out_steps, hub_steps, leaf_steps, move_steps, script_of, one_if_some, one_move, moves_taken, delivered_link, all_delivered, one_leaf_move, leaf_moves_taken, IsHubLast, IsCalmResult}
use Rattle.process_network.specs.CalmRun.Move.{HubMoves, LeafMoves}
use Rattle.process_network.proofs.Prefixes.{le_or_lt}
use Rattle.process_network.proofs.Sums.{sum_same}
use Rattle.process_network.proofs.StarTheorem.{idle, one_star}
use Rattle.process_network.proofs.HubHalted.{IsHubLastIn, hub_halted_same}

pub link_calm : {H L : Type 0} (c : Calm H L) (p : ℕ) → link (all_delivered c) p ≡ delivered_link (traffic_at c.traffic p)
link_calm c p = get_or-map delivered_link c.traffic p no_traffic

heard_calm : {H L : Type 0} (c : Calm H L) → hub_received (all_delivered c) ≡ (λ p. (traffic_at c.traffic p).1)
heard_calm c = λ d p. each p d
  where
    each : (p : ℕ) → hub_received (all_delivered c) p ≡ (traffic_at c.traffic p).1
    each p = ap (λ (l : Link). take l.back_delivered l.back) (link_calm c p) ∙ take_all (length (traffic_at c.traffic p).1) (traffic_at c.traffic p).1 (le_refl _)

pub leaf_heard_calm : {H L : Type 0} (c : Calm H L) (p : ℕ) → leaf_received (all_delivered c) p ≡ (traffic_at c.traffic p).0
leaf_heard_calm c p = ap (λ (l : Link). take l.out_delivered l.out) (link_calm c p) ∙ take_all (length (traffic_at c.traffic p).0) (traffic_at c.traffic p).0 (le_refl _)

set_twice : (links : List Link) (p : ℕ) (v : Link) (g : Link → Link) → set (set links p v) p (g (get_or (set links p v) p new_link)) ≡ set links p (g v)
set_twice links p v g = ⊎_elim
    (λ l.
    let e : set links p v ≡ links = set_past links p v l in
    subst (λ t. set t p (g (get_or t p new_link)) ≡ set links p (g v)) (sym e) (set_past links p (g (get_or links p new_link)) l ∙ sym (set_past links p (g v) l)))
    (λ l. set-set links p v (g (get_or (set links p v) p new_link)) ∙ ap (λ t. set links p (g t)) (get_or-set_same links p v new_link l))
    (le_or_lt (length links) p)

-- a link to which bytes were added, and all were delivered
deliver_out : List ℕ → Link → Link
deliver_out b l = record { out = l.out ++ b; out_delivered = l.out_delivered; back = l.back; back_delivered = l.back_delivered }

get_out : ℕ → Link → Link
get_out k l = record { out = l.out; out_delivered = handed_over l.out_delivered l.out k; back = l.back; back_delivered = l.back_delivered }

out_full : (t : List ℕ × List ℕ) (b : List ℕ) → get_out (length b) (deliver_out b (delivered_link t)) ≡ delivered_link (t.0 ++ b, t.1)
unfolding deliver_out get_out
out_full t b = λ d. record { out = t.0 ++ b; out_delivered = done d; back = t.1; back_delivered = length t.1 }
  where
    done : handed_over (length t.0) (t.0 ++ b) (length b) ≡ length (t.0 ++ b)
    done = omega (arith, length-append t.0 b)

deliver_back : List ℕ → Link → Link
deliver_back b l = record { out = l.out; out_delivered = l.out_delivered; back = l.back ++ b; back_delivered = l.back_delivered }

get_back : ℕ → Link → Link
get_back k l = record { out = l.out; out_delivered = l.out_delivered; back = l.back; back_delivered = handed_over l.back_delivered l.back k }

back_full : (t : List ℕ × List ℕ) (b : List ℕ) → get_back (length b) (deliver_back b (delivered_link t)) ≡ delivered_link (t.0, t.1 ++ b)
unfolding deliver_back get_back
back_full t b = λ d. record { out = t.0; out_delivered = length t.0; back = t.1 ++ b; back_delivered = done d }
  where
    done : handed_over (length t.1) (t.1 ++ b) (length b) ≡ length (t.1 ++ b)
    done = omega (arith, length-append t.1 b)

sent_links : {H L : Type 0} (c : Calm H L) (p : ℕ) (b : List ℕ) → set (set (map delivered_link c.traffic) p (deliver_out b (get_or (map delivered_link c.traffic) p new_link))) p (get_out (length b) (get_or (set (map delivered_link c.traffic) p (deliver_out b (get_or (map delivered_link c.traffic) p new_link))) p new_link)) ≡ map delivered_link (set c.traffic p ((traffic_at c.traffic p).0 ++ b, (traffic_at c.traffic p).1))
sent_links c p b =
    set_twice (map delivered_link c.traffic) p (deliver_out b (get_or (map delivered_link c.traffic) p new_link)) (get_out (length b))
    ∙ ap (λ (l : Link). set (map delivered_link c.traffic) p (get_out (length b) (deliver_out b l))) (link_calm c p)
    ∙ ap (λ (l : Link). set (map delivered_link c.traffic) p l) (out_full (traffic_at c.traffic p) b)
    ∙ sym (map-set delivered_link c.traffic p ((traffic_at c.traffic p).0 ++ b, (traffic_at c.traffic p).1))

answered_links : {H L : Type 0} (c : Calm H L) (p : ℕ) (b : List ℕ) → set (set (map delivered_link c.traffic) p (deliver_back b (get_or (map delivered_link c.traffic) p new_link))) p (get_back (length b) (get_or (set (map delivered_link c.traffic) p (deliver_back b (get_or (map delivered_link c.traffic) p new_link))) p new_link)) ≡ map delivered_link (set c.traffic p ((traffic_at c.traffic p).0, (traffic_at c.traffic p).1 ++ b))
answered_links c p b =
    set_twice (map delivered_link c.traffic) p (deliver_back b (get_or (map delivered_link c.traffic) p new_link)) (get_back (length b))
    ∙ ap (λ (l : Link). set (map delivered_link c.traffic) p (get_back (length b) (deliver_back b l))) (link_calm c p)
    ∙ ap (λ (l : Link). set (map delivered_link c.traffic) p l) (back_full (traffic_at c.traffic p) b)
    ∙ sym (map-set delivered_link c.traffic p ((traffic_at c.traffic p).0, (traffic_at c.traffic p).1 ++ b))

hub_leads_on : {H L : Type 0} (star : Star H L) (c : Calm H L) (r : Option (H × Option (ℕ × List ℕ))) → calm_hub_turn star c ≡ r → star_all star (all_delivered c) (hub_steps r) ≡ all_delivered (calm_after_hub c r)
unfolding deliver_out get_out
hub_leads_on star c None e = refl
hub_leads_on {H} {L} star c (Some r) e =
    let now : star_after star (all_delivered c) HubTurn ≡ after_hub_turn (all_delivered c) (Some r) = ap (after_hub_turn (all_delivered c)) (ap (star.hub_turn c.hub) (heard_calm c) ∙ e) in
    ap (λ w. star_all star w (out_steps r.1)) now ∙ sends r.1
  where
    sends : (o : Option (ℕ × List ℕ)) → star_all star (after_hub_turn (all_delivered c) (Some (r.0, o))) (out_steps o) ≡ all_delivered (calm_after_hub c (Some (r.0, o)))
    sends None = refl
    sends (Some m) = λ d. record { hub = r.0; leaves = c.leaves; links = sent_links c m.0 m.1 d }

leaf_leads_on : {H L : Type 0} (star : Star H L) (c : Calm H L) (p : ℕ) (r : Option (L × List ℕ)) → calm_leaf_turn star c p ≡ r → star_all star (all_delivered c) (leaf_steps p r) ≡ all_delivered (calm_after_leaf c p r)
unfolding deliver_back get_back
leaf_leads_on star c p None e = refl
leaf_leads_on {H} {L} star c p (Some r) e =
    let now : star_after star (all_delivered c) (LeafTurn p) ≡ after_leaf_turn (all_delivered c) p (Some r) = ap (after_leaf_turn (all_delivered c) p) (ap (leaf_turn_of star (slice_get c.leaves p)) (leaf_heard_calm c p) ∙ e) in
    ap (λ w. star_after star w (DeliverBack p (length r.1))) now ∙ (λ d. record { hub = c.hub; leaves = set c.leaves p r.0; links = answered_links c p r.1 d })

move_in_schedule : {H L : Type 0} (star : Star H L) (c : Calm H L) (m : Move) → star_all star (all_delivered c) (move_steps star c m) ≡ all_delivered (calm_after star c m)
move_in_schedule star c HubMoves = hub_leads_on star c (calm_hub_turn star c) refl
move_in_schedule star c (LeafMoves p) = leaf_leads_on star c p (calm_leaf_turn star c p) refl

pub all_append : {H L : Type 0} (star : Star H L) (w : StarWorld H L) (xs ys : List StarStep) → star_all star w (xs ++ ys) ≡ star_all star (star_all star w xs) ys
all_append star w [] ys = refl
all_append star w (x ∷ xs) ys = all_append star (star_after star w x) xs ys

-- A calm run is a schedule that ends in the same place.
pub script_in_schedule : {H L : Type 0} (star : Star H L) (c : Calm H L) (ms : List Move) → star_all star (all_delivered c) (script_of star c ms) ≡ all_delivered (calm_all star c ms)
script_in_schedule star c [] = refl
script_in_schedule star c (m ∷ ms) =
    all_append star (all_delivered c) (move_steps star c m) (script_of star (calm_after star c m) ms)
    ∙ ap (λ w. star_all star w (script_of star (calm_after star c m) ms)) (move_in_schedule star c m)
    ∙ script_in_schedule star (calm_after star c m) ms

pub calm_append : {H L : Type 0} (star : Star H L) (c : Calm H L) (xs ys : List Move) → calm_all star c (xs ++ ys) ≡ calm_all star (calm_all star c xs) ys
calm_append star c [] ys = refl
calm_append star c (x ∷ xs) ys = calm_append star (calm_after star c x) xs ys

start_delivered : (n : ℕ) → replicate n new_link ≡ map delivered_link (replicate n no_traffic)
start_delivered zero = refl
start_delivered (suc n) = ap (λ t. new_link ∷ t) (start_delivered n)

pub calm_at_start : {H L : Type 0} (hub : H) (leaves : List L) → star_start hub leaves ≡ all_delivered (calm_start hub leaves)
calm_at_start hub leaves = λ d. record { hub = hub; leaves = leaves; links = start_delivered (length leaves) d }

-- Where nothing can move, no step is effective.
pub rest_quiescent : {H L : Type 0} (star : Star H L) (c : Calm H L) → IsAtRest star c → IsStarQuiescent star (all_delivered c)
rest_quiescent star c rest HubTurn = ap is_some (ap (star.hub_turn c.hub) (heard_calm c) ∙ rest.hub)
rest_quiescent star c rest (LeafTurn p) = ap is_some (ap (leaf_turn_of star (slice_get c.leaves p)) (leaf_heard_calm c p) ∙ rest.leaf p)
rest_quiescent star c rest (DeliverOut p k) = subst (λ (l : Link). nat_lt l.out_delivered (handed_over l.out_delivered l.out k) ≡ false) (sym (link_calm c p)) (idle (length (traffic_at c.traffic p).0) (handed_over (length (traffic_at c.traffic p).0) (traffic_at c.traffic p).0 k) (omega arith))
rest_quiescent star c rest (DeliverBack p k) = subst (λ (l : Link). nat_lt l.back_delivered (handed_over l.back_delivered l.back k) ≡ false) (sym (link_calm c p)) (idle (length (traffic_at c.traffic p).1) (handed_over (length (traffic_at c.traffic p).1) (traffic_at c.traffic p).1 k) (omega arith))

-- The moves of a calm run are the turns of its schedule.

turns_append : {H L : Type 0} (star : Star H L) (w : StarWorld H L) (xs ys : List StarStep) → star_turns star w (xs ++ ys) ≡ star_turns star w xs + star_turns star (star_all star w xs) ys
turns_append star w [] ys = omega arith
turns_append star w (x ∷ xs) ys = let ih = turns_append star (star_after star w x) xs ys in omega arith

leaf_turns_append : {H L : Type 0} (star : Star H L) (w : StarWorld H L) (p : ℕ) (xs ys : List StarStep) → leaf_turns star w p (xs ++ ys) ≡ leaf_turns star w p xs + leaf_turns star (star_all star w xs) p ys
leaf_turns_append star w p [] ys = omega arith
leaf_turns_append star w p (x ∷ xs) ys = let ih = leaf_turns_append star (star_after star w x) p xs ys in omega arith

bit_taken : {A : Type 0} (r : Option A) → (if is_some r then 1 else 0) ≡ one_if_some r
bit_taken None = refl
bit_taken (Some x) = refl

out_no_turns : {H L : Type 0} (star : Star H L) (w : StarWorld H L) (o : Option (ℕ × List ℕ)) → star_turns star w (out_steps o) ≡ 0
out_no_turns star w None = refl
out_no_turns star w (Some m) = refl

out_no_leaf_turns : {H L : Type 0} (star : Star H L) (w : StarWorld H L) (p : ℕ) (o : Option (ℕ × List ℕ)) → leaf_turns star w p (out_steps o) ≡ 0
out_no_leaf_turns star w p None = refl
out_no_leaf_turns star w p (Some m) = refl

hub_is : {H L : Type 0} (star : Star H L) (c : Calm H L) → star.hub_turn c.hub (hub_received (all_delivered c)) ≡ calm_hub_turn star c
hub_is star c = ap (star.hub_turn c.hub) (heard_calm c)

leaf_is : {H L : Type 0} (star : Star H L) (c : Calm H L) (p : ℕ) → leaf_turn_of star (slice_get c.leaves p) (leaf_received (all_delivered c) p) ≡ calm_leaf_turn star c p
leaf_is star c p = ap (leaf_turn_of star (slice_get c.leaves p)) (leaf_heard_calm c p)

move_turns : {H L : Type 0} (star : Star H L) (c : Calm H L) (m : Move) → star_turns star (all_delivered c) (move_steps star c m) ≡ one_move star c m
move_turns {H} star c HubMoves = go (calm_hub_turn star c) refl
  where
    go : (r : Option (H × Option (ℕ × List ℕ))) → calm_hub_turn star c ≡ r → star_turns star (all_delivered c) (hub_steps r) ≡ one_if_some r
    go None e = refl
    go (Some r) e =
        let one : one_turn star (all_delivered c) HubTurn ≡ 1 = bit_taken (star.hub_turn c.hub (hub_received (all_delivered c))) ∙ ap one_if_some (hub_is star c ∙ e) in
        let none = out_no_turns star (star_after star (all_delivered c) HubTurn) r.1 in
        ap₂ ◌+◌ one none
move_turns {H} {L} star c (LeafMoves p) = go (calm_leaf_turn star c p) refl
  where
    go : (r : Option (L × List ℕ)) → calm_leaf_turn star c p ≡ r → star_turns star (all_delivered c) (leaf_steps p r) ≡ one_if_some r
    go None e = refl
    go (Some r) e = ap (λ t. t + 0) (bit_taken (leaf_turn_of star (slice_get c.leaves p) (leaf_received (all_delivered c) p)) ∙ ap one_if_some (leaf_is star c p ∙ e))

move_leaf_turns : {H L : Type 0} (star : Star H L) (c : Calm H L) (p : ℕ) (m : Move) → leaf_turns star (all_delivered c) p (move_steps star c m) ≡ one_leaf_move star c p m
move_leaf_turns {H} star c p HubMoves = go (calm_hub_turn star c)
  where
    go : (r : Option (H × Option (ℕ × List ℕ))) → leaf_turns star (all_delivered c) p (hub_steps r) ≡ 0
    go None = refl
    go (Some r) = ap (λ t. 0 + t) (out_no_leaf_turns star (star_after star (all_delivered c) HubTurn) p r.1)
move_leaf_turns {H} {L} star c p (LeafMoves q) = go (calm_leaf_turn star c q) refl
  where
    zeros : (b : Bool) → ◌≡◌ {A = ℕ} 0 (if b then 0 else 0)
    zeros true = refl
    zeros false = refl

    go : (r : Option (L × List ℕ)) → calm_leaf_turn star c q ≡ r → leaf_turns star (all_delivered c) p (leaf_steps q r) ≡ (if q == p then one_if_some r else 0)
    go None e = zeros (q == p)
    go (Some r) e = ap (λ t. (if q == p then t else 0) + 0) (bit_taken (leaf_turn_of star (slice_get c.leaves q) (leaf_received (all_delivered c) q)) ∙ ap one_if_some (leaf_is star c q ∙ e)) ∙ add-zero _

pub script_turns : {H L : Type 0} (star : Star H L) (c : Calm H L) (ms : List Move) → star_turns star (all_delivered c) (script_of star c ms) ≡ moves_taken star c ms
script_turns star c [] = refl
script_turns star c (m ∷ ms) =
    turns_append star (all_delivered c) (move_steps star c m) (script_of star (calm_after star c m) ms)
    ∙ ap₂ ◌+◌ (move_turns star c m) (ap (λ w. star_turns star w (script_of star (calm_after star c m) ms)) (move_in_schedule star c m) ∙ script_turns star (calm_after star c m) ms)

pub script_leaf_turns : {H L : Type 0} (star : Star H L) (c : Calm H L) (p : ℕ) (ms : List Move) → leaf_turns star (all_delivered c) p (script_of star c ms) ≡ leaf_moves_taken star c p ms
script_leaf_turns star c p [] = refl
script_leaf_turns star c p (m ∷ ms) =
    leaf_turns_append star (all_delivered c) p (move_steps star c m) (script_of star (calm_after star c m) ms)
    ∙ ap₂ ◌+◌ (move_leaf_turns star c p m) (ap (λ w. leaf_turns star w p (script_of star (calm_after star c m) ms)) (move_in_schedule star c m) ∙ script_leaf_turns star (calm_after star c m) p ms)

module _ {H L : Type 0} (star : Star H L) (monotone : IsStarMonotone star) (hub : H) (leaves : List L) (moves : List Move) (rest : IsAtRest star (calm_all star (calm_start hub leaves) moves)) where
  abbrev final : Calm H L
  final = calm_all star (calm_start hub leaves) moves

  abbrev script : List StarStep
  script = script_of star (calm_start hub leaves) moves

  pub script_ends : star_all star (star_start hub leaves) script ≡ all_delivered final
  script_ends = ap (λ w. star_all star w script) (calm_at_start hub leaves) ∙ script_in_schedule star (calm_start hub leaves) moves

  pub script_quiescent : IsStarQuiescent star (star_all star (star_start hub leaves) script)
  script_quiescent = subst (λ w. IsStarQuiescent star w) (sym script_ends) (rest_quiescent star final rest)

  out_is : (p : ℕ) → (link (star_all star (star_start hub leaves) script) p).out ≡ (traffic_at final.traffic p).0
  out_is p = ap (λ w. (link w p).out) script_ends ∙ ap (λ (l : Link). l.out) (link_calm final p)

  back_is : (p : ℕ) → (link (star_all star (star_start hub leaves) script) p).back ≡ (traffic_at final.traffic p).1
  back_is p = ap (λ w. (link w p).back) script_ends ∙ ap (λ (l : Link). l.back) (link_calm final p)

  -- The theorem on every schedule, from a calm run.
  pub every_calm : IsCalmResult star hub leaves moves final
  every_calm =
      let one = one_star star monotone hub leaves script script_quiescent in
      record {
        out_prefix = λ ss p. subst (λ t. IsPrefix (link (star_all star (star_start hub leaves) ss) p).out t) (out_is p) (one.out_prefix ss p);
        back_prefix = λ ss p. subst (λ t. IsPrefix (link (star_all star (star_start hub leaves) ss) p).back t) (back_is p) (one.back_prefix ss p);
        same = λ ss here. one.same ss here ∙ script_ends;
        progress = one.progress;
        bound = λ ss.
            subst (λ k. star_effective_steps star (star_start hub leaves) ss ≤ k) (ap₂ ◌+◌ (ap (λ w. star_turns star w script) (calm_at_start hub leaves) ∙ script_turns star (calm_start hub leaves) moves)
            (sum_same (length leaves) (λ p. length (link (star_all star (star_start hub leaves) script) p).out + length (link (star_all star (star_start hub leaves) script) p).back) (λ p. length (traffic_at final.traffic p).0 + length (traffic_at final.traffic p).1) (λ p _. ap₂ (λ (a b : List ℕ). length a + length b) (out_is p) (back_is p))))
            (one.bound ss);
      }

  leaf_count : (p : ℕ) (ms : List Move) → leaf_turns star (star_start hub leaves) p (script_of star (calm_start hub leaves) ms) ≡ leaf_moves_taken star (calm_start hub leaves) p ms
  leaf_count p ms = ap (λ w. leaf_turns star w p (script_of star (calm_start hub leaves) ms)) (calm_at_start hub leaves) ∙ script_leaf_turns star (calm_start hub leaves) p ms

  -- Where the hub is last, all is at its end as soon as no more bytes would move the hub.
  pub halted_calm : (c : Cursors star hub leaves) → IsHubLast star hub leaves c moves → (ss : List StarStep) → ((x : Streams) → star.hub_turn (star_all star (star_start hub leaves) ss).hub x ≡ None) → star_all star (star_start hub leaves) ss ≡ all_delivered final
  halted_calm c hub_last ss halted = hub_halted_same star monotone hub leaves c script script_quiescent schedule ss halted ∙ script_ends
    where
      schedule : IsHubLastIn star hub leaves c script
      schedule = record {
        hub_all = λ p. ap (λ (w : StarWorld H L). c.hub_taken w.hub p) script_ends ∙ hub_last.hub_all p ∙ ap length (sym (back_is p));
        leaf_all = λ p l e. hub_last.leaf_all p l (sym (ap (λ (w : StarWorld H L). slice_get w.leaves p) script_ends) ∙ e) ∙ ap length (sym (out_is p));
        ends = λ p l. ⊎_elim
            (λ none. inl (leaf_count p moves ∙ none))
            (λ end. inr (
              script_of star (calm_start hub leaves) end.0,
              leaf_count p moves ∙ end.1 ∙ ap suc (sym (leaf_count p end.0)),
              subst (λ t. length t < length (link (star_all star (star_start hub leaves) script) p).back)
                  (sym (ap (λ w. (link w p).back) (ap (λ w. star_all star w (script_of star (calm_start hub leaves) end.0)) (calm_at_start hub leaves) ∙ script_in_schedule star (calm_start hub leaves) end.0) ∙ ap (λ (l : Link). l.back) (link_calm (calm_all star (calm_start hub leaves) end.0) p)))
                  (subst (λ t. length (traffic_at (calm_all star (calm_start hub leaves) end.0).traffic p).1 < length t) (sym (back_is p)) end.2),
            ))
            (hub_last.ends p l);
      }
