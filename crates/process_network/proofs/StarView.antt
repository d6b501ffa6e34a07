-- A star is a network.
use Rattle.std.proofs.Common.{◌≡◌, ℕ, zero, suc, ◌<◌, ◌≤◌, ◌≢◌, ◌⊎◌, ◌==◌, inl, inr, ⊎_elim, Bool, true, false, List, [], ◌∷◌, ◌++◌, length, get_or, set, Option, Some, None, nat_lt, if◌then◌else◌, slice_get, refl, sym, ap, ◌∙◌, subst, arith, eqb-true, ltb-true, lt-ltb, append-nil}
use Rattle.std.proofs.lemmas.Bool.{eqb-false}
use Rattle.std.proofs.lemmas.List.{get_or-set_same, get_or-set_other, get_or_past, set_past}
use Rattle.std.proofs.lemmas.Option.{slice_get_within}
use Rattle.process_network.specs.Network.{handed_over, update, Streams, World, received, after_turn, after, only}
use Rattle.process_network.specs.Network.Step.{Deliver}
use Rattle.process_network.specs.Star.{Star, Link, new_link, StarWorld, link, hub_received, leaf_received, StarStep, links_with, after_hub_turn, after_leaf_turn, leaf_turn_of, star_after, StarNode, leaf_of, node_at, sent_at, delivered_at, view, to_leaf, hub_result, leaf_result, star_turn, star_network, net_step}
use Rattle.process_network.specs.Star.StarStep.{HubTurn, LeafTurn, DeliverOut, DeliverBack}
use Rattle.process_network.specs.Star.StarNode.{Hub, Leaf}
use Rattle.process_network.proofs.Prefixes.{update_all, update_same, update_other, le_or_lt}

pub same_world : {S : Type 0} (w v : World S) → ((i : ℕ) → w.state i ≡ v.state i) → ((i j : ℕ) → w.sent i j ≡ v.sent i j) → ((i j : ℕ) → w.delivered i j ≡ v.delivered i j) → w ≡ v
same_world w v a b c = λ d. record { state = λ i. a i d; sent = λ i j. b i j d; delivered = λ i j. c i j d }

-- a link after one is changed
link_set_all : (P : ℕ → Link → Type 0) (links : List Link) (p : ℕ) (v : Link) → (p < length links → P p v) → ((q : ℕ) → (q ≢ p) ⊎ (length links ≤ q) → P q (get_or links q new_link)) → (q : ℕ) → P q (get_or (set links p v) q new_link)
link_set_all P links p v here there q = go (q == p) refl
  where
    go : (b : Bool) → (q == p) ≡ b → P q (get_or (set links p v) q new_link)
    go true e = subst (λ t. P t (get_or (set links p v) t new_link)) (sym (eqb-true q p e))
        (⊎_elim
        (λ l. subst (λ t. P p (get_or t p new_link)) (sym (set_past links p v l)) (there p (inr l)))
        (λ l. subst (λ t. P p t) (sym (get_or-set_same links p v new_link l)) (here l))
        (le_or_lt (length links) p))
    go false e = let ne : q ≢ p = eqb-false q p e in subst (λ t. P q t) (sym (get_or-set_other links p q v new_link ne)) (there q (inl ne))

pub to_leaf_here : (n : ℕ) (m : ℕ × List ℕ) → m.0 < n → to_leaf n (Some m) (suc m.0) ≡ m.1
to_leaf_here n m l = rw (lt-ltb m.0 n l) (update_same (λ j. []) (suc m.0) m.1)

pub to_leaf_other : (n : ℕ) (m : ℕ × List ℕ) (j : ℕ) → (m.0 < n → j ≢ suc m.0) → to_leaf n (Some m) j ≡ []
to_leaf_other n m j ne = go (nat_lt m.0 n) refl
  where
    go : (b : Bool) → nat_lt m.0 n ≡ b → (if b then only (suc m.0) m.1 else (λ j. [])) j ≡ []
    go true e = update_all (λ a (t : List ℕ). a ≢ suc m.0 → t ≡ []) (λ a. []) (suc m.0) m.1 (λ bad. absurd (bad refl)) (λ a ok _. refl) j (ne (ltb-true m.0 n e))
    go false e = refl

sent_same : (links links' : List Link) → ((p : ℕ) → (get_or links' p new_link).out ≡ (get_or links p new_link).out) → ((p : ℕ) → (get_or links' p new_link).back ≡ (get_or links p new_link).back) → (i j : ℕ) → sent_at links' i j ≡ sent_at links i j
sent_same links links' a b zero zero = refl
sent_same links links' a b zero (suc p) = a p
sent_same links links' a b (suc p) zero = b p
sent_same links links' a b (suc p) (suc q) = refl

delivered_same : (links links' : List Link) → ((p : ℕ) → (get_or links' p new_link).out_delivered ≡ (get_or links p new_link).out_delivered) → ((p : ℕ) → (get_or links' p new_link).back_delivered ≡ (get_or links p new_link).back_delivered) → (i j : ℕ) → delivered_at links' i j ≡ delivered_at links i j
delivered_same links links' a b zero zero = refl
delivered_same links links' a b zero (suc p) = a p
delivered_same links links' a b (suc p) zero = b p
delivered_same links links' a b (suc p) (suc q) = refl

hub_state : {H L : Type 0} (hub hub' : H) (leaves : List L) (i : ℕ) → node_at hub' leaves i ≡ update (node_at hub leaves) 0 (Hub hub') i
hub_state {H} {L} hub hub' leaves = update_all (λ i (s : StarNode H L). node_at hub' leaves i ≡ s) (node_at hub leaves) 0 (Hub hub') refl other
  where
    other : (j : ℕ) → j ≢ 0 → node_at hub' leaves j ≡ node_at hub leaves j
    other zero ne = absurd (ne refl)
    other (suc p) ne = refl

sent_out_at : (links : List Link) (o : Option (ℕ × List ℕ)) (i j : ℕ) → sent_at (links_with links o) i j ≡ update (sent_at links) 0 (λ b. sent_at links 0 b ++ to_leaf (length links) o b) i j
sent_out_at links None i j = update_all (λ i (row : Streams). (j : ℕ) → sent_at links i j ≡ row j) (sent_at links) 0 (λ b. sent_at links 0 b ++ []) (λ j. sym (append-nil (sent_at links 0 j))) (λ i ne j. refl) i j
sent_out_at links (Some m) i j = update_all (λ i (row : Streams). (j : ℕ) → sent_at (links_with links (Some m)) i j ≡ row j) (sent_at links) 0 (λ b. sent_at links 0 b ++ to_leaf (length links) (Some m) b) here there i j
  where
    here : (j : ℕ) → sent_at (links_with links (Some m)) 0 j ≡ sent_at links 0 j ++ to_leaf (length links) (Some m) j
    here zero = sym (to_leaf_other (length links) m 0 (λ l bad. (omega arith)))
    here (suc p) = link_set_all (λ p (l : Link). l.out ≡ (get_or links p new_link).out ++ to_leaf (length links) (Some m) (suc p)) links m.0 _
        (λ l. ap (λ t. (get_or links m.0 new_link).out ++ t) (sym (to_leaf_here (length links) m l)))
        (λ q far. sym (ap (λ t. (get_or links q new_link).out ++ t) (to_leaf_other (length links) m (suc q) (λ l bad. ⊎_elim (λ (ne : q ≢ m.0). ne (omega arith)) (λ (past : length links ≤ q). omega arith) far)) ∙ append-nil (get_or links q new_link).out)) p

    there : (i : ℕ) → i ≢ 0 → (j : ℕ) → sent_at (links_with links (Some m)) i j ≡ sent_at links i j
    there zero ne j = absurd (ne refl)
    there (suc p) ne zero = link_set_all (λ p (l : Link). l.back ≡ (get_or links p new_link).back) links m.0 _ (λ l. refl) (λ q far. refl) p
    there (suc p) ne (suc q) = refl

links_with_delivered : (links : List Link) (o : Option (ℕ × List ℕ)) (i j : ℕ) → delivered_at (links_with links o) i j ≡ delivered_at links i j
links_with_delivered links None i j = refl
links_with_delivered links (Some m) i j = delivered_same links (links_with links (Some m))
    (link_set_all (λ p (l : Link). l.out_delivered ≡ (get_or links p new_link).out_delivered) links m.0 _ (λ l. refl) (λ q far. refl))
    (link_set_all (λ p (l : Link). l.back_delivered ≡ (get_or links p new_link).back_delivered) links m.0 _ (λ l. refl) (λ q far. refl)) i j

hub_step : {H L : Type 0} (w : StarWorld H L) (r : Option (H × Option (ℕ × List ℕ))) → view (after_hub_turn w r) ≡ after_turn (view w) 0 (hub_result (length w.links) r)
hub_step w None = refl
hub_step w (Some r) = same_world (view (after_hub_turn w (Some r))) (after_turn (view w) 0 (hub_result (length w.links) (Some r))) (hub_state w.hub r.0 w.leaves) (sent_out_at w.links r.1) (links_with_delivered w.links r.1)

leaf_set : {H L : Type 0} (leaves : List L) (p : ℕ) (v : L) → p < length leaves → (q : ℕ) → leaf_of {H = H} (slice_get (set leaves p v) q) ≡ update (λ a. leaf_of {H = H} (slice_get leaves a)) p (Leaf v) q
leaf_set {H} {L} leaves p v l q = update_all (λ a (s : StarNode H L). leaf_of {H = H} (slice_get (set leaves p v) a) ≡ s) (λ a. leaf_of {H = H} (slice_get leaves a)) p (Leaf v) (ap leaf_of (get_same leaves p v l)) (λ a ne. ap leaf_of (get_other leaves p v a ne)) q
  where
    get_same : (xs : List L) (p : ℕ) (v : L) → p < length xs → slice_get (set xs p v) p ≡ Some v
    get_same [] p v l = absurd (omega arith)
    get_same (x ∷ xs) zero v l = refl
    get_same (x ∷ xs) (suc p) v l = get_same xs p v (omega arith)

    get_other : (xs : List L) (p : ℕ) (v : L) (q : ℕ) → q ≢ p → slice_get (set xs p v) q ≡ slice_get xs q
    get_other [] p v q ne = refl
    get_other (x ∷ xs) zero v zero ne = absurd (ne refl)
    get_other (x ∷ xs) zero v (suc q) ne = refl
    get_other (x ∷ xs) (suc p) v zero ne = refl
    get_other (x ∷ xs) (suc p) v (suc q) ne = get_other xs p v q (λ e. ne (ap suc e))

leaf_state : {H L : Type 0} (hub : H) (leaves : List L) (p : ℕ) (v : L) → p < length leaves → (i : ℕ) → node_at hub (set leaves p v) i ≡ update (node_at hub leaves) (suc p) (Leaf v) i
leaf_state {H} {L} hub leaves p v l = update_all (λ i (s : StarNode H L). node_at hub (set leaves p v) i ≡ s) (node_at hub leaves) (suc p) (Leaf v) (leaf_set {H = H} leaves p v l p ∙ update_same (λ a. leaf_of {H = H} (slice_get leaves a)) p (Leaf v)) other
  where
    other : (i : ℕ) → i ≢ suc p → node_at hub (set leaves p v) i ≡ node_at hub leaves i
    other zero ne = refl
    other (suc q) ne = leaf_set {H = H} leaves p v l q ∙ update_all (λ a (s : StarNode H L). (a ≢ p) → s ≡ leaf_of (slice_get leaves a)) (λ a. leaf_of (slice_get leaves a)) p (Leaf v) (λ bad. absurd (bad refl)) (λ a ok _. refl) q (λ e. ne (ap suc e))

leaf_sent : (links : List Link) (p : ℕ) (bytes : List ℕ) → p < length links → (i j : ℕ) → sent_at (set links p (record { out = (get_or links p new_link).out; out_delivered = (get_or links p new_link).out_delivered; back = (get_or links p new_link).back ++ bytes; back_delivered = (get_or links p new_link).back_delivered })) i j ≡ update (sent_at links) (suc p) (λ b. sent_at links (suc p) b ++ only 0 bytes b) i j
leaf_sent links p bytes l i j = update_all (λ i (row : Streams). (j : ℕ) → sent_at links' i j ≡ row j) (sent_at links) (suc p) (λ b. sent_at links (suc p) b ++ only 0 bytes b) here there i j
  where
    new : Link
    new = record { out = (get_or links p new_link).out; out_delivered = (get_or links p new_link).out_delivered; back = (get_or links p new_link).back ++ bytes; back_delivered = (get_or links p new_link).back_delivered }

    links' : List Link
    links' = set links p new

    here : (j : ℕ) → sent_at links' (suc p) j ≡ sent_at links (suc p) j ++ only 0 bytes j
    here zero = ap (λ (t : Link). t.back) (get_or-set_same links p new new_link l)
    here (suc q) = sym (update_other (λ j. []) 0 bytes (suc q) (λ e. (omega arith)))

    there : (i : ℕ) → i ≢ suc p → (j : ℕ) → sent_at links' i j ≡ sent_at links i j
    there zero ne zero = refl
    there zero ne (suc q) = link_set_all (λ p (l : Link). l.out ≡ (get_or links p new_link).out) links p new (λ l. refl) (λ q far. refl) q
    there (suc q) ne zero = ap (λ (t : Link). t.back) (get_or-set_other links p q new new_link (λ e. ne (ap suc e)))
    there (suc q) ne (suc r) = refl

leaf_step_some : {H L : Type 0} (w : StarWorld H L) (p : ℕ) (r : L × List ℕ) → p < length w.leaves → p < length w.links → view (after_leaf_turn w p (Some r)) ≡ after_turn (view w) (suc p) (Some (Leaf r.0, only 0 r.1))
leaf_step_some w p r l m = same_world (view (after_leaf_turn w p (Some r))) (after_turn (view w) (suc p) (Some (Leaf r.0, only 0 r.1)))
    (leaf_state w.hub w.leaves p r.0 l)
    (leaf_sent w.links p r.1 m)
    (delivered_same w.links (after_leaf_turn w p (Some r)).links
    (link_set_all (λ p (l : Link). l.out_delivered ≡ (get_or w.links p new_link).out_delivered) w.links p _ (λ l. refl) (λ q far. refl))
    (link_set_all (λ p (l : Link). l.back_delivered ≡ (get_or w.links p new_link).back_delivered) w.links p _ (λ l. refl) (λ q far. refl)))

leaf_step : {H L : Type 0} (star : Star H L) (w : StarWorld H L) (n p : ℕ) (s : Option L) → slice_get w.leaves p ≡ s → length w.links ≡ length w.leaves → view (after_leaf_turn w p (leaf_turn_of star s (leaf_received w p))) ≡ after_turn (view w) (suc p) (star_turn star n (leaf_of s) (received (view w) (suc p)))
leaf_step star w n p None e fits = refl
leaf_step {H} {L} star w n p (Some l) e fits = go (star.leaf_turn l (leaf_received w p))
  where
    inside : p < length w.leaves
    inside = slice_get_within w.leaves p l e

    go : (r : Option (L × List ℕ)) → view (after_leaf_turn w p r) ≡ after_turn (view w) (suc p) (leaf_result r)
    go None = refl
    go (Some r) = leaf_step_some w p r inside (omega (arith, inside))

to_leaf_step : {H L : Type 0} (star : Star H L) (hub : H) (leaves : List L) (w : StarWorld H L) (p k : ℕ) → view (star_after star w (DeliverOut p k)) ≡ after (star_network star hub leaves) (view w) (Deliver 0 (suc p) k)
to_leaf_step star hub leaves w p k = same_world (view (star_after star w (DeliverOut p k))) (after (star_network star hub leaves) (view w) (Deliver 0 (suc p) k)) (λ i. refl)
    (sent_same w.links links'
    (link_set_all (λ p (l : Link). l.out ≡ (get_or w.links p new_link).out) w.links p new (λ l. refl) (λ q far. refl))
    (link_set_all (λ p (l : Link). l.back ≡ (get_or w.links p new_link).back) w.links p new (λ l. refl) (λ q far. refl)))
    (update_all (λ i (row : ℕ → ℕ). (j : ℕ) → delivered_at links' i j ≡ row j) (delivered_at w.links) 0 (update (delivered_at w.links 0) (suc p) d) row0 there)
  where
    d : ℕ
    d = handed_over (link w p).out_delivered (link w p).out k

    new : Link
    new = record { out = (link w p).out; out_delivered = d; back = (link w p).back; back_delivered = (link w p).back_delivered }

    links' : List Link
    links' = set w.links p new

    row0 : (j : ℕ) → delivered_at links' 0 j ≡ update (delivered_at w.links 0) (suc p) d j
    row0 = update_all (λ j (t : ℕ). delivered_at links' 0 j ≡ t) (delivered_at w.links 0) (suc p) d here other
      where
        here : (get_or links' p new_link).out_delivered ≡ d
        here = ⊎_elim
            (λ (l : length w.links ≤ p).
            let same : links' ≡ w.links = set_past w.links p new l in
            let none : get_or w.links p new_link ≡ new_link = get_or_past w.links p new_link l in
            let zero_len : length (link w p).out ≡ 0 = ap (λ (t : Link). length t.out) none in
            let zero_done : (link w p).out_delivered ≡ 0 = ap (λ (t : Link). t.out_delivered) none in
            ap (λ t. (get_or t p new_link).out_delivered) same ∙ zero_done ∙ (omega arith))
            (λ l. ap (λ (t : Link). t.out_delivered) (get_or-set_same w.links p new new_link l))
            (le_or_lt (length w.links) p)

        other : (j : ℕ) → j ≢ suc p → delivered_at links' 0 j ≡ delivered_at w.links 0 j
        other zero ne = refl
        other (suc q) ne = ap (λ (t : Link). t.out_delivered) (get_or-set_other w.links p q new new_link (λ e. ne (ap suc e)))

    there : (i : ℕ) → i ≢ 0 → (j : ℕ) → delivered_at links' i j ≡ delivered_at w.links i j
    there zero ne j = absurd (ne refl)
    there (suc q) ne zero = link_set_all (λ p (l : Link). l.back_delivered ≡ (get_or w.links p new_link).back_delivered) w.links p new (λ l. refl) (λ q far. refl) q
    there (suc q) ne (suc r) = refl

to_hub_step : {H L : Type 0} (star : Star H L) (hub : H) (leaves : List L) (w : StarWorld H L) (p k : ℕ) → view (star_after star w (DeliverBack p k)) ≡ after (star_network star hub leaves) (view w) (Deliver (suc p) 0 k)
to_hub_step star hub leaves w p k = same_world (view (star_after star w (DeliverBack p k))) (after (star_network star hub leaves) (view w) (Deliver (suc p) 0 k)) (λ i. refl)
    (sent_same w.links links'
    (link_set_all (λ p (l : Link). l.out ≡ (get_or w.links p new_link).out) w.links p new (λ l. refl) (λ q far. refl))
    (link_set_all (λ p (l : Link). l.back ≡ (get_or w.links p new_link).back) w.links p new (λ l. refl) (λ q far. refl)))
    (update_all (λ i (row : ℕ → ℕ). (j : ℕ) → delivered_at links' i j ≡ row j) (delivered_at w.links) (suc p) (update (delivered_at w.links (suc p)) 0 d) rowp there)
  where
    d : ℕ
    d = handed_over (link w p).back_delivered (link w p).back k

    new : Link
    new = record { out = (link w p).out; out_delivered = (link w p).out_delivered; back = (link w p).back; back_delivered = d }

    links' : List Link
    links' = set w.links p new

    rowp : (j : ℕ) → delivered_at links' (suc p) j ≡ update (delivered_at w.links (suc p)) 0 d j
    rowp = update_all (λ j (t : ℕ). delivered_at links' (suc p) j ≡ t) (delivered_at w.links (suc p)) 0 d here other
      where
        here : (get_or links' p new_link).back_delivered ≡ d
        here = ⊎_elim
            (λ (l : length w.links ≤ p).
            let same : links' ≡ w.links = set_past w.links p new l in
            let none : get_or w.links p new_link ≡ new_link = get_or_past w.links p new_link l in
            let zero_len : length (link w p).back ≡ 0 = ap (λ (t : Link). length t.back) none in
            let zero_done : (link w p).back_delivered ≡ 0 = ap (λ (t : Link). t.back_delivered) none in
            ap (λ t. (get_or t p new_link).back_delivered) same ∙ zero_done ∙ (omega arith))
            (λ l. ap (λ (t : Link). t.back_delivered) (get_or-set_same w.links p new new_link l))
            (le_or_lt (length w.links) p)

        other : (j : ℕ) → j ≢ 0 → delivered_at links' (suc p) j ≡ delivered_at w.links (suc p) j
        other zero ne = absurd (ne refl)
        other (suc q) ne = refl

    there : (i : ℕ) → i ≢ suc p → (j : ℕ) → delivered_at links' i j ≡ delivered_at w.links i j
    there zero ne zero = refl
    there zero ne (suc q) = link_set_all (λ p (l : Link). l.out_delivered ≡ (get_or w.links p new_link).out_delivered) w.links p new (λ l. refl) (λ q far. refl) q
    there (suc q) ne zero = ap (λ (t : Link). t.back_delivered) (get_or-set_other w.links p q new new_link (λ e. ne (ap suc e)))
    there (suc q) ne (suc r) = refl

-- A step of the star is a step of the network.
pub step_view : {H L : Type 0} (star : Star H L) (hub : H) (leaves : List L) (w : StarWorld H L) → length w.links ≡ length leaves → length w.leaves ≡ length leaves → (s : StarStep) → view (star_after star w s) ≡ after (star_network star hub leaves) (view w) (net_step s)
step_view star hub leaves w a b HubTurn = subst (λ n. view (after_hub_turn w (star.hub_turn w.hub (hub_received w))) ≡ after_turn (view w) 0 (hub_result n (star.hub_turn w.hub (hub_received w)))) a (hub_step w (star.hub_turn w.hub (hub_received w)))
step_view star hub leaves w a b (LeafTurn p) = leaf_step star w (length leaves) p (slice_get w.leaves p) refl (a ∙ sym b)
step_view star hub leaves w a b (DeliverOut p k) = to_leaf_step star hub leaves w p k
step_view star hub leaves w a b (DeliverBack p k) = to_hub_step star hub leaves w p k
