-- Some step is effective, or none is.
use Rattle.std.proofs.Common.{◌≡◌, ℕ, zero, suc, ◌<◌, ◌≤◌, ◌⊎◌, inl, inr, ⊎_elim, Bool, true, false, [], length, Option, Some, None, is_some, nat_lt, refl, sym, ap, subst, arith, ltb-false, eq-or-lt_of_le, le_of_suc-le-suc, ltb-true}
use Rattle.process_network.specs.Network.{handed_over, Network, IsMonotone, World, received, Step, delivered_after, is_effective, IsQuiescent, IsSmall}
use Rattle.process_network.specs.Network.Step.{Turn, Deliver}
use Rattle.process_network.proofs.Prefixes.{prefix_of_nil, le_or_lt}
use Rattle.process_network.proofs.ReachableWorlds.{IsOnRun, IsFinal, Under}
use Rattle.process_network.proofs.StepBound.{only_small_turn}

search_below : (P Q : ℕ → Type 0) → ((i : ℕ) → P i ⊎ Q i) → (n : ℕ) → ((i : ℕ) → i < n → P i) ⊎ ((i : ℕ) × Q i)
search_below P Q each zero = inl (λ i l. absurd (omega arith))
search_below P Q each (suc n) = ⊎_elim (λ none. ⊎_elim (λ p. inl (more none p)) (λ q. inr (n, q)) (each n)) (λ found. inr found) (search_below P Q each n)
  where
    more : ((i : ℕ) → i < n → P i) → P n → (i : ℕ) → i < suc n → P i
    more none p i l = ⊎_elim (λ same. subst P (sym same) p) (λ m. none i m) (eq-or-lt_of_le (le_of_suc-le-suc l))

test : (b : Bool) → (b ≡ false) ⊎ (b ≡ true)
test true = inr refl
test false = inl refl

not_less : (a b : ℕ) → b ≤ a → nat_lt a b ≡ false
not_less a b l = ⊎_elim (λ e. e) (λ e. absurd (let m = ltb-true a b e in omega arith)) (test (nat_lt a b))

is_some_false : {A : Type 0} (r : Option A) → ((x : A) → r ≡ Some x → ⊥) → is_some r ≡ false
is_some_false None never = refl
is_some_false (Some x) never = absurd (never x refl)

-- If all that was sent is delivered, no delivery is effective.
deliver_idle : {S : Type 0} (net : Network S) (w : World S) (i j c : ℕ) → length (w.sent i j) ≤ w.delivered i j → is_effective net w (Deliver i j c) ≡ false
deliver_idle net w i j c l = not_less (w.delivered i j) (delivered_after w i j c) (omega arith)

pub progress : {S : Type 0} (net : Network S) → IsMonotone net → (n : ℕ) (w f : World S) (k m : ℕ → ℕ) → IsSmall n f m → IsOnRun net w k → IsFinal net f m → Under w f.sent → IsQuiescent net w ⊎ ((s : Step) × (is_effective net w s ≡ true))
progress {S} net monotone n w f k m small h fin u =
    ⊎_elim (λ quiet. ⊎_elim (λ empty. inl (quiescent quiet empty)) (λ found. inr (Deliver found.0 found.1.0 (length (w.sent found.0 found.1.0)), found.1.1))
    (search_below
    (λ i. (j : ℕ) → j < n → is_effective net w (Deliver i j (length (w.sent i j))) ≡ false)
    (λ i. (j : ℕ) × (is_effective net w (Deliver i j (length (w.sent i j))) ≡ true))
    (λ i. search_below (λ j. is_effective net w (Deliver i j (length (w.sent i j))) ≡ false) (λ j. is_effective net w (Deliver i j (length (w.sent i j))) ≡ true) (λ j. test (is_effective net w (Deliver i j (length (w.sent i j))))) n) n))
    (λ found. inr (Turn found.0, found.1))
    (search_below (λ i. is_effective net w (Turn i) ≡ false) (λ i. is_effective net w (Turn i) ≡ true) (λ i. test (is_effective net w (Turn i))) n)
  where
    empty_out : (i j : ℕ) → w.sent i j ≡ [] → length (w.sent i j) ≤ w.delivered i j
    empty_out i j e = let z : length (w.sent i j) ≡ 0 = ap length e in omega arith

    quiescent : ((i : ℕ) → i < n → is_effective net w (Turn i) ≡ false) → ((i : ℕ) → i < n → (j : ℕ) → j < n → is_effective net w (Deliver i j (length (w.sent i j))) ≡ false) → IsQuiescent net w
    quiescent quiet empty (Turn i) = ⊎_elim
        (λ l. is_some_false (net.turn i (w.state i) (received w i)) (λ r e. absurd (let s : i < n = only_small_turn net monotone n w f k m small h fin u i r e in let l' : n ≤ i = l in omega arith)))
        (λ l. quiet i l) (le_or_lt n i)
    quiescent quiet empty (Deliver i j c) = deliver_idle net w i j c (⊎_elim
        (λ l. empty_out i j (prefix_of_nil (w.sent i j) (f.sent i j) (u i j) (small.sent_from i j l)))
        (λ l. ⊎_elim
        (λ l'. empty_out i j (prefix_of_nil (w.sent i j) (f.sent i j) (u i j) (small.sent_to i j l')))
        (λ l'. let q : handed_over (w.delivered i j) (w.sent i j) (length (w.sent i j)) ≤ w.delivered i j = ltb-false (w.delivered i j) (delivered_after w i j (length (w.sent i j))) (empty i l j l') in omega arith)
        (le_or_lt n j))
        (le_or_lt n i))
