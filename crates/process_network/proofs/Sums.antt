-- Sums of a function's values below a number.
use Rattle.std.proofs.Common.{◌≡◌, ℕ, zero, suc, ◌+◌, ◌<◌, ◌≤◌, ⊎_elim, refl, ap, subst, arith, eq-or-lt_of_le, le_of_suc-le-suc, add-le-add}
use Rattle.process_network.specs.Network.{update, sum_below}
use Rattle.process_network.proofs.Prefixes.{update_same, update_other}

pub sum_le : (n : ℕ) (f g : ℕ → ℕ) → ((i : ℕ) → i < n → f i ≤ g i) → sum_below n f ≤ sum_below n g
sum_le zero f g h = omega arith
sum_le (suc n) f g h = add-le-add (sum_le n f g (λ i l. h i (omega arith))) (h n (omega arith))

pub sum_same : (n : ℕ) (f g : ℕ → ℕ) → ((i : ℕ) → i < n → f i ≡ g i) → sum_below n f ≡ sum_below n g
sum_same zero f g h = refl
sum_same (suc n) f g h = let ih = sum_same n f g (λ i l. h i (omega arith)) in let e = h n (omega arith) in omega arith

-- A change at i changes the sum by as much.
pub sum_update : (n : ℕ) (f : ℕ → ℕ) (i v : ℕ) → i < n → sum_below n (update f i v) + f i ≡ sum_below n f + v
sum_update zero f i v l = absurd (omega arith)
sum_update (suc n) f i v l = ⊎_elim here (λ m. go m (sum_update n f i v m)) (eq-or-lt_of_le (le_of_suc-le-suc l))
  where
    here : i ≡ n → sum_below n (update f i v) + update f i v n + f i ≡ sum_below n f + f n + v
    here e =
        let before : sum_below n (update f i v) ≡ sum_below n f = sum_same n (update f i v) f (λ a m. update_other f i v a (omega arith)) in
        let at : update f i v n ≡ v = subst (λ t. update f i v t ≡ v) e (update_same f i v) in
        let same : f i ≡ f n = ap f e in
        omega arith

    go : i < n → sum_below n (update f i v) + f i ≡ sum_below n f + v → sum_below n (update f i v) + update f i v n + f i ≡ sum_below n f + f n + v
    go m ih =
        let at : update f i v n ≡ f n = update_other f i v n (omega arith) in
        omega arith
