-- A list from a place on.
use Rattle.std.proofs.Common.{◌≡◌, ℕ, zero, suc, ◌+◌, List, [], ◌∷◌, drop, Some, slice_get, ap, subst, arith}
use Rattle.std.proofs.lemmas.Option.{none-some, same_Some}

-- what stands there is the first of it
pub drop-at : {X : Type 0} (xs : List X) (n : ℕ) (x : X) → slice_get xs n ≡ Some x → drop n xs ≡ x ∷ drop (n + 1) xs
drop-at [] n x at = absurd (none-some x at)
drop-at (y ∷ xs) zero x at = ap (λ z. z ∷ xs) (same_Some y x at)
drop-at (y ∷ xs) (suc n) x at =
    let same : suc (n + 1) ≡ suc n + 1 = omega arith in
    subst (λ k. drop n xs ≡ x ∷ drop k (y ∷ xs)) same (drop-at xs n x at)
