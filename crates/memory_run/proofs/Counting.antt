-- Loops over lists, an item at a time.
use Rattle.std.proofs.Common.{ℕ, zero, suc, ◌+◌, ◌<◌, ◌≡◌, List, All, [], ◌∷◌, arith, length, take, sym, subst}
use Rattle.std.specs.Prelude.{get_or}
use Rattle.std.proofs.lemmas.List.{take_more}
use Rattle.std.proofs.lemmas.List.Elements.{All-append}

one : {X : Type 0} (P : X → Type 0) (x : X) → P x → All P (x ∷ [])
one P x here zero d small = here
one P x here (suc k) d small = absurd (omega (arith, small))

pub all-next : {X : Type 0} (P : X → Type 0) (n : ℕ) (xs : List X) (d : X) → n < length xs → All P (take n xs)
    → P (get_or xs n d) → All P (take (n + 1) xs)
all-next P n xs d small before here =
    subst (All P) (sym (take_more xs n d small)) (All-append P (take n xs) (get_or xs n d ∷ []) before (one P (get_or xs n d) here))

pub all-rest : {X : Type 0} (P : X → Type 0) (xs ys : List X) (x : X) → xs ≡ x ∷ ys → All P xs → All P ys
all-rest P xs ys x is all k d small = (subst (All P) is all) (suc k) d (omega (arith, small))
