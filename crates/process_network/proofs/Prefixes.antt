-- Prefixes of lists, and functions that are changed at one place.
use Rattle.std.proofs.Common.{◌≡◌, ℕ, zero, suc, ◌<◌, ◌≤◌, ◌≢◌, ◌⊎◌, ◌==◌, Bool, true, false, List, [], ◌∷◌, ◌++◌, length, take, drop, refl, sym, ap, ◌∙◌, subst, append_assoc, append-nil, take-append-drop, length-append, arith, eqb-true, eq-eqb, if◌then◌else◌, le_of_suc-le-suc}
use Rattle.std.proofs.lemmas.Bool.{eqb-false}
use Rattle.process_network.specs.Network.{IsPrefix, update}

pub prefix_refl : {X : Type 0} (xs : List X) → IsPrefix xs xs
prefix_refl xs = ([], append-nil xs)

pub prefix_eq : {X : Type 0} {xs ys : List X} → xs ≡ ys → IsPrefix xs ys
prefix_eq {xs = xs} e = ([], append-nil xs ∙ e)

pub prefix_trans : {X : Type 0} (xs ys zs : List X) → IsPrefix xs ys → IsPrefix ys zs → IsPrefix xs zs
prefix_trans xs ys zs h g = (h.0 ++ g.0, sym (append_assoc xs h.0 g.0) ∙ ap (λ t. t ++ g.0) h.1 ∙ g.1)

pub prefix_append : {X : Type 0} (xs ys : List X) → IsPrefix xs (xs ++ ys)
prefix_append xs ys = (ys, refl)

pub prefix_take : {X : Type 0} (n : ℕ) (xs : List X) → IsPrefix (take n xs) xs
prefix_take n xs = (drop n xs, take-append-drop n xs)

pub prefix_take_le : {X : Type 0} (m n : ℕ) (xs : List X) → m ≤ n → IsPrefix (take m xs) (take n xs)
prefix_take_le zero n xs h = (take n xs, refl)
prefix_take_le (suc m) zero xs h = absurd (omega arith)
prefix_take_le (suc m) (suc n) [] h = ([], refl)
prefix_take_le (suc m) (suc n) (x ∷ xs) h =
    let r = prefix_take_le m n xs (le_of_suc-le-suc h) in
    (r.0, ap (λ t. x ∷ t) r.1)

pub prefix_length : {X : Type 0} (xs ys : List X) → IsPrefix xs ys → length xs ≤ length ys
prefix_length xs ys h = omega (arith, sym (length-append xs h.0) ∙ ap length h.1)

length_nil : {X : Type 0} (xs : List X) → length xs ≡ 0 → xs ≡ []
length_nil [] e = refl
length_nil (x ∷ xs) e = absurd (omega arith)

pub prefix_antisym : {X : Type 0} (xs ys : List X) → IsPrefix xs ys → length ys ≤ length xs → xs ≡ ys
prefix_antisym xs ys h l =
    let e : length h.0 ≡ 0 = omega (arith, sym (length-append xs h.0) ∙ ap length h.1) in
    sym (append-nil xs) ∙ ap (λ t. xs ++ t) (sym (length_nil h.0 e)) ∙ h.1

pub prefix_of_nil : {X : Type 0} (xs ys : List X) → IsPrefix xs ys → ys ≡ [] → xs ≡ []
prefix_of_nil xs ys h e = length_nil xs (omega (arith, prefix_length xs ys h, ap length e))

-- What holds at the changed place, and at each other place of f, holds at each place.
pub update_all : {A : Type 0} (P : ℕ → A → Type 0) (f : ℕ → A) (i : ℕ) (v : A) → P i v → ((j : ℕ) → j ≢ i → P j (f j)) → (j : ℕ) → P j (update f i v j)
update_all P f i v here there j = go (j == i) refl
  where
    go : (b : Bool) → (j == i) ≡ b → P j (if b then v else f j)
    go true e = subst (λ t. P t v) (sym (eqb-true j i e)) here
    go false e = there j (eqb-false j i e)

pub update_all3 : {A B C : Type 0} (P : ℕ → A → B → C → Type 0) (f : ℕ → A) (g : ℕ → B) (h : ℕ → C) (i : ℕ) (u : A) (v : B) (w : C) → P i u v w → ((j : ℕ) → j ≢ i → P j (f j) (g j) (h j)) → (j : ℕ) → P j (update f i u j) (update g i v j) (update h i w j)
update_all3 P f g h i u v w here there j = go (j == i) refl
  where
    go : (b : Bool) → (j == i) ≡ b → P j (if b then u else f j) (if b then v else g j) (if b then w else h j)
    go true e = subst (λ t. P t u v w) (sym (eqb-true j i e)) here
    go false e = there j (eqb-false j i e)

pub update_same : {A : Type 0} (f : ℕ → A) (i : ℕ) (v : A) → update f i v i ≡ v
update_same f i v = rw (eq-eqb i i refl)

pub le_or_lt : (k n : ℕ) → (k ≤ n) ⊎ (n < k)
le_or_lt k n = grind arith

pub update_other : {A : Type 0} (f : ℕ → A) (i : ℕ) (v : A) (j : ℕ) → j ≢ i → update f i v j ≡ f j
update_other f i v j ne = update_all (λ a x. (a ≢ i) → x ≡ f a) f i v (λ no. absurd (no refl)) (λ a other no. refl) j ne
