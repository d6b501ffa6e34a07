-- A list that is changed from its front on.
use Rattle.std.proofs.Common.{◌≡◌, ℕ, zero, suc, ◌+◌, ◌<◌, ◌≤◌, List, [], ◌∷◌, length, map, set, get_or, refl, sym, ap, ◌∙◌, arith, add-one}
use Rattle.std.proofs.lemmas.List.{with_items_is, length-map}
use Rattle.std.specs.Global.{Vec}
use Rattle.std.specs.Vec.{with_items}

-- Its first elements are changed.
abbrev pub changed : {A : Type 0} → (A → A) → ℕ → List A → List A
changed f zero xs = xs
changed f (suc n) [] = []
changed f (suc n) (x ∷ xs) = f x ∷ changed f n xs

-- the next one is as it was
pub changed-next : {A : Type 0} (f : A → A) (n : ℕ) (xs : List A) (x : A) → x ≡ get_or (changed f n xs) n x → x ≡ get_or xs n x
changed-next f zero xs x e = e
changed-next f (suc n) [] x e = refl
changed-next f (suc n) (y ∷ xs) x e = changed-next f n xs x e

pub changed-more : {A : Type 0} (f : A → A) (n : ℕ) (xs : List A) (x y : A) → x ≡ get_or xs n x → n < length xs → y ≡ f x → set (changed f n xs) n y ≡ changed f (suc n) xs
changed-more f n [] x y e within is = absurd (omega arith)
changed-more f zero (z ∷ xs) x y e within is = (let same : y ≡ f z = cc in ap (λ w. w ∷ xs) same)
changed-more f (suc n) (z ∷ xs) x y e within is = ap (λ ws. f z ∷ ws) (changed-more f n xs x y e (omega arith) is)

pub changed-all : {A : Type 0} (f : A → A) (xs : List A) → changed f (length xs) xs ≡ map f xs
changed-all f [] = refl
changed-all f (x ∷ xs) = ap (λ ws. f x ∷ ws) (changed-all f xs)

pub length-changed : {A : Type 0} (f : A → A) (n : ℕ) (xs : List A) → length (changed f n xs) ≡ length xs
length-changed f zero xs = refl
length-changed f (suc n) [] = refl
length-changed f (suc n) (x ∷ xs) = ap suc (length-changed f n xs)

pub changed-step : {A : Type 0} (f : A → A) (n : ℕ) (xs now : List A) (x y : A) → n < length xs → now ≡ changed f n xs → x ≡ get_or now n x → y ≡ f (get_or now n x) → set now n y ≡ changed f (n + 1) xs
changed-step f n xs now x y within is here e =
    ap (λ ws. set ws n y) is
    ∙ changed-more f n xs x y (changed-next f n xs x (here ∙ ap (λ ws. get_or ws n x) is)) within (e ∙ ap f (sym here))
    ∙ ap (λ m. changed f m xs) (sym (add-one n))

pub changed-end : {A : Type 0} (f : A → A) (n : ℕ) (xs now : List A) → now ≡ changed f n xs → length xs ≤ n → n ≤ length xs → now ≡ map f xs
changed-end f n xs now is all few = is ∙ ap (λ m. changed f m xs) same ∙ changed-all f xs
  where
    same : n ≡ length xs
    same = omega arith

-- a Vec whose elements were all changed in place
pub all-changed : {A : Type 0} (f : A → A) (v : Vec A) (ws ss : List A) → ws ≡ map f ss → ss ≡ v.items → (with_items v ws).items ≡ map f v.items
all-changed {A} f v ws ss e is = with_items_is v ws long ∙ e ∙ ap (map f) is
  where
    long : length ws ≡ v.len
    long = ap length e ∙ length-map ss f ∙ ap length is ∙ sym v.ok.0
