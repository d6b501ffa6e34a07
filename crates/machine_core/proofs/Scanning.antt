-- Ports that are looked at, or changed, one by one.
use Rattle.std.proofs.Common.{◌≡◌, ℕ, zero, suc, ◌+◌, ◌<◌, ◌≤◌, List, [], ◌∷◌, length, map, set, get_or, refl, sym, ap, ◌∙◌, arith, add-one}
use Rattle.std.specs.Prelude.{Option, Some, None}
use Rattle.std.proofs.lemmas.List.{with_items_is, length-map}
use Rattle.std.specs.Global.{Vec}
use Rattle.std.specs.Vec.{with_items}

-- A place counted from another one on.

abbrev pub moved : ℕ → Option ℕ → Option ℕ
moved n None = None
moved n (Some r) = Some (n + r)

abbrev pub placed : ℕ → Option (ℕ × ℕ) → Option (ℕ × ℕ)
placed n None = None
placed n (Some r) = Some (n + r.0, r.1)

-- A list whose first elements are changed.

abbrev pub changed : {A : Type 0} → (A → A) → ℕ → List A → List A
changed f zero xs = xs
changed f (suc n) [] = []
changed f (suc n) (x ∷ xs) = f x ∷ changed f n xs

next : {A : Type 0} (f : A → A) (n : ℕ) (xs : List A) (x : A) → x ≡ get_or (changed f n xs) n x → x ≡ get_or xs n x
next f zero xs x e = e
next f (suc n) [] x e = refl
next f (suc n) (y ∷ xs) x e = next f n xs x e

more : {A : Type 0} (f : A → A) (n : ℕ) (xs : List A) (x y : A) → x ≡ get_or xs n x → n < length xs → y ≡ f x
    → set (changed f n xs) n y ≡ changed f (suc n) xs
more f n [] x y e within is = absurd (omega arith)
more f zero (z ∷ xs) x y e within is = (let same : y ≡ f z = cc in ap (λ w. w ∷ xs) same)
more f (suc n) (z ∷ xs) x y e within is = ap (λ ws. f z ∷ ws) (more f n xs x y e (omega arith) is)

all-of : {A : Type 0} (f : A → A) (xs : List A) → changed f (length xs) xs ≡ map f xs
all-of f [] = refl
all-of f (x ∷ xs) = ap (λ ws. f x ∷ ws) (all-of f xs)

pub changed-step : {A : Type 0} (f : A → A) (n : ℕ) (xs now : List A) (x y : A) → n < length xs
    → now ≡ changed f n xs → x ≡ get_or now n x → y ≡ f (get_or now n x) → set now n y ≡ changed f (n + 1) xs
changed-step f n xs now x y within is at e =
    ap (λ ws. set ws n y) is
    ∙ more f n xs x y (next f n xs x (at ∙ ap (λ ws. get_or ws n x) is)) within (e ∙ ap f (sym at))
    ∙ ap (λ m. changed f m xs) (sym (add-one n))

pub changed-end : {A : Type 0} (f : A → A) (n : ℕ) (xs now : List A) → now ≡ changed f n xs → length xs ≤ n
    → n ≤ length xs → now ≡ map f xs
changed-end f n xs now is all few =
    let same : n ≡ length xs = omega arith in
    is ∙ ap (λ m. changed f m xs) same ∙ all-of f xs

-- a `Vec` whose elements were all changed in place
pub all-changed : {A : Type 0} (f : A → A) (v : Vec A) (ws ss : List A) → ws ≡ map f ss → ss ≡ v.items
    → (with_items v ws).items ≡ map f v.items
all-changed f v ws ss e is =
    let long : length ws ≡ v.len = ap length e ∙ length-map ss f ∙ ap length is ∙ sym v.ok.0 in
    with_items_is v ws long ∙ e ∙ ap (map f) is
