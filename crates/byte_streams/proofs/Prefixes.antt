-- What follows of one list's being a beginning of another.
use Rattle.std.proofs.Common.{◌≡◌, ℕ, ◌≤◌, List, ◌++◌, length, take, drop, refl, ap, sym, ◌∙◌, subst, arith, append_assoc, length-append}
use Rattle.std.proofs.lemmas.List.{take-append-drop, take_all}
use Rattle.std.proofs.Math.Seq.{take-append_seam, take-length}
use Rattle.byte_streams.specs.Prefixes.{IsPrefix, Grows}

-- it is the same as an equation
pub IsPrefix-front_of : (xs ys : List ℕ) → IsPrefix xs ys → take (length xs) ys ≡ xs
IsPrefix-front_of xs ys (rest, is) = ap (take (length xs)) (sym is) ∙ take-append_seam xs rest

pub front-IsPrefix : (xs ys : List ℕ) → take (length xs) ys ≡ xs → IsPrefix xs ys
front-IsPrefix xs ys e = (drop (length xs) ys, ap (λ front. front ++ drop (length xs) ys) (sym e) ∙ take-append-drop (length xs) ys)

pub IsPrefix-same : (xs : List ℕ) → IsPrefix xs xs
IsPrefix-same xs = front-IsPrefix xs xs (take-length xs)

-- what stands after a prefix
pub IsPrefix-rest : (xs ys : List ℕ) → IsPrefix xs ys → ys ≡ xs ++ drop (length xs) ys
IsPrefix-rest xs ys p = sym (take-append-drop (length xs) ys) ∙ ap (λ front. front ++ drop (length xs) ys) (IsPrefix-front_of xs ys p)

pub IsPrefix-front : (xs rest : List ℕ) → IsPrefix xs (xs ++ rest)
IsPrefix-front xs rest = (rest, refl)

pub IsPrefix-length : (xs ys : List ℕ) → IsPrefix xs ys → length xs ≤ length ys
IsPrefix-length xs ys (rest, is) = let e = ap length (sym is) ∙ length-append xs rest in omega (arith, e)

pub IsPrefix-trans : (xs ys zs : List ℕ) → IsPrefix xs ys → IsPrefix ys zs → IsPrefix xs zs
IsPrefix-trans xs ys zs (d, p) (f, q) = (d ++ f, sym (append_assoc xs d f) ∙ ap (λ y. y ++ f) p ∙ q)

-- a prefix stays one when more of what stands after it is added
pub IsPrefix-longer : (xs ys : List ℕ) (n : ℕ) → IsPrefix xs ys → IsPrefix (xs ++ take n (drop (length xs) ys)) ys
IsPrefix-longer xs ys n p =
    let rest = drop (length xs) ys in
    (drop n rest, append_assoc xs (take n rest) (drop n rest) ∙ ap (λ r. xs ++ r) (take-append-drop n rest) ∙ sym (IsPrefix-rest xs ys p))

pub IsPrefix-by : (xs rest ys : List ℕ) → ys ≡ xs ++ rest → IsPrefix xs ys
IsPrefix-by xs rest ys is = (rest, sym is)

-- a part of a piece, behind the same bytes
pub IsPrefix-behind : (front part piece : List ℕ) → IsPrefix part piece → IsPrefix (front ++ part) (front ++ piece)
IsPrefix-behind front part piece (rest, is) = (rest, append_assoc front part rest ∙ ap (λ x. front ++ x) is)

pub IsPrefix-antisym : (xs ys : List ℕ) → IsPrefix xs ys → IsPrefix ys xs → xs ≡ ys
IsPrefix-antisym xs ys p q = sym (IsPrefix-front_of xs ys p) ∙ take_all (length xs) ys (IsPrefix-length ys xs q)

-- a function that grows keeps prefixes
pub Grows-IsPrefix : (f : List ℕ → List ℕ) (x y : List ℕ) → Grows f → IsPrefix x y → IsPrefix (f x) (f y)
Grows-IsPrefix f x y grows (rest, is) = subst (λ z. IsPrefix (f x) (f z)) is (grows x rest)
