-- Bytes that are put in two digits each, piece by piece.
use Rattle.std.proofs.Common.{◌≡◌, ℕ, List, [], ◌∷◌, ◌++◌, length, take, drop, sym, ap, ◌∙◌, refl, arith, append_assoc}
use Rattle.std.proofs.lemmas.List.{take-append-drop, append-nil}
use Rattle.hex.specs.Hex.{encode_with, encode_lower}

-- two digits for each byte, in pieces
pub encode-append : (xs ys : List ℕ) → encode_lower (xs ++ ys) ≡ encode_lower xs ++ encode_lower ys
unfolding encode_with
encode-append [] ys = refl
encode-append (b ∷ xs) ys = rw (encode-append xs ys) refl

pub put-chunk : (a b front back rest : List ℕ) (n : ℕ) → front ≡ take n rest → back ≡ drop n rest → b ≡ a ++ encode_lower front → b ++ encode_lower back ≡ a ++ encode_lower rest
put-chunk a b front back rest n front_is back_is put =
    ap (λ (x : List ℕ). x ++ encode_lower back) put ∙ append_assoc a (encode_lower front) (encode_lower back)
    ∙ ap (λ (x : List ℕ). a ++ x) (sym (encode-append front back))
    ∙ ap (λ (x : List ℕ). a ++ encode_lower (x ++ back)) front_is
    ∙ ap (λ (x : List ℕ). a ++ encode_lower (take n rest ++ x)) back_is
    ∙ ap (λ (x : List ℕ). a ++ encode_lower x) (take-append-drop n rest)

-- nothing is left
pub put-done : (a rest all : List ℕ) → length rest ≡ 0 → a ++ encode_lower rest ≡ all → a ≡ all
unfolding encode_with
put-done a [] all none put = sym (append-nil a) ∙ put
put-done a (b ∷ rest) all none put = absurd (omega (arith, none))
