-- Words that are put one behind the other.
use Rattle.std.proofs.Common.{◌≡◌, ℕ, ◌+◌, ◌<◌, List, [], ◌∷◌, ◌++◌, length, get_or, drop, map, decimal, refl, sym, ap, ◌∙◌, arith, add-one, append_assoc}
use Rattle.std.proofs.Math.Seq.{drop-cons}
use Rattle.std.proofs.lemmas.List.{append-nil}
use Rattle.rp_text.specs.Texts.{spaced, bytes_text}

pub put-word : (a b c w : List ℕ) (ws : List (List ℕ)) → b ≡ a ++ (32 ∷ w) → c ≡ b ++ spaced ws → c ≡ a ++ spaced (w ∷ ws)
put-word a b c w ws first rest = rest ∙ ap (λ (x : List ℕ). x ++ spaced ws) first ∙ append_assoc a (32 ∷ w) (spaced ws)

pub put-last : (a b w : List ℕ) → b ≡ a ++ (32 ∷ w) → b ≡ a ++ spaced (w ∷ [])
put-last a b w first = first ∙ ap (λ (x : List ℕ). a ++ (32 ∷ x)) (sym (append-nil w))

pub same-number : (a b : List ℕ) (n m : ℕ) → n ≡ m → b ≡ a ++ (32 ∷ decimal n) → b ≡ a ++ (32 ∷ decimal m)
same-number a b n m same put = put ∙ ap (λ (x : ℕ). a ++ (32 ∷ decimal x)) same

pub same-bytes : (a b xs ys : List ℕ) → xs ≡ ys → b ≡ a ++ (32 ∷ bytes_text xs) → b ≡ a ++ (32 ∷ bytes_text ys)
same-bytes a b xs ys same put = put ∙ ap (λ (x : List ℕ). a ++ (32 ∷ bytes_text x)) same

pub put-nine : (o0 o1 o2 o3 o4 o5 o6 o7 o8 o9 w1 w2 w3 w4 w5 w6 w7 w8 w9 : List ℕ) → o1 ≡ o0 ++ (32 ∷ w1) → o2 ≡ o1 ++ (32 ∷ w2) → o3 ≡ o2 ++ (32 ∷ w3) → o4 ≡ o3 ++ (32 ∷ w4) → o5 ≡ o4 ++ (32 ∷ w5) → o6 ≡ o5 ++ (32 ∷ w6) → o7 ≡ o6 ++ (32 ∷ w7) → o8 ≡ o7 ++ (32 ∷ w8) → o9 ≡ o8 ++ (32 ∷ w9) → o9 ≡ o0 ++ spaced (w1 ∷ w2 ∷ w3 ∷ w4 ∷ w5 ∷ w6 ∷ w7 ∷ w8 ∷ w9 ∷ [])
put-nine o0 o1 o2 o3 o4 o5 o6 o7 o8 o9 w1 w2 w3 w4 w5 w6 w7 w8 w9 e1 e2 e3 e4 e5 e6 e7 e8 e9 =
    put-word o0 o1 o9 w1 (w2 ∷ w3 ∷ w4 ∷ w5 ∷ w6 ∷ w7 ∷ w8 ∷ w9 ∷ []) e1 (put-word o1 o2 o9 w2 (w3 ∷ w4 ∷ w5 ∷ w6 ∷ w7 ∷ w8 ∷ w9 ∷ []) e2 (put-word o2 o3 o9 w3 (w4 ∷ w5 ∷ w6 ∷ w7 ∷ w8 ∷ w9 ∷ []) e3 (put-word o3 o4 o9 w4 (w5 ∷ w6 ∷ w7 ∷ w8 ∷ w9 ∷ []) e4 (put-word o4 o5 o9 w5 (w6 ∷ w7 ∷ w8 ∷ w9 ∷ []) e5 (put-word o5 o6 o9 w6 (w7 ∷ w8 ∷ w9 ∷ []) e6 (put-word o6 o7 o9 w7 (w8 ∷ w9 ∷ []) e7 (put-word o7 o8 o9 w8 (w9 ∷ []) e8 (put-last o8 o9 w9 e9))))))))

-- one more number of a list
pub put-number : (a b : List ℕ) (ns : List ℕ) (i : ℕ) → i < length ns → b ≡ a ++ (32 ∷ decimal (get_or ns i 0)) → b ++ spaced (map decimal (drop (i + 1) ns)) ≡ a ++ spaced (map decimal (drop i ns))
put-number a b ns i inside put =
    ap (λ (x : List ℕ). x ++ spaced (map decimal (drop (i + 1) ns))) put
    ∙ append_assoc a (32 ∷ decimal (get_or ns i 0)) (spaced (map decimal (drop (i + 1) ns)))
    ∙ ap (λ (n : ℕ). a ++ ((32 ∷ decimal (get_or ns i 0)) ++ spaced (map decimal (drop n ns)))) (add-one i)
    ∙ ap (λ (xs : List ℕ). a ++ spaced (map decimal xs)) (sym (drop-cons ns i 0 inside))
