-- Parts of a text, step by step.
use Rattle.std.proofs.Common.{◌≡◌, ℕ, ◌+◌, ◌-◌, ◌≤◌, true, false, List, [], ◌∷◌, ◌++◌, length, take, get_or, refl, ap, sym, ◌∙◌, arith}
use Rattle.std.proofs.lemmas.List.{take_more}
use Rattle.std.proofs.Math.Seq.{take-length}
use Rattle.rv_asm.specs.Texts.{is_blank, onto_trimmed, trim_end}

-- a blank at the end goes, and another byte stays
pub trim_end-push : (xs : List ℕ) (c : ℕ) → is_blank c ≡ true → trim_end (xs ++ c ∷ []) ≡ trim_end xs
trim_end-push [] c h = rw h refl
trim_end-push (x ∷ xs) c h = ap (onto_trimmed x) (trim_end-push xs c h)

onto-kept : (x : ℕ) (xs : List ℕ) (c : ℕ) → onto_trimmed x (xs ++ c ∷ []) ≡ x ∷ xs ++ c ∷ []
onto-kept x [] c = refl
onto-kept x (y ∷ ys) c = refl

pub trim_end-keep : (xs : List ℕ) (c : ℕ) → is_blank c ≡ false → trim_end (xs ++ c ∷ []) ≡ xs ++ c ∷ []
trim_end-keep [] c h = rw h refl
trim_end-keep (x ∷ xs) c h = ap (onto_trimmed x) (trim_end-keep xs c h) ∙ onto-kept x xs c

-- a list that isn't empty is its front and its last item
last-split : (xs : List ℕ) → 1 ≤ length xs → xs ≡ take (length xs - 1) xs ++ get_or xs (length xs - 1) 0 ∷ []
last-split xs h =
    let more : take (length xs - 1 + 1) xs ≡ take (length xs - 1) xs ++ get_or xs (length xs - 1) 0 ∷ [] = take_more xs (length xs - 1) 0 (omega arith) in
    let same : length xs - 1 + 1 ≡ length xs = omega arith in
    sym (take-length xs) ∙ ap (λ n. take n xs) (sym same) ∙ more

pub trim_end-blank_last : (xs : List ℕ) → 1 ≤ length xs → true ≡ is_blank (get_or xs (length xs - 1) 0) → trim_end (take (length xs - 1) xs) ≡ trim_end xs
trim_end-blank_last xs h b = sym (trim_end-push (take (length xs - 1) xs) (get_or xs (length xs - 1) 0) (sym b)) ∙ ap trim_end (sym (last-split xs h))

pub trim_end-kept_last : (xs : List ℕ) → 1 ≤ length xs → false ≡ is_blank (get_or xs (length xs - 1) 0) → trim_end xs ≡ xs
trim_end-kept_last xs h b = ap trim_end (last-split xs h) ∙ trim_end-keep (take (length xs - 1) xs) (get_or xs (length xs - 1) 0) (sym b) ∙ sym (last-split xs h)
