-- A text is cut at its first blank.
use Rattle.std.proofs.Common.{◌≡◌, ℕ, ◌==◌, Bool, true, false, not, cond, List, [], ◌∷◌, ◌++◌, refl, ap, ◌∙◌}
use Rattle.std.proofs.lemmas.Bool.{and_parts}
use Rattle.rp_text.specs.Texts.{spaced}
use Rattle.rp_text.specs.Words.{first_word, rest_of_words, no_blank}

whole-at : (t : Bool) (c : ℕ) (cs : List ℕ) → first_word cs ++ rest_of_words cs ≡ cs → cond t [] (c ∷ first_word cs) ++ cond t (c ∷ cs) (rest_of_words cs) ≡ c ∷ cs
whole-at true c cs rest = refl
whole-at false c cs rest = ap (λ (x : List ℕ). c ∷ x) rest

pub whole : (text : List ℕ) → first_word text ++ rest_of_words text ≡ text
whole [] = refl
whole (c ∷ cs) = whole-at (c == 32) c cs (whole cs)

pub record IsCut (w rest text : List ℕ) : Type 0 where
  pub front : first_word text ≡ w
  pub back : rest_of_words text ≡ rest

cut-none : (ws : List (List ℕ)) → IsCut [] (spaced ws) (spaced ws)
cut-none [] = record { front = refl; back = refl }
cut-none (w ∷ ws) = record { front = refl; back = refl }

cut-more : (t : Bool) (c : ℕ) (cs rest text : List ℕ) → not t ≡ true → IsCut cs rest text → (cond t [] (c ∷ first_word text) ≡ c ∷ cs) × (cond t (c ∷ text) (rest_of_words text) ≡ rest)
cut-more true c cs rest text other cut = absurd (cc (other))
cut-more false c cs rest text other cut = (ap (λ (x : List ℕ). c ∷ x) cut.front, cut.back)

-- a word without blanks is what stands before the first blank
pub cut-word : (w : List ℕ) (ws : List (List ℕ)) → no_blank w ≡ true → IsCut w (spaced ws) (w ++ spaced ws)
cut-word [] ws none = cut-none ws
cut-word (c ∷ cs) ws none =
    let parts = and_parts (not (c == 32)) (no_blank cs) none in
    let both = cut-more (c == 32) c cs (spaced ws) (cs ++ spaced ws) parts.0 (cut-word cs ws parts.1) in
    record { front = both.0; back = both.1 }

pub cut-of : (text w : List ℕ) (ws : List (List ℕ)) → no_blank w ≡ true → text ≡ w ++ spaced ws → (first_word text ≡ w) × (rest_of_words text ≡ spaced ws)
cut-of text w ws none is =
    let cut = cut-word w ws none in
    (ap first_word is ∙ cut.front, ap rest_of_words is ∙ cut.back)
