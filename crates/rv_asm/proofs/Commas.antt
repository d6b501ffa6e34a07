-- The pieces between commas, one by one.
use Rattle.std.proofs.Common.{◌≡◌, ℕ, ◌+◌, ◌-◌, ◌<◌, ◌==◌, zero, suc, Bool, true, false, List, [], ◌∷◌, Option, Some, None, length, drop, get_or, cond, refl, ap, sym, ◌∙◌, arith}
use Rattle.std.specs.List.{slice_get}
use Rattle.std.proofs.lemmas.List.{at_drop_more}
use Rattle.cos_text.specs.Lines.{begun_with, before, after}
use Rattle.rv_asm.specs.Texts.{between_commas}

abbrev pub others : Option (List ℕ) → List (List ℕ)
others None = []
others (Some rest) = between_commas rest

between-at : (b : Bool) (c : ℕ) (cs : List ℕ) → between_commas cs ≡ before 44 cs ∷ others (after 44 cs) → cond b ([] ∷ between_commas cs) (begun_with c (between_commas cs)) ≡ cond b [] (c ∷ before 44 cs) ∷ others (cond b (Some cs) (after 44 cs))
between-at true c cs e = refl
between-at false c cs e = ap (begun_with c) e

-- the first piece, and those after the comma
pub between_commas-step : (xs : List ℕ) → between_commas xs ≡ before 44 xs ∷ others (after 44 xs)
between_commas-step [] = refl
between_commas-step (c ∷ cs) = between-at (c == 44) c cs (between_commas-step cs)

pub slice_get-first : (xs : List ℕ) → slice_get (between_commas xs) 0 ≡ Some (before 44 xs)
slice_get-first xs = ap (λ ps. slice_get ps 0) (between_commas-step xs)

pub slice_get-next : (xs rest : List ℕ) (left : ℕ) → 0 < left → after 44 xs ≡ Some rest → slice_get (between_commas xs) left ≡ slice_get (between_commas rest) (left - 1)
slice_get-next xs rest zero h e = absurd (omega arith)
slice_get-next xs rest (suc n) h e =
    ap (λ ps. slice_get ps (suc n)) (between_commas-step xs) ∙ ap (λ o. slice_get (others o) n) e ∙ ap (slice_get (between_commas rest)) (omega arith)

pub slice_get-last : (xs : List ℕ) (left : ℕ) → 0 < left → after 44 xs ≡ None → slice_get (between_commas xs) left ≡ None
slice_get-last xs zero h e = absurd (omega arith)
slice_get-last xs (suc n) h e = ap (λ ps. slice_get ps (suc n)) (between_commas-step xs) ∙ ap (λ o. slice_get (others o) n) e

length-begun : (c : ℕ) (xs : List ℕ) → length (begun_with c (between_commas xs)) ≡ length (between_commas xs)
length-begun c xs = ap (λ ps. length (begun_with c ps)) (between_commas-step xs) ∙ sym (ap length (between_commas-step xs))

-- a comma adds a piece, and another byte doesn't
length-comma : (b : Bool) (c : ℕ) (cs : List ℕ) → length (cond b ([] ∷ between_commas cs) (begun_with c (between_commas cs))) ≡ cond b 1 0 + length (between_commas cs)
length-comma true c cs = omega arith
length-comma false c cs = omega (arith, length-begun c cs)

pub length-drop_comma : (xs : List ℕ) (i : ℕ) → i < length xs → length (between_commas (drop i xs)) ≡ cond (get_or xs i 0 == 44) 1 0 + length (between_commas (drop (i + 1) xs))
length-drop_comma xs i h = at_drop_more (λ ys. length (between_commas ys)) xs i 0 h ∙ length-comma (get_or xs i 0 == 44) (get_or xs i 0) (drop (i + 1) xs)
