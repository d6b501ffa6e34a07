-- The first line of a text and the rest of it.
use Rattle.std.proofs.Common.{◌≡◌, ℕ, ◌+◌, ◌==◌, ◌≤◌, Bool, true, false, List, [], ◌∷◌, Option, Some, None, unwrap_or, length, cond, refl, ap, ◌∙◌, arith}
use Rattle.cos_text.specs.Lines.{lines, begun_with, before, after}

lines-at : (b : Bool) (c : ℕ) (cs : List ℕ) → lines cs ≡ before 10 cs ∷ lines (unwrap_or (after 10 cs) []) → cond b ([] ∷ lines cs) (begun_with c (lines cs)) ≡ cond b [] (c ∷ before 10 cs) ∷ lines (unwrap_or (cond b (Some cs) (after 10 cs)) [])
lines-at true c cs e = refl
lines-at false c cs e = ap (begun_with c) e

lines-last : (b : Bool) (c : ℕ) → cond b ([] ∷ []) ((c ∷ []) ∷ []) ≡ cond b [] (c ∷ []) ∷ lines (unwrap_or (cond b (Some []) None) [])
lines-last true c = refl
lines-last false c = refl

-- a text that isn't empty begins with what stands before its first line feed
pub lines-step : (xs : List ℕ) → 1 ≤ length xs → lines xs ≡ before 10 xs ∷ lines (unwrap_or (after 10 xs) [])
lines-step [] h = absurd (omega arith)
lines-step (c ∷ []) h = lines-last (c == 10) c
lines-step (c ∷ d ∷ ds) h = lines-at (c == 10) c (d ∷ ds) (lines-step (d ∷ ds) (omega arith))

after-at : (b : Bool) (cs : List ℕ) (o : Option (List ℕ)) → length (unwrap_or o []) ≤ length cs → length (unwrap_or (cond b (Some cs) o) []) ≤ length cs
after-at true cs o h = omega arith
after-at false cs o h = h

after-le : (value : ℕ) (cs : List ℕ) → length (unwrap_or (after value cs) []) ≤ length cs
after-le value [] = omega arith
after-le value (c ∷ cs) = omega (arith, after-at (c == value) cs (after value cs) (after-le value cs))

-- what stands after a byte is shorter
after-lt : (value : ℕ) (xs : List ℕ) → 1 ≤ length xs → length (unwrap_or (after value xs) []) + 1 ≤ length xs
after-lt value [] h = absurd (omega arith)
after-lt value (c ∷ cs) h = omega (arith, after-at (c == value) cs (after value cs) (after-le value cs))

pub lines-with : (xs rest : List ℕ) → 1 ≤ length xs → after 10 xs ≡ Some rest → lines xs ≡ before 10 xs ∷ lines rest
lines-with xs rest h e = lines-step xs h ∙ ap (λ o. before 10 xs ∷ lines (unwrap_or o [])) e

pub lines-alone : (xs : List ℕ) → 1 ≤ length xs → after 10 xs ≡ None → lines xs ≡ before 10 xs ∷ []
lines-alone xs h e = lines-step xs h ∙ ap (λ o. before 10 xs ∷ lines (unwrap_or o [])) e

pub after-shorter : (value : ℕ) (xs rest : List ℕ) → 1 ≤ length xs → after value xs ≡ Some rest → length rest + 1 ≤ length xs
after-shorter value xs rest h e = omega (arith, after-lt value xs h, ap (λ o. length (unwrap_or o [])) e)
