-- The lines of a text, and what stands round a byte.
use Rattle.std.specs.Prelude.{ℕ, ◌==◌, List, [], ◌∷◌, Option, Some, None, cond}

-- pieces, where one more byte stands before the first of them
abbrev pub begun_with : ℕ → List (List ℕ) → List (List ℕ)
begun_with c [] = (c ∷ []) ∷ []
begun_with c (piece ∷ pieces) = (c ∷ piece) ∷ pieces

-- the lines of a text: each ends with a line feed, which the last one may lack
abbrev pub lines : List ℕ → List (List ℕ)
lines [] = []
lines (c ∷ cs) = cond (c == 10) ([] ∷ lines cs) (begun_with c (lines cs))

-- what stands before the first byte of this value, which is all where there is none
abbrev pub before : ℕ → List ℕ → List ℕ
before value [] = []
before value (c ∷ cs) = cond (c == value) [] (c ∷ before value cs)

-- what stands after it
abbrev pub after : ℕ → List ℕ → Option (List ℕ)
after value [] = None
after value (c ∷ cs) = cond (c == value) (Some cs) (after value cs)
