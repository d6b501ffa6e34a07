-- How a line is cut into words at its blanks.
use Rattle.std.specs.Prelude.{ℕ, ◌==◌, ◌&&◌, not, Bool, true, List, [], ◌∷◌, cond, length, Option, Some, None}

-- what stands before the first blank
abbrev pub first_word : List ℕ → List ℕ
first_word [] = []
first_word (c ∷ cs) = cond (c == 32) [] (c ∷ first_word cs)

-- what is left from the first blank on
abbrev pub rest_of_words : List ℕ → List ℕ
rest_of_words [] = []
rest_of_words (c ∷ cs) = cond (c == 32) (c ∷ cs) (rest_of_words cs)

abbrev pub no_blank : List ℕ → Bool
no_blank [] = true
no_blank (c ∷ cs) = not (c == 32) && no_blank cs

-- how many bytes are left; none where a word was refused
abbrev pub left : Option (List ℕ) → ℕ
left None = 0
left (Some bytes) = length bytes
