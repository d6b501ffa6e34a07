-- Images: words as bytes, and bytes as words.
use Rattle.std.specs.Prelude.{ℕ, List, [], ◌∷◌}
use Rattle.std.specs.List.{flat_map}
use Rattle.std.specs.Int.{w32, to_le_bytes, from_le_bytes}

-- the bytes of words, four a word, the lowest first
abbrev pub image_of : List ℕ → List ℕ
image_of words = flat_map (λ word. to_le_bytes w32 word) words

-- the words of bytes, four a word, the lowest first; up to three bytes at the end are no word
abbrev pub words_of : List ℕ → List ℕ
words_of [] = []
words_of (a ∷ []) = []
words_of (a ∷ b ∷ []) = []
words_of (a ∷ b ∷ c ∷ []) = []
words_of (a ∷ b ∷ c ∷ d ∷ rest) = from_le_bytes w32 (a ∷ b ∷ c ∷ d ∷ []) ∷ words_of rest
