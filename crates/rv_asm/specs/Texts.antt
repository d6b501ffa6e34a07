-- The parts of a line.
use Rattle.std.specs.Prelude.{ℕ, ◌==◌, ◌||◌, ◌&&◌, Bool, true, false, List, [], ◌∷◌, cond, nat_le, map}
use Rattle.cos_text.specs.Lines.{begun_with}

-- a blank is a space or a tab
abbrev pub is_blank : ℕ → Bool
is_blank c = (c == 32) || (c == 9)

-- what stands before the first blank
abbrev pub first_word : List ℕ → List ℕ
first_word [] = []
first_word (c ∷ cs) = cond (is_blank c) [] (c ∷ first_word cs)

-- what is left from the first blank on
abbrev pub rest_of_words : List ℕ → List ℕ
rest_of_words [] = []
rest_of_words (c ∷ cs) = cond (is_blank c) (c ∷ cs) (rest_of_words cs)

-- without the blanks at the front
abbrev pub trim_start : List ℕ → List ℕ
trim_start [] = []
trim_start (c ∷ cs) = cond (is_blank c) (trim_start cs) (c ∷ cs)

-- a byte before a list that is trimmed at its end
abbrev pub onto_trimmed : ℕ → List ℕ → List ℕ
onto_trimmed c [] = cond (is_blank c) [] (c ∷ [])
onto_trimmed c (d ∷ ds) = c ∷ d ∷ ds

-- without the blanks at the end
abbrev pub trim_end : List ℕ → List ℕ
trim_end [] = []
trim_end (c ∷ cs) = onto_trimmed c (trim_end cs)

-- without the blanks at both ends
abbrev pub trim : List ℕ → List ℕ
trim text = trim_end (trim_start text)

-- the pieces between commas
abbrev pub between_commas : List ℕ → List (List ℕ)
between_commas [] = [] ∷ []
between_commas (c ∷ cs) = cond (c == 44) ([] ∷ between_commas cs) (begun_with c (between_commas cs))

-- the operands of a text: none where it is empty
abbrev pub operands_in : List ℕ → List (List ℕ)
operands_in [] = []
operands_in (c ∷ cs) = map trim (between_commas (c ∷ cs))

abbrev pub is_lower : ℕ → Bool
is_lower c = nat_le 97 c && nat_le c 122

-- a lower-case letter, a digit or an underscore
abbrev pub is_name_byte : ℕ → Bool
is_name_byte c = is_lower c || (nat_le 48 c && nat_le c 57) || (c == 95)

abbrev pub are_name_bytes : List ℕ → Bool
are_name_bytes [] = true
are_name_bytes (c ∷ cs) = is_name_byte c && are_name_bytes cs

-- a name: it begins with a letter
abbrev pub is_name : List ℕ → Bool
is_name [] = false
is_name (c ∷ cs) = is_lower c && are_name_bytes cs

-- the form of a mnemonic: a name, or a name after a full stop
abbrev pub is_mnemonic : List ℕ → Bool
is_mnemonic [] = false
is_mnemonic (c ∷ cs) = cond (c == 46) (is_name cs) (is_name (c ∷ cs))
