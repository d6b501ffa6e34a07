-- Programs: the lines of a text with their numbers and addresses, and where a label stands.
use Rattle.std.specs.Prelude.{ℕ, ◌+◌, List, [], ◌∷◌, Option, Some, None, cond}
use Rattle.std.specs.Str.{bytes_eq}
use Rattle.cos_text.specs.Lines.{lines, before, after}
use Rattle.rv_asm.specs.Texts.{trim, is_name}

-- a line: its number, counted from 1, the address of what it assembles to, and its parts
pub record Placed : Type 0 where
  pub number : ℕ
  pub address : ℕ
  pub label : Option (List ℕ)
  pub statement : List ℕ

-- a line without its comment, and without blanks at both ends
abbrev pub content : List ℕ → List ℕ
content line = trim (before 35 line)

-- the label of a line: the name that stands before its first colon
abbrev pub label_before : List ℕ → Option (List ℕ) → Option (List ℕ)
label_before front None = None
label_before front (Some rest) = cond (is_name front) (Some front) None

abbrev pub label_of : List ℕ → Option (List ℕ)
label_of text = label_before (before 58 text) (after 58 text)

-- its statement: what stands after the label, or all where there is none
abbrev pub statement_after : List ℕ → List ℕ → Option (List ℕ) → List ℕ
statement_after text front None = text
statement_after text front (Some rest) = cond (is_name front) (trim rest) text

abbrev pub statement_of : List ℕ → List ℕ
statement_of text = statement_after text (before 58 text) (after 58 text)

-- a statement takes four bytes, also a faulty one
abbrev pub size_of : List ℕ → ℕ
size_of [] = 0
size_of (c ∷ cs) = 4

abbrev pub placed : ℕ → ℕ → List ℕ → Placed
placed number address text =
    record { number = number; address = address; label = label_of text; statement = statement_of text }

-- lines from a number and an address on
abbrev pub placed_from : ℕ → ℕ → List (List ℕ) → List Placed
placed_from number address [] = []
placed_from number address (line ∷ rest) = placed number address (content line)
    ∷ placed_from (number + 1) (address + size_of (statement_of (content line))) rest

-- the program of a text whose first word lies at the origin
unfoldable pub program : ℕ → List ℕ → List Placed
program origin text = placed_from 1 origin (lines text)

-- the first line that gives a label, if one does
abbrev pub chosen : List ℕ → Option (List ℕ) → Placed → Option Placed → Option Placed
chosen name None line other = other
chosen name (Some label) line other = cond (bytes_eq label name) (Some line) other

abbrev pub first_with : List ℕ → List Placed → Option Placed
first_with name [] = None
first_with name (line ∷ rest) = chosen name line.label line (first_with name rest)
