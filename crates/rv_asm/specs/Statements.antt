-- What statements, lines and whole texts assemble to.
use Rattle.std.specs.Prelude.{◌≡◌, ℕ, ◌==◌, Bool, false, List, [], ◌∷◌, ◌++◌, Option, Some, None, option_to_list, Result, Ok, Err, cond, codes, map, flat_map, slice_get, not}
use Rattle.std.specs.Str.{bytes_eq}
use Rattle.rv_table.specs.declared.row.Row.{Row}
use Rattle.rv_table.specs.Named.{row_named}
use Rattle.rv_table.specs.Operands.{joined}
use Rattle.rv_asm.specs.declared.fault.AsmFault.{AsmFault}
use Rattle.rv_asm.specs.declared.fault.AsmFault.TheVariants.{Line, NoMemory}
use Rattle.rv_asm.specs.declared.fault.Cause.{Cause}
use Rattle.rv_asm.specs.declared.fault.Cause.TheVariants.{Syntax, Name, Twice}
use Rattle.rv_asm.specs.Texts.{first_word, rest_of_words, trim, operands_in, is_mnemonic}
use Rattle.rv_asm.specs.Numbers.{plain}
use Rattle.rv_asm.specs.Programs.{Placed, program, first_with}
use Rattle.rv_asm.specs.Readings.{◌>>=◌, read}
use Rattle.rv_asm.specs.Forms.{exactly, operands_of}

-- .word N
abbrev pub data_word : List (List ℕ) → Result ℕ Cause
data_word ops = do
  n ← read (plain 0 0xffffffff) (slice_get ops 0)
  done ← exactly 1 ops
  Ok n

-- an instruction: the row that has the mnemonic, with its operands
abbrev pub instruction : List ℕ → Option Row → List Placed → ℕ → List (List ℕ) → Result ℕ Cause
instruction mnemonic None lines source ops = Err (cond (is_mnemonic mnemonic) Name Syntax)
instruction mnemonic (Some row) lines source ops = do
  o ← operands_of row lines source ops
  Ok (joined row.matched o)

abbrev pub word_of_parts : List Placed → ℕ → List ℕ → List (List ℕ) → Result ℕ Cause
word_of_parts lines source mnemonic ops =
    cond (bytes_eq mnemonic (codes ".word")) (data_word ops)
    (instruction mnemonic (row_named mnemonic) lines source ops)

-- the word of a statement in a line at some address of the program
abbrev pub word_of_statement : List Placed → ℕ → List ℕ → Result ℕ Cause
word_of_statement lines source statement =
    word_of_parts lines source (first_word statement) (operands_in (trim (rest_of_words statement)))

-- the first line that gives a label has another number
abbrev pub is_other : Option Placed → ℕ → Bool
is_other None number = false
is_other (Some first) number = not (first.number == number)

-- the label of a line was given before
abbrev pub is_twice : List Placed → Option (List ℕ) → ℕ → Bool
is_twice lines None number = false
is_twice lines (Some name) number = is_other (first_with name lines) number

abbrev pub word_if_any : List Placed → ℕ → List ℕ → Result (Option ℕ) Cause
word_if_any lines source [] = Ok None
word_if_any lines source (c ∷ cs) = do
  word ← word_of_statement lines source (c ∷ cs)
  Ok (Some word)

-- the word of a line of a program, if it has a statement, or what is first wrong with the line
abbrev pub word_of_line : List Placed → Placed → Result (Option ℕ) Cause
word_of_line lines line =
    cond (is_twice lines line.label line.number) (Err Twice) (word_if_any lines line.address line.statement)

-- these lines of a program are sound, and have these words, in order
abbrev pub Assembles : List Placed → List Placed → List ℕ → Type 0
Assembles lines some words = (each : List (Option ℕ)) × (map (word_of_line lines) some ≡ map Ok each)
    × (words ≡ flat_map option_to_list each)

-- the line of this number is the first that isn't sound
abbrev pub FirstFault : List Placed → ℕ → Cause → Type 0
FirstFault lines number cause =
    (before : List Placed) × (line : Placed) × (after : List Placed) × (words : List ℕ)
    × (lines ≡ before ++ line ∷ after) × Assembles lines before words × (line.number ≡ number)
    × (word_of_line lines line ≡ Err cause)

-- what a program assembles to
abbrev pub Assembled : List Placed → Result (List ℕ) AsmFault → Type 0
Assembled lines (Ok words) = Assembles lines lines words
Assembled lines (Err (Line number cause)) = FirstFault lines number cause
Assembled lines (Err NoMemory) = Unit

-- wherever its first word lies, the text assembles to this word alone
abbrev pub MeansWord : List ℕ → ℕ → Type 0
MeansWord text word = (origin : ℕ) → Assembled (program origin text) (Ok (word ∷ []))
