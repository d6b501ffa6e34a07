-- The line of a word assembles to the word.
use Rattle.std.proofs.Common.{◌≡◌, ℕ, ◌^◌, ◌<◌, Bool, true, false, List, [], ◌∷◌, ◌++◌, map, Option, Some, None, Result, Ok, codes, refl, ap, sym, subst, ◌∙◌, arith}
use Rattle.std.specs.Str.{bytes_eq}
use Rattle.std.proofs.lemmas.List.{append-nil}
use Rattle.std.proofs.lemmas.Bool.{cond-false}
use Rattle.rv_table.specs.declared.instr.Instr.{Instr}
use Rattle.rv_table.specs.declared.row.Row.{Row}
use Rattle.rv_table.specs.declared.operands.Operands.{Operands}
use Rattle.rv_table.specs.declared.operands.Operands.TheVariants.{U as OfU, J as OfJ, I as OfI, B as OfB, S as OfS, Shift as OfShift, R as OfR, Fence as OfFence, Whole as OfWhole, Csr as OfCsr, CsrImmediate as OfCsrImmediate}
use Rattle.rv_table.specs.Coding.{number_of, operands, encoded, IsWithin, Decodes}
use Rattle.rv_table.specs.Named.{row_named}
use Rattle.rv_table.specs.Operands.{Fit, joined}
use Rattle.rv_table.specs.Rows.{row_at}
use Rattle.rv_table.proofs.Back.{format_own}
use Rattle.rv_asm.specs.declared.fault.Cause.{Cause}
use Rattle.rv_asm.specs.declared.listing.Operand.{Operand}
use Rattle.rv_asm.specs.declared.listing.Operand.TheVariants.{Register, Unsigned, Signed, Csr, Address}
use Rattle.rv_asm.specs.Programs.{Placed, program}
use Rattle.rv_asm.specs.Readings.{◌>>=◌}
use Rattle.rv_asm.specs.Forms.{is_addressed, by_format, operands_of}
use Rattle.rv_asm.specs.Statements.{Assembled, MeansWord, data_word, instruction, word_of_parts}
use Rattle.rv_asm.specs.Listings.{operand_text, more_operands, operand_list, written, instr_text, hex_digits, line_text}
use Rattle.rv_asm.proofs.Scans.{Sound}
use Rattle.rv_asm.proofs.OneLine.{spaced, behind, AllSound, one-line}
use Rattle.rv_asm.proofs.ReadNumbers.{decimal-sound, signed-sound, hex_text, hex-sound, hex-unsigned}
use Rattle.rv_asm.proofs.ReadOperands.{register-sound, address-sound, csr-read_back}
use Rattle.rv_asm.proofs.ReadFormats.{texts, operands-read}
use Rattle.rv_asm.proofs.NamedRows.{mnemonic, named, mnemonic-sound, mnemonic-data}

-- operands as they are listed are their texts, separated
spaced-listed : (os : List Operand) → more_operands os ≡ spaced (map operand_text os)
spaced-listed [] = refl
spaced-listed (o ∷ os) = ap (λ x. 44 ∷ 32 ∷ operand_text o ++ x) (spaced-listed os)

behind-listed : (os : List Operand) → operand_list os ≡ behind (map operand_text os)
behind-listed [] = refl
behind-listed (o ∷ os) = ap (λ x. 32 ∷ operand_text o ++ x) (spaced-listed os)

-- numbers that have a text
abbrev InRange : Operand → Type 0
InRange (Register n) = n < 2 ^ 32
InRange (Unsigned n) = n < 2 ^ 32
InRange (Signed n) = n < 2 ^ 32
InRange (Csr n) = n < 2 ^ 12
InRange (Address base offset) = (base < 2 ^ 32) × (offset < 2 ^ 32)

abbrev AllInRange : List Operand → Type 0
AllInRange [] = Unit
AllInRange (o ∷ os) = InRange o × AllInRange os

sound : (o : Operand) → InRange o → Sound (operand_text o)
sound (Register n) h = register-sound n (omega arith)
sound (Unsigned n) h = decimal-sound n (omega arith)
sound (Signed n) h = signed-sound n h
sound (Csr n) h = (csr-read_back n h).1
sound (Address base offset) h = address-sound base offset h.0 h.1

all-sound : (os : List Operand) → AllInRange os → AllSound (map operand_text os)
all-sound [] h = tt
all-sound (o ∷ os) h = (sound o h.0, all-sound os h.1)

in-range : (addressed : Bool) (o : Operands) → Fit o → AllInRange (written addressed o)
in-range true (OfU rd imm) h = (omega arith, (omega arith, tt))
in-range false (OfU rd imm) h = (omega arith, (omega arith, tt))
in-range true (OfJ rd imm) h = (omega arith, (omega arith, tt))
in-range false (OfJ rd imm) h = (omega arith, (omega arith, tt))
in-range true (OfI rd rs1 imm) h = (omega arith, ((omega arith, omega arith), tt))
in-range false (OfI rd rs1 imm) h = (omega arith, (omega arith, (omega arith, tt)))
in-range true (OfB rs1 rs2 imm) h = (omega arith, (omega arith, (omega arith, tt)))
in-range false (OfB rs1 rs2 imm) h = (omega arith, (omega arith, (omega arith, tt)))
in-range true (OfS rs1 rs2 imm) h = (omega arith, ((omega arith, omega arith), tt))
in-range false (OfS rs1 rs2 imm) h = (omega arith, ((omega arith, omega arith), tt))
in-range true (OfShift rd rs1 shamt) h = (omega arith, (omega arith, (omega arith, tt)))
in-range false (OfShift rd rs1 shamt) h = (omega arith, (omega arith, (omega arith, tt)))
in-range true (OfR rd rs1 rs2) h = (omega arith, (omega arith, (omega arith, tt)))
in-range false (OfR rd rs1 rs2) h = (omega arith, (omega arith, (omega arith, tt)))
in-range true (OfFence rd rs1 imm) h = (omega arith, (omega arith, (omega arith, tt)))
in-range false (OfFence rd rs1 imm) h = (omega arith, (omega arith, (omega arith, tt)))
in-range true OfWhole h = tt
in-range false OfWhole h = tt
in-range true (OfCsr rd rs1 csr) h = (omega arith, (omega arith, (omega arith, tt)))
in-range false (OfCsr rd rs1 csr) h = (omega arith, (omega arith, (omega arith, tt)))
in-range true (OfCsrImmediate rd uimm csr) h = (omega arith, (omega arith, (omega arith, tt)))
in-range false (OfCsrImmediate rd uimm csr) h = (omega arith, (omega arith, (omega arith, tt)))

-- the word of an instruction, from its mnemonic and its operands
abbrev instr_texts : Instr → List (List ℕ)
instr_texts i = texts (is_addressed (row_at (number_of i))) (operands i)

instr-operands : (i : Instr) (all : List Placed) (source : ℕ) → IsWithin i → operands_of (row_at (number_of i)) all source (instr_texts i) ≡ Ok (operands i)
instr-operands i all source h =
    let addressed : Bool = is_addressed (row_at (number_of i)) in
    ap (λ f. by_format f addressed all source (instr_texts i)) (format_own i) ∙ operands-read addressed all source (operands i) h

instr-word : (i : Instr) (all : List Placed) (source : ℕ) → IsWithin i → word_of_parts all source (mnemonic i) (instr_texts i) ≡ Ok (encoded i)
instr-word i all source h =
    let row : Row = row_at (number_of i) in
    cond-false (bytes_eq (mnemonic i) (codes ".word")) (data_word (instr_texts i)) (instruction (mnemonic i) (row_named (mnemonic i)) all source (instr_texts i)) (mnemonic-data i)
    ∙ ap (λ o. instruction (mnemonic i) o all source (instr_texts i)) (named i)
    ∙ ap (λ (r : Result Operands Cause). r >>= (λ o. Ok (joined row.matched o))) (instr-operands i all source h)

instr-means : (i : Instr) → IsWithin i → MeansWord (instr_text i ++ 10 ∷ []) (encoded i)
instr-means i h = λ origin.
    let os : List Operand = written (is_addressed (row_at (number_of i))) (operands i) in
    let P : List ℕ → Type 0 = λ rest. Assembled (program origin (mnemonic i ++ rest ++ 10 ∷ [])) (Ok (encoded i ∷ [])) in
    subst P (sym (behind-listed os)) (one-line (mnemonic i) (instr_texts i) (encoded i) origin (mnemonic-sound i) (all-sound os (in-range (is_addressed (row_at (number_of i))) (operands i) h)) (λ all. instr-word i all origin h))

data-word : (word : ℕ) (all : List Placed) (source : ℕ) → word < 2 ^ 32 → word_of_parts all source (codes ".word") (hex_text word ∷ []) ≡ Ok word
data-word word all source h = let e = hex-unsigned word h in rw e

data-sound : Sound (codes ".word")
data-sound = record { solid = refl; starts_inked = refl }

data-means : (word : ℕ) → word < 2 ^ 32 → MeansWord (codes ".word 0x" ++ hex_digits 8 word ++ 10 ∷ []) word
data-means word h = λ origin.
    let P : List ℕ → Type 0 = λ ds. Assembled (program origin (codes ".word 0x" ++ ds ++ 10 ∷ [])) (Ok (word ∷ [])) in
    subst P (append-nil (hex_digits 8 word)) (one-line (codes ".word") (hex_text word ∷ []) word origin data-sound (hex-sound word h, tt) (λ all. data-word word all origin h))

pub line-means : (word : ℕ) (o : Option Instr) → word < 2 ^ 32 → Decodes word o → MeansWord (line_text word o) word
line-means word None h d = data-means word h
line-means word (Some i) h d = let P : ℕ → Type 0 = λ w. MeansWord (line_text word (Some i)) w in subst P d.2 (instr-means i d.1)
