-- Each row of the table is found by its mnemonic, which is sound and isn't that of a data word.
use Rattle.std.proofs.Common.{◌≡◌, ℕ, ◌<◌, zero, suc, Bool, true, false, List, [], ◌∷◌, length, Some, not, ◌&&◌, codes, refl, ◌∙◌, arith}
use Rattle.std.specs.Str.{bytes_eq}
use Rattle.std.proofs.lemmas.Bool.{and_parts, not-true, cond-true, cond-false}
use Rattle.std.proofs.lemmas.Slice.Eq.{bytes_eq-Decides}
use Rattle.rv_table.specs.declared.instr.Instr.{Instr}
use Rattle.rv_table.specs.declared.row.Row.{Row}
use Rattle.rv_table.specs.declared.table.TheConstants.{TABLE}
use Rattle.rv_table.specs.Coding.{number_of}
use Rattle.rv_table.specs.Names.{text_of}
use Rattle.rv_table.specs.Named.{first_named, row_named}
use Rattle.rv_table.specs.Rows.{row_in, row_at}
use Rattle.rv_table.proofs.Back.{number_below}
use Rattle.rv_asm.proofs.Scans.{all_are, is_solid, starts, Sound}

-- a mnemonic that fits a line and isn't .word
abbrev fits : Row → Bool
fits r = all_are is_solid (text_of r.name) && (starts (text_of r.name) && not (bytes_eq (text_of r.name) (codes ".word")))

-- no row of the list has the mnemonic of this one
abbrev unlike : Row → List Row → Bool
unlike a [] = true
unlike a (b ∷ rest) = not (bytes_eq (text_of a.name) (text_of b.name)) && unlike a rest

abbrev all_fit : List Row → Bool
all_fit [] = true
all_fit (a ∷ rest) = (fits a && unlike a rest) && all_fit rest

-- computed: each row, and each pair of rows
table_fits : all_fit TABLE.rows ≡ true
table_fits = refl

first-unlike : (a : Row) (rest : List Row) (k : ℕ) → unlike a rest ≡ true → k < length rest → bytes_eq (text_of a.name) (text_of (row_in rest k).name) ≡ false
first-unlike a [] k h within = absurd (omega arith)
first-unlike a (b ∷ rest) zero h within =
    not-true (bytes_eq (text_of a.name) (text_of b.name)) (and_parts (not (bytes_eq (text_of a.name) (text_of b.name))) (unlike a rest) h).0
first-unlike a (b ∷ rest) (suc k) h within =
    first-unlike a rest k (and_parts (not (bytes_eq (text_of a.name) (text_of b.name))) (unlike a rest) h).1 (omega arith)

found-at : (rows : List Row) (k : ℕ) → all_fit rows ≡ true → k < length rows → first_named (text_of (row_in rows k).name) rows ≡ Some (row_in rows k)
found-at [] k h within = absurd (omega arith)
found-at (a ∷ rest) zero h within =
    cond-true (bytes_eq (text_of a.name) (text_of a.name)) (Some a) (first_named (text_of a.name) rest) ((bytes_eq-Decides (text_of a.name) (text_of a.name)).1 refl)
found-at (a ∷ rest) (suc k) h within =
    let both = and_parts (fits a && unlike a rest) (all_fit rest) h in
    let name : List ℕ = text_of (row_in rest k).name in
    cond-false (bytes_eq (text_of a.name) name) (Some a) (first_named name rest) (first-unlike a rest k (and_parts (fits a) (unlike a rest) both.0).1 (omega arith))
    ∙ found-at rest k both.1 (omega arith)

fits-at : (rows : List Row) (k : ℕ) → all_fit rows ≡ true → k < length rows → fits (row_in rows k) ≡ true
fits-at [] k h within = absurd (omega arith)
fits-at (a ∷ rest) zero h within =
    let both = and_parts (fits a && unlike a rest) (all_fit rest) h in (and_parts (fits a) (unlike a rest) both.0).0
fits-at (a ∷ rest) (suc k) h within =
    let both = and_parts (fits a && unlike a rest) (all_fit rest) h in fits-at rest k both.1 (omega arith)

-- the mnemonic of an instruction
abbrev pub mnemonic : Instr → List ℕ
mnemonic i = text_of (row_at (number_of i)).name

pub named : (i : Instr) → row_named (mnemonic i) ≡ Some (row_at (number_of i))
unfolding row_named
named i = found-at TABLE.rows (number_of i) table_fits (number_below i)

pub mnemonic-sound : (i : Instr) → Sound (mnemonic i)
mnemonic-sound i =
    let solid = and_parts (all_are is_solid (mnemonic i)) (starts (mnemonic i) && not (bytes_eq (mnemonic i) (codes ".word"))) (fits-at TABLE.rows (number_of i) table_fits (number_below i)) in
    let begun = and_parts (starts (mnemonic i)) (not (bytes_eq (mnemonic i) (codes ".word"))) solid.1 in
    record { solid = solid.0; starts_inked = begun.0 }

pub mnemonic-data : (i : Instr) → bytes_eq (mnemonic i) (codes ".word") ≡ false
mnemonic-data i =
    let solid = and_parts (all_are is_solid (mnemonic i)) (starts (mnemonic i) && not (bytes_eq (mnemonic i) (codes ".word"))) (fits-at TABLE.rows (number_of i) table_fits (number_below i)) in
    let begun = and_parts (starts (mnemonic i)) (not (bytes_eq (mnemonic i) (codes ".word"))) solid.1 in
    not-true (bytes_eq (mnemonic i) (codes ".word")) begun.1
