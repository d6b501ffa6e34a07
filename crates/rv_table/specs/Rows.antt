-- Rows of the table, the words that they match, and the test that no word is matched by two.
use Rattle.std.specs.Prelude.{◌≡◌, ℕ, Bool, true, false, List, [], ◌∷◌, bit_and, cond, nat_eq, slice_index_or}
use Rattle.rv_table.specs.declared.row.Row.{Row}
use Rattle.rv_table.specs.declared.row.Format.TheVariants.{Whole}
use Rattle.rv_table.specs.declared.row.Name.TheVariants.{Ecall}
use Rattle.rv_table.specs.declared.table.TheConstants.{TABLE}

-- a word matches a row
abbrev pub Matches : Row → ℕ → Type 0
Matches r w = bit_and w r.mask ≡ r.matched

-- a row that no word matches
abbrev pub no_row : Row
no_row = record { mask = 0; matched = 1; format = Whole; name = Ecall }

abbrev pub row_in : List Row → ℕ → Row
row_in rows k = slice_index_or rows k no_row

abbrev pub row_at : ℕ → Row
row_at k = row_in TABLE.rows k

-- two rows differ at a bit that both masks hold
abbrev pub apart : Row → Row → Bool
apart a b = cond (nat_eq (bit_and a.matched b.mask) (bit_and b.matched a.mask)) false true

abbrev pub apart_from : Row → List Row → Bool
apart_from a [] = true
apart_from a (b ∷ rest) = cond (apart a b) (apart_from a rest) false

-- each two of the rows differ so
abbrev pub all_apart : List Row → Bool
all_apart [] = true
all_apart (a ∷ rest) = cond (apart_from a rest) (all_apart rest) false

-- no row of the list matches the word
abbrev pub NoneIn : List Row → ℕ → Type 0
NoneIn [] w = Unit
NoneIn (r ∷ rest) w = (Matches r w → ⊥) × NoneIn rest w
