-- Rows by their mnemonics, and the room that a row's match leaves for operands.
use Rattle.std.specs.Prelude.{ℕ, ◌<◌, List, [], ◌∷◌, Option, Some, None, cond}
use Rattle.std.specs.Str.{bytes_eq}
use Rattle.rv_table.specs.declared.row.Row.{Row}
use Rattle.rv_table.specs.declared.row.Format.{Format}
use Rattle.rv_table.specs.declared.row.Format.TheVariants.{U, J, I, B, S, Shift, R, Fence, Whole, Csr, CsrImmediate}
use Rattle.rv_table.specs.declared.table.TheConstants.{TABLE}
use Rattle.rv_table.specs.Names.{text_of}

-- the first row that has this mnemonic
abbrev pub first_named : List ℕ → List Row → Option Row
first_named mnemonic [] = None
first_named mnemonic (r ∷ rest) = cond (bytes_eq (text_of r.name) mnemonic) (Some r) (first_named mnemonic rest)

-- the row of the table that has this mnemonic
unfoldable pub row_named : List ℕ → Option Row
row_named mnemonic = first_named mnemonic TABLE.rows

-- a match below this number and operands of the format are together below 2 ^ 32
abbrev pub room_of : Format → ℕ
room_of U = 0x80
room_of J = 0x80
room_of I = 0x7080
room_of B = 0x7080
room_of S = 0x7080
room_of Shift = 0xfe007080
room_of R = 0xfe007080
room_of Fence = 0x7080
room_of Whole = 0x100000000
room_of Csr = 0x7080
room_of CsrImmediate = 0x7080

-- the match of a row leaves room for its operands
abbrev pub HasRoom : Row → Type 0
HasRoom r = r.matched < room_of r.format
