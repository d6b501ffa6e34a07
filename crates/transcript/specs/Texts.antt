-- How a word is written in the lines of a run.
use Rattle.std.specs.Prelude.{ℕ, List}
use Rattle.std.specs.Int.{to_be_bytes, w32}
use Rattle.hex.specs.Hex.{encode_lower}

-- a word of 32 bits in eight hexadecimal digits
abbrev pub word_digits : ℕ → List ℕ
word_digits n = encode_lower (to_be_bytes w32 n)
