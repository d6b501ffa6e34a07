-- The texts of numbers, and the number that a text spells.
use Rattle.std.specs.Prelude.{ℕ, ◌^◌, ◌&&◌, false, nat_lt, if◌then◌else◌, List, ◌++◌, codes, decimal, drop, Option, Some, None}
use Rattle.std.specs.Fmt.{digits}
use Rattle.std.specs.Str.{bytes_eq}
use Rattle.std.specs.Str.Parse.{digits_value}

-- a number in hexadecimal digits, in lower case and without leading zeros
abbrev pub hexadecimal : ℕ → List ℕ
hexadecimal n = digits 16 false n

-- the same behind 0x
abbrev pub hex_text : ℕ → List ℕ
hex_text n = codes "0x" ++ hexadecimal n

-- The number, if it is below 2 ^ 64 and this is its text.
abbrev pub if_text : (ℕ → List ℕ) → List ℕ → ℕ → Option ℕ
if_text text_of text n = if nat_lt n (2 ^ 64) && bytes_eq (text_of n) text then Some n else None

abbrev pub or_else : Option ℕ → Option ℕ → Option ℕ
or_else (Some n) other = Some n
or_else None other = other

-- What a text spells: the number below 2 ^ 64 of which it is the decimal text, or the hexadecimal one behind 0x.
abbrev pub number : List ℕ → Option ℕ
number text =
    or_else (if_text decimal text (digits_value 10 text)) (if_text hex_text text (digits_value 16 (drop 2 text)))
