-- Numbers as they are written, and the ranges that they have to be in.
use Rattle.std.specs.Prelude.{ℕ, ◌+◌, ◌*◌, ◌-◌, ◌%◌, ◌^◌, ◌==◌, Bool, List, [], ◌∷◌, Option, Some, None, Result, Ok, Err, cond, nat_le, nat_lt, min}
use Rattle.std.specs.Char.{digit_value}
use Rattle.rv_asm.specs.declared.numbers.Number.{Number}
use Rattle.rv_asm.specs.declared.numbers.Number.TheVariants.{Plus, Minus}
use Rattle.rv_asm.specs.declared.fault.Cause.{Cause}
use Rattle.rv_asm.specs.declared.fault.Cause.TheVariants.{Syntax, Range}

-- digits of a radix, most significant first, after the number so far
abbrev pub numeral_after : ℕ → ℕ → List ℕ → Option ℕ
numeral_after radix n [] = Some n
numeral_after radix n (c ∷ cs) =
    cond (nat_lt (digit_value c) radix) (numeral_after radix (n * radix + digit_value c) cs) None

-- at least one digit of a radix
abbrev pub numeral : ℕ → List ℕ → Option ℕ
numeral radix [] = None
numeral radix (c ∷ cs) = numeral_after radix 0 (c ∷ cs)

-- decimal digits without a leading zero
abbrev pub decimal_numeral : List ℕ → Option ℕ
decimal_numeral [] = None
decimal_numeral (c ∷ []) = numeral 10 (c ∷ [])
decimal_numeral (c ∷ d ∷ ds) = cond (c == 48) None (numeral 10 (c ∷ d ∷ ds))

abbrev pub plus : Option ℕ → Option Number
plus None = None
plus (Some n) = Some (Plus n)

abbrev pub minus : Option ℕ → Option Number
minus None = None
minus (Some n) = Some (Minus n)

-- hexadecimal digits behind 0x, or a decimal number
abbrev pub after_zero : List ℕ → Option Number
after_zero [] = Some (Plus 0)
after_zero (c ∷ cs) = cond (c == 120) (plus (numeral 16 cs)) None

-- a number: decimal without leading zeros, perhaps behind a minus sign, or hexadecimal behind 0x
abbrev pub number : List ℕ → Option Number
number [] = None
number (c ∷ cs) =
    cond (c == 45) (minus (decimal_numeral cs)) (cond (c == 48) (after_zero cs) (plus (decimal_numeral (c ∷ cs))))

-- a magnitude as it is kept: what is above every range counts as 2 ^ 32
abbrev pub capped : ℕ → ℕ
capped n = min n (2 ^ 32)

abbrev pub kept : Option ℕ → Option ℕ
kept None = None
kept (Some n) = Some (capped n)

abbrev pub kept_one : Number → Number
kept_one (Plus n) = Plus (capped n)
kept_one (Minus n) = Minus (capped n)

abbrev pub kept_number : Option Number → Option Number
kept_number None = None
kept_number (Some n) = Some (kept_one n)

-- the number is from -low to high
abbrev pub is_within : ℕ → ℕ → Number → Bool
is_within low high (Plus n) = nat_le n high
is_within low high (Minus n) = nat_le n low

-- the word of a number, in two's complement
abbrev pub word_of_number : Number → ℕ
word_of_number (Plus n) = n
word_of_number (Minus n) = (2 ^ 32 - n) % 2 ^ 32

-- a number from -low to high, as a word
abbrev pub ranged : ℕ → ℕ → Number → Result ℕ Cause
ranged low high n = cond (is_within low high n) (Ok (word_of_number n)) (Err Range)

abbrev pub plain_of : ℕ → ℕ → Option Number → Result ℕ Cause
plain_of low high None = Err Syntax
plain_of low high (Some n) = ranged low high n

-- what a text is where a number from -low to high stands
abbrev pub plain : ℕ → ℕ → List ℕ → Result ℕ Cause
plain low high text = plain_of low high (number text)
