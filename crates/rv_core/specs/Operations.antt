-- The operations on words that the rows of the instruction table compute, and the registers that they read and write.
-- Source: the RISC-V Instruction Set Manual, Volume I, the chapter on RV32I. Words are numbers below 2 ^ 32.
use Rattle.std.specs.Prelude.{ℕ, ◌+◌, ◌-◌, ◌*◌, ◌/◌, ◌%◌, ◌^◌, Bool, true, false, List, if◌then◌else◌, nat_eq, nat_lt, int_lt, slice_index, slice_set, bit_and, bit_or}
use Rattle.std.specs.Int.{w32, cast_signed, cast_unsigned, int_shr, bit_not}
use Rattle.rv_core.specs.declared.effect.Update.{Update}
use Rattle.rv_core.specs.declared.effect.Update.TheVariants.{Keep, Write, Set, Clear}

-- the value of a register: x0 reads 0
abbrev pub reg : List ℕ → ℕ → ℕ
reg regs k = if nat_eq k 0 then 0 else slice_index regs k

-- the registers after one was written: a write to x0 changes nothing
abbrev pub with_reg : List ℕ → ℕ → ℕ → List ℕ
with_reg regs k value = if nat_eq k 0 then regs else slice_set regs k value

-- sums and differences wrap
abbrev pub add : ℕ → ℕ → ℕ
add a b = (a + b) % 2 ^ 32

abbrev pub subtract : ℕ → ℕ → ℕ
subtract a b = (a + (2 ^ 32 - b)) % 2 ^ 32

abbrev pub negated : Bool → Bool
negated true = false
negated false = true

-- 1 where the comparison holds, otherwise 0
abbrev pub flag : Bool → ℕ
flag b = if b then 1 else 0

abbrev pub is_less_signed : ℕ → ℕ → Bool
is_less_signed a b = int_lt (cast_signed w32 a) (cast_signed w32 b)

abbrev pub is_less_unsigned : ℕ → ℕ → Bool
is_less_unsigned a b = nat_lt a b

-- a shift goes by the low five bits of its amount
abbrev pub shift_left : ℕ → ℕ → ℕ
shift_left a by = a * 2 ^ (by % 32) % 2 ^ 32

abbrev pub shift_right : ℕ → ℕ → ℕ
shift_right a by = a / 2 ^ (by % 32)

-- the arithmetic shift copies the sign into the places that come free
abbrev pub shift_right_signed : ℕ → ℕ → ℕ
shift_right_signed a by = cast_unsigned w32 (int_shr (cast_signed w32 a) (by % 32))

-- the low bits of a word, and the number of so many bits with its sign spread to 32
abbrev pub low_bits : ℕ → ℕ → ℕ
low_bits count a = a % 2 ^ count

abbrev pub sign_extended : ℕ → ℕ → ℕ
sign_extended count n = n + n / 2 ^ (count - 1) * (2 ^ 32 - 2 ^ count)

-- what a row of Zicsr makes of the value of a control register
abbrev pub updated : Update → ℕ → ℕ
updated Keep old = old
updated (Write value) old = value
updated (Set bits) old = bit_or old bits
updated (Clear bits) old = bit_and old (bit_not w32 bits)
