-- The levels of 32 interrupt lines, line i in bit i.
use Rattle.std.specs.Prelude.{ℕ, ◌^◌, Bool, true, false, nat_lt, if◌then◌else◌, bit_and, bit_or}
use Rattle.std.specs.Int.{w32, bit_not}

abbrev pub level_set : ℕ → ℕ → Bool → ℕ
level_set lines number true = bit_or lines (2 ^ number)
level_set lines number false = bit_and lines (bit_not w32 (2 ^ number))

-- A level on a line; there is none from 32 on.
abbrev pub with_level : ℕ → ℕ → Bool → ℕ
with_level lines number level = if nat_lt number 32 then level_set lines number level else lines
