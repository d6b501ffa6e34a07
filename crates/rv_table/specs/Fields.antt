-- Fields and immediates of a word, as the manual draws its formats, and words put together from them.
use Rattle.std.specs.Prelude.{ℕ, ◌+◌, ◌*◌, ◌/◌, ◌%◌, ◌^◌, ◌-◌}

-- bits low + count - 1 to low of a word
abbrev pub field : ℕ → ℕ → ℕ → ℕ
field w low count = w / 2 ^ low % 2 ^ count

-- a number of so many bits, read as two's complement and spread to 32 bits
abbrev pub extended : ℕ → ℕ → ℕ
extended count n = n + n / 2 ^ (count - 1) * (2 ^ 32 - 2 ^ count)

abbrev pub rd_of : ℕ → ℕ
rd_of w = field w 7 5

abbrev pub rs1_of : ℕ → ℕ
rs1_of w = field w 15 5

abbrev pub rs2_of : ℕ → ℕ
rs2_of w = field w 20 5

abbrev pub i_number : ℕ → ℕ
i_number w = field w 20 12

abbrev pub s_number : ℕ → ℕ
s_number w = field w 25 7 * 2 ^ 5 + field w 7 5

abbrev pub b_number : ℕ → ℕ
b_number w = field w 31 1 * 2 ^ 12 + field w 7 1 * 2 ^ 11 + field w 25 6 * 2 ^ 5 + field w 8 4 * 2 ^ 1

abbrev pub j_number : ℕ → ℕ
j_number w = field w 31 1 * 2 ^ 20 + field w 12 8 * 2 ^ 12 + field w 20 1 * 2 ^ 11 + field w 21 10 * 2 ^ 1

-- the parts of the word that the format's operands fill
abbrev pub rd_place : ℕ → ℕ
rd_place rd = rd % 2 ^ 5 * 2 ^ 7

abbrev pub rs1_place : ℕ → ℕ
rs1_place rs1 = rs1 % 2 ^ 5 * 2 ^ 15

abbrev pub rs2_place : ℕ → ℕ
rs2_place rs2 = rs2 % 2 ^ 5 * 2 ^ 20

abbrev pub i_place : ℕ → ℕ
i_place imm = imm % 2 ^ 12 * 2 ^ 20

abbrev pub s_place : ℕ → ℕ
s_place imm = field imm 0 5 * 2 ^ 7 + field imm 5 7 * 2 ^ 25

abbrev pub b_place : ℕ → ℕ
b_place imm = field imm 11 1 * 2 ^ 7 + field imm 1 4 * 2 ^ 8 + field imm 5 6 * 2 ^ 25 + field imm 12 1 * 2 ^ 31

abbrev pub j_place : ℕ → ℕ
j_place imm = field imm 12 8 * 2 ^ 12 + field imm 11 1 * 2 ^ 20 + field imm 1 10 * 2 ^ 21 + field imm 20 1 * 2 ^ 31

-- the operands of a word
abbrev pub csr_of : ℕ → ℕ
csr_of w = w / 2 ^ 20

abbrev pub u_of : ℕ → ℕ
u_of w = w / 2 ^ 12 * 2 ^ 12

abbrev pub i_of : ℕ → ℕ
i_of w = extended 12 (i_number w)

abbrev pub s_of : ℕ → ℕ
s_of w = extended 12 (s_number w)

abbrev pub b_of : ℕ → ℕ
b_of w = extended 13 (b_number w)

abbrev pub j_of : ℕ → ℕ
j_of w = extended 21 (j_number w)

-- the word of a match and operands, by format
abbrev pub u_word : ℕ → ℕ → ℕ → ℕ
u_word m rd imm = m + rd_place rd + field imm 12 20 * 2 ^ 12

abbrev pub j_word : ℕ → ℕ → ℕ → ℕ
j_word m rd imm = m + rd_place rd + j_place imm

abbrev pub i_word : ℕ → ℕ → ℕ → ℕ → ℕ
i_word m rd rs1 imm = m + rd_place rd + rs1_place rs1 + i_place imm

abbrev pub s_word : ℕ → ℕ → ℕ → ℕ → ℕ
s_word m rs1 rs2 imm = m + rs1_place rs1 + rs2_place rs2 + s_place imm

abbrev pub b_word : ℕ → ℕ → ℕ → ℕ → ℕ
b_word m rs1 rs2 imm = m + rs1_place rs1 + rs2_place rs2 + b_place imm

abbrev pub r_word : ℕ → ℕ → ℕ → ℕ → ℕ
r_word m rd rs1 rs2 = m + rd_place rd + rs1_place rs1 + rs2_place rs2
