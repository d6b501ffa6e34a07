-- How words are listed: the mnemonic and the operands, in one line.
use Rattle.std.specs.Prelude.{ℕ, ◌+◌, ◌-◌, ◌/◌, ◌%◌, ◌^◌, zero, suc, Bool, true, false, List, [], ◌∷◌, ◌++◌, Option, Some, None, cond, codes, decimal, nat_lt, unwrap_or}
use Rattle.rv_table.specs.declared.instr.Instr.{Instr}
use Rattle.rv_table.specs.declared.operands.Operands.{Operands}
use Rattle.rv_table.specs.declared.operands.Operands.TheVariants.{U as OfU, J as OfJ, I as OfI, B as OfB, S as OfS, Shift as OfShift, R as OfR, Fence as OfFence, Whole as OfWhole, Csr as OfCsr, CsrImmediate as OfCsrImmediate}
use Rattle.rv_table.specs.Coding.{number_of, operands}
use Rattle.rv_table.specs.Names.{text_of}
use Rattle.rv_table.specs.Rows.{row_at}
use Rattle.rv_asm.specs.declared.listing.Operand.{Operand}
use Rattle.rv_asm.specs.declared.listing.Operand.TheVariants.{Register, Unsigned, Signed, Csr, Address}
use Rattle.rv_asm.specs.Csrs.{csr_name}
use Rattle.rv_asm.specs.Forms.{is_addressed}

abbrev pub register_text : ℕ → List ℕ
register_text number = 120 ∷ decimal number

-- a word in two's complement, as a decimal number
abbrev pub signed_text : ℕ → List ℕ
signed_text word = cond (nat_lt word (2 ^ 31)) (decimal word) (45 ∷ decimal (2 ^ 32 - word))

abbrev pub csr_text : ℕ → List ℕ
csr_text number = unwrap_or (csr_name number) (decimal number)

abbrev pub address_text : ℕ → ℕ → List ℕ
address_text base offset = signed_text offset ++ 40 ∷ register_text base ++ 41 ∷ []

abbrev pub operand_text : Operand → List ℕ
operand_text (Register number) = register_text number
operand_text (Unsigned number) = decimal number
operand_text (Signed word) = signed_text word
operand_text (Csr number) = csr_text number
operand_text (Address base offset) = address_text base offset

-- operands, each behind a comma and a blank
abbrev pub more_operands : List Operand → List ℕ
more_operands [] = []
more_operands (o ∷ os) = 44 ∷ 32 ∷ operand_text o ++ more_operands os

-- operands behind a mnemonic: a blank, and the operands separated by a comma and a blank
abbrev pub operand_list : List Operand → List ℕ
operand_list [] = []
operand_list (o ∷ os) = 32 ∷ operand_text o ++ more_operands os

-- the operands of an instruction as they are written
abbrev pub written : Bool → Operands → List Operand
written addressed (OfU rd imm) = Register rd ∷ Unsigned (imm / 2 ^ 12) ∷ []
written addressed (OfJ rd imm) = Register rd ∷ Signed imm ∷ []
written true (OfI rd rs1 imm) = Register rd ∷ Address rs1 imm ∷ []
written false (OfI rd rs1 imm) = Register rd ∷ Register rs1 ∷ Signed imm ∷ []
written addressed (OfB rs1 rs2 imm) = Register rs1 ∷ Register rs2 ∷ Signed imm ∷ []
written addressed (OfS rs1 rs2 imm) = Register rs2 ∷ Address rs1 imm ∷ []
written addressed (OfShift rd rs1 shamt) = Register rd ∷ Register rs1 ∷ Unsigned shamt ∷ []
written addressed (OfR rd rs1 rs2) = Register rd ∷ Register rs1 ∷ Register rs2 ∷ []
written addressed (OfFence rd rs1 imm) = Unsigned imm ∷ Register rs1 ∷ Register rd ∷ []
written addressed OfWhole = []
written addressed (OfCsr rd rs1 csr) = Register rd ∷ Csr csr ∷ Register rs1 ∷ []
written addressed (OfCsrImmediate rd uimm csr) = Register rd ∷ Csr csr ∷ Unsigned uimm ∷ []

abbrev pub instr_text : Instr → List ℕ
instr_text i = text_of (row_at (number_of i)).name
    ++ operand_list (written (is_addressed (row_at (number_of i))) (operands i))

-- a hexadecimal digit, in lower case
abbrev pub hex_digit : ℕ → ℕ
hex_digit d = cond (nat_lt d 10) (48 + d) (87 + d)

-- a number of at most so many hexadecimal digits, without leading zeros
abbrev pub hex_digits : ℕ → ℕ → List ℕ
hex_digits zero n = []
hex_digits (suc places) n =
    cond (nat_lt n 16) (hex_digit n ∷ []) (hex_digits places (n / 16) ++ hex_digit (n % 16) ∷ [])

-- what a word is listed as, by what it decodes to
abbrev pub listed : ℕ → Option Instr → List ℕ
listed word None = codes ".word 0x" ++ hex_digits 8 word
listed word (Some i) = instr_text i

-- the line of a word
abbrev pub line_text : ℕ → Option Instr → List ℕ
line_text word o = listed word o ++ 10 ∷ []
