-- What an instruction encodes to and a word decodes to, by the rows of the table.
use Rattle.std.specs.Prelude.{◌≡◌, ℕ, Option, Some, None}
use Rattle.rv_table.specs.declared.instr.Instr.{Instr}
use Rattle.rv_table.specs.declared.instr.Instr.TheVariants.{Lui, Auipc, Jal, Jalr, Beq, Bne, Blt, Bge, Bltu, Bgeu, Lb, Lh, Lw, Lbu, Lhu, Sb, Sh, Sw, Addi, Slti, Sltiu, Xori, Ori, Andi, Fence, Csrrw, Csrrs, Csrrc, Csrrwi, Csrrsi, Csrrci, Slli, Srli, Srai, Add, Sub, Sll, Slt, Sltu, Xor, Srl, Or, And, Sra, Ecall, Ebreak, Mret, Wfi}
use Rattle.rv_table.specs.declared.table.TheConstants.{TABLE}
use Rattle.rv_table.specs.Rows.{row_at, Matches, NoneIn}
use Rattle.rv_table.specs.Operands.{joined, Fit}
use Rattle.rv_table.specs.declared.operands.Operands.{Operands}
use Rattle.rv_table.specs.declared.operands.Operands.TheVariants.{U as OfU, J as OfJ, I as OfI, B as OfB, S as OfS, Shift as OfShift, R as OfR, Fence as OfFence, Whole as OfWhole, Csr as OfCsr, CsrImmediate as OfCsrImmediate}

-- the row of an instruction, by its place in the table
abbrev pub number_of : Instr → ℕ
number_of (Lui rd imm) = 0
number_of (Auipc rd imm) = 1
number_of (Jal rd imm) = 2
number_of (Jalr rd rs1 imm) = 3
number_of (Beq rs1 rs2 imm) = 4
number_of (Bne rs1 rs2 imm) = 5
number_of (Blt rs1 rs2 imm) = 6
number_of (Bge rs1 rs2 imm) = 7
number_of (Bltu rs1 rs2 imm) = 8
number_of (Bgeu rs1 rs2 imm) = 9
number_of (Lb rd rs1 imm) = 10
number_of (Lh rd rs1 imm) = 11
number_of (Lw rd rs1 imm) = 12
number_of (Lbu rd rs1 imm) = 13
number_of (Lhu rd rs1 imm) = 14
number_of (Sb rs1 rs2 imm) = 15
number_of (Sh rs1 rs2 imm) = 16
number_of (Sw rs1 rs2 imm) = 17
number_of (Addi rd rs1 imm) = 18
number_of (Slti rd rs1 imm) = 19
number_of (Sltiu rd rs1 imm) = 20
number_of (Xori rd rs1 imm) = 21
number_of (Ori rd rs1 imm) = 22
number_of (Andi rd rs1 imm) = 23
number_of (Fence rd rs1 imm) = 24
number_of (Csrrw rd rs1 csr) = 25
number_of (Csrrs rd rs1 csr) = 26
number_of (Csrrc rd rs1 csr) = 27
number_of (Csrrwi rd uimm csr) = 28
number_of (Csrrsi rd uimm csr) = 29
number_of (Csrrci rd uimm csr) = 30
number_of (Slli rd rs1 shamt) = 31
number_of (Srli rd rs1 shamt) = 32
number_of (Srai rd rs1 shamt) = 33
number_of (Add rd rs1 rs2) = 34
number_of (Sub rd rs1 rs2) = 35
number_of (Sll rd rs1 rs2) = 36
number_of (Slt rd rs1 rs2) = 37
number_of (Sltu rd rs1 rs2) = 38
number_of (Xor rd rs1 rs2) = 39
number_of (Srl rd rs1 rs2) = 40
number_of (Or rd rs1 rs2) = 41
number_of (And rd rs1 rs2) = 42
number_of (Sra rd rs1 rs2) = 43
number_of Ecall = 44
number_of Ebreak = 45
number_of Mret = 46
number_of Wfi = 47

-- its operands
abbrev pub operands : Instr → Operands
operands (Lui rd imm) = OfU rd imm
operands (Auipc rd imm) = OfU rd imm
operands (Jal rd imm) = OfJ rd imm
operands (Jalr rd rs1 imm) = OfI rd rs1 imm
operands (Beq rs1 rs2 imm) = OfB rs1 rs2 imm
operands (Bne rs1 rs2 imm) = OfB rs1 rs2 imm
operands (Blt rs1 rs2 imm) = OfB rs1 rs2 imm
operands (Bge rs1 rs2 imm) = OfB rs1 rs2 imm
operands (Bltu rs1 rs2 imm) = OfB rs1 rs2 imm
operands (Bgeu rs1 rs2 imm) = OfB rs1 rs2 imm
operands (Lb rd rs1 imm) = OfI rd rs1 imm
operands (Lh rd rs1 imm) = OfI rd rs1 imm
operands (Lw rd rs1 imm) = OfI rd rs1 imm
operands (Lbu rd rs1 imm) = OfI rd rs1 imm
operands (Lhu rd rs1 imm) = OfI rd rs1 imm
operands (Sb rs1 rs2 imm) = OfS rs1 rs2 imm
operands (Sh rs1 rs2 imm) = OfS rs1 rs2 imm
operands (Sw rs1 rs2 imm) = OfS rs1 rs2 imm
operands (Addi rd rs1 imm) = OfI rd rs1 imm
operands (Slti rd rs1 imm) = OfI rd rs1 imm
operands (Sltiu rd rs1 imm) = OfI rd rs1 imm
operands (Xori rd rs1 imm) = OfI rd rs1 imm
operands (Ori rd rs1 imm) = OfI rd rs1 imm
operands (Andi rd rs1 imm) = OfI rd rs1 imm
operands (Fence rd rs1 imm) = OfFence rd rs1 imm
operands (Csrrw rd rs1 csr) = OfCsr rd rs1 csr
operands (Csrrs rd rs1 csr) = OfCsr rd rs1 csr
operands (Csrrc rd rs1 csr) = OfCsr rd rs1 csr
operands (Csrrwi rd uimm csr) = OfCsrImmediate rd uimm csr
operands (Csrrsi rd uimm csr) = OfCsrImmediate rd uimm csr
operands (Csrrci rd uimm csr) = OfCsrImmediate rd uimm csr
operands (Slli rd rs1 shamt) = OfShift rd rs1 shamt
operands (Srli rd rs1 shamt) = OfShift rd rs1 shamt
operands (Srai rd rs1 shamt) = OfShift rd rs1 shamt
operands (Add rd rs1 rs2) = OfR rd rs1 rs2
operands (Sub rd rs1 rs2) = OfR rd rs1 rs2
operands (Sll rd rs1 rs2) = OfR rd rs1 rs2
operands (Slt rd rs1 rs2) = OfR rd rs1 rs2
operands (Sltu rd rs1 rs2) = OfR rd rs1 rs2
operands (Xor rd rs1 rs2) = OfR rd rs1 rs2
operands (Srl rd rs1 rs2) = OfR rd rs1 rs2
operands (Or rd rs1 rs2) = OfR rd rs1 rs2
operands (And rd rs1 rs2) = OfR rd rs1 rs2
operands (Sra rd rs1 rs2) = OfR rd rs1 rs2
operands Ecall = OfWhole
operands Ebreak = OfWhole
operands Mret = OfWhole
operands Wfi = OfWhole

-- the word of an instruction: its row's match and its operands
abbrev pub encoded : Instr → ℕ
encoded i = joined (row_at (number_of i)).matched (operands i)

-- the operands fit their widths
abbrev pub IsWithin : Instr → Type 0
IsWithin i = Fit (operands i)

-- what a word decodes to
abbrev pub Decodes : ℕ → Option Instr → Type 0
Decodes w None = NoneIn TABLE.rows w
Decodes w (Some i) = Matches (row_at (number_of i)) w × IsWithin i × (encoded i ≡ w)
