-- Operands of an instruction by format: the word that they make with a row's match, and the widths that they have.
use Rattle.std.specs.Prelude.{◌≡◌, ℕ, ◌*◌, ◌%◌, ◌^◌, ◌<◌}
use Rattle.rv_table.specs.declared.operands.Operands.{Operands}
use Rattle.rv_table.specs.declared.operands.Operands.TheVariants.{U as OfU, J as OfJ, I as OfI, B as OfB, S as OfS, Shift as OfShift, R as OfR, Fence as OfFence, Whole as OfWhole, Csr as OfCsr, CsrImmediate as OfCsrImmediate}
use Rattle.rv_table.specs.declared.row.Format.{Format}
use Rattle.rv_table.specs.declared.row.Format.TheVariants.{U, J, I, B, S, Shift, R, Fence, Whole, Csr, CsrImmediate}
use Rattle.rv_table.specs.Fields.{field, extended, u_word, j_word, i_word, s_word, b_word, r_word}

abbrev pub IsU : ℕ → ℕ → Type 0
IsU rd imm = (rd < 2 ^ 5) × (field imm 12 20 * 2 ^ 12 ≡ imm)

abbrev pub IsJ : ℕ → ℕ → Type 0
IsJ rd imm = (rd < 2 ^ 5) × (imm % 2 ≡ 0) × (extended 21 (imm % 2 ^ 21) ≡ imm)

abbrev pub IsI : ℕ → ℕ → ℕ → Type 0
IsI rd rs1 imm = (rd < 2 ^ 5) × (rs1 < 2 ^ 5) × (extended 12 (imm % 2 ^ 12) ≡ imm)

abbrev pub IsB : ℕ → ℕ → ℕ → Type 0
IsB rs1 rs2 imm = (rs1 < 2 ^ 5) × (rs2 < 2 ^ 5) × (imm % 2 ≡ 0) × (extended 13 (imm % 2 ^ 13) ≡ imm)

abbrev pub IsR : ℕ → ℕ → ℕ → Type 0
IsR rd rs1 rs2 = (rd < 2 ^ 5) × (rs1 < 2 ^ 5) × (rs2 < 2 ^ 5)

abbrev pub IsCsr : ℕ → ℕ → ℕ → Type 0
IsCsr rd rs1 csr = (rd < 2 ^ 5) × (rs1 < 2 ^ 5) × (csr < 2 ^ 12)

-- operands within their widths
abbrev pub Fit : Operands → Type 0
Fit (OfU rd imm) = IsU rd imm
Fit (OfJ rd imm) = IsJ rd imm
Fit (OfI rd rs1 imm) = IsI rd rs1 imm
Fit (OfB rs1 rs2 imm) = IsB rs1 rs2 imm
Fit (OfS rs1 rs2 imm) = IsI rs1 rs2 imm
Fit (OfShift rd rs1 shamt) = IsR rd rs1 shamt
Fit (OfR rd rs1 rs2) = IsR rd rs1 rs2
Fit (OfFence rd rs1 imm) = IsCsr rd rs1 imm
Fit OfWhole = Unit
Fit (OfCsr rd rs1 csr) = IsCsr rd rs1 csr
Fit (OfCsrImmediate rd uimm csr) = IsCsr rd uimm csr

-- the word of a row's match and operands
abbrev pub joined : ℕ → Operands → ℕ
joined m (OfU rd imm) = u_word m rd imm
joined m (OfJ rd imm) = j_word m rd imm
joined m (OfI rd rs1 imm) = i_word m rd rs1 imm
joined m (OfB rs1 rs2 imm) = b_word m rs1 rs2 imm
joined m (OfS rs1 rs2 imm) = s_word m rs1 rs2 imm
joined m (OfShift rd rs1 shamt) = r_word m rd rs1 shamt
joined m (OfR rd rs1 rs2) = r_word m rd rs1 rs2
joined m (OfFence rd rs1 imm) = i_word m rd rs1 imm
joined m OfWhole = m
joined m (OfCsr rd rs1 csr) = i_word m rd rs1 csr
joined m (OfCsrImmediate rd uimm csr) = i_word m rd uimm csr

-- the format that has these operands
abbrev pub format_of : Operands → Format
format_of (OfU rd imm) = U
format_of (OfJ rd imm) = J
format_of (OfI rd rs1 imm) = I
format_of (OfB rs1 rs2 imm) = B
format_of (OfS rs1 rs2 imm) = S
format_of (OfShift rd rs1 shamt) = Shift
format_of (OfR rd rs1 rs2) = R
format_of (OfFence rd rs1 imm) = Fence
format_of OfWhole = Whole
format_of (OfCsr rd rs1 csr) = Csr
format_of (OfCsrImmediate rd uimm csr) = CsrImmediate
