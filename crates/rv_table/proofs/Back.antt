-- What an instruction encodes to decodes to it.
use Rattle.std.proofs.Common.{◌≡◌, ℕ, ◌<◌, suc, zero, List, [], ◌∷◌, length, Option, Some, None, refl, sym, ◌∙◌, ap, arith, lit<, ◌⊎◌, inl, inr}
use Rattle.rv_table.specs.declared.instr.Instr.{Instr}
use Rattle.rv_table.specs.declared.instr.Instr.TheVariants.{Lui, Auipc, Jal, Jalr, Beq, Bne, Blt, Bge, Bltu, Bgeu, Lb, Lh, Lw, Lbu, Lhu, Sb, Sh, Sw, Addi, Slti, Sltiu, Xori, Ori, Andi, Fence, Csrrw, Csrrs, Csrrc, Csrrwi, Csrrsi, Csrrci, Slli, Srli, Srai, Add, Sub, Sll, Slt, Sltu, Xor, Srl, Or, And, Sra, Ecall, Ebreak, Mret, Wfi}
use Rattle.rv_table.specs.declared.row.Row.{Row}
use Rattle.rv_table.specs.declared.table.TheConstants.{TABLE}
use Rattle.rv_table.specs.Rows.{Matches, NoneIn, row_at, row_in}
use Rattle.rv_table.specs.Decoded.{makers, maker}
use Rattle.rv_table.specs.Coding.{number_of, encoded, IsWithin, Decodes, operands}
use Rattle.rv_table.specs.Operands.{format_of}
use Rattle.rv_table.proofs.Apart.{at_most_one, table_apart}
use Rattle.rv_table.proofs.Formats.{u_matches, u_back, j_matches, j_back, i_matches, i_back, b_matches, b_back, s_matches, s_back, csr_back, r_matches, r_back}

pub matches_own : (i : Instr) → IsWithin i → Matches (row_at (number_of i)) (encoded i)
matches_own (Lui rd imm) h = u_matches 0x37 rd imm (lit< tt)
matches_own (Auipc rd imm) h = u_matches 0x17 rd imm (lit< tt)
matches_own (Jal rd imm) h = j_matches 0x6f rd imm (lit< tt)
matches_own (Jalr rd rs1 imm) h = i_matches 0x67 rd rs1 imm refl
matches_own (Beq rs1 rs2 imm) h = b_matches 0x63 rs1 rs2 imm refl
matches_own (Bne rs1 rs2 imm) h = b_matches 0x1063 rs1 rs2 imm refl
matches_own (Blt rs1 rs2 imm) h = b_matches 0x4063 rs1 rs2 imm refl
matches_own (Bge rs1 rs2 imm) h = b_matches 0x5063 rs1 rs2 imm refl
matches_own (Bltu rs1 rs2 imm) h = b_matches 0x6063 rs1 rs2 imm refl
matches_own (Bgeu rs1 rs2 imm) h = b_matches 0x7063 rs1 rs2 imm refl
matches_own (Lb rd rs1 imm) h = i_matches 0x3 rd rs1 imm refl
matches_own (Lh rd rs1 imm) h = i_matches 0x1003 rd rs1 imm refl
matches_own (Lw rd rs1 imm) h = i_matches 0x2003 rd rs1 imm refl
matches_own (Lbu rd rs1 imm) h = i_matches 0x4003 rd rs1 imm refl
matches_own (Lhu rd rs1 imm) h = i_matches 0x5003 rd rs1 imm refl
matches_own (Sb rs1 rs2 imm) h = s_matches 0x23 rs1 rs2 imm refl
matches_own (Sh rs1 rs2 imm) h = s_matches 0x1023 rs1 rs2 imm refl
matches_own (Sw rs1 rs2 imm) h = s_matches 0x2023 rs1 rs2 imm refl
matches_own (Addi rd rs1 imm) h = i_matches 0x13 rd rs1 imm refl
matches_own (Slti rd rs1 imm) h = i_matches 0x2013 rd rs1 imm refl
matches_own (Sltiu rd rs1 imm) h = i_matches 0x3013 rd rs1 imm refl
matches_own (Xori rd rs1 imm) h = i_matches 0x4013 rd rs1 imm refl
matches_own (Ori rd rs1 imm) h = i_matches 0x6013 rd rs1 imm refl
matches_own (Andi rd rs1 imm) h = i_matches 0x7013 rd rs1 imm refl
matches_own (Fence rd rs1 imm) h = i_matches 0xf rd rs1 imm refl
matches_own (Csrrw rd rs1 csr) h = i_matches 0x1073 rd rs1 csr refl
matches_own (Csrrs rd rs1 csr) h = i_matches 0x2073 rd rs1 csr refl
matches_own (Csrrc rd rs1 csr) h = i_matches 0x3073 rd rs1 csr refl
matches_own (Csrrwi rd uimm csr) h = i_matches 0x5073 rd uimm csr refl
matches_own (Csrrsi rd uimm csr) h = i_matches 0x6073 rd uimm csr refl
matches_own (Csrrci rd uimm csr) h = i_matches 0x7073 rd uimm csr refl
matches_own (Slli rd rs1 shamt) h = r_matches 0x1013 rd rs1 shamt refl
matches_own (Srli rd rs1 shamt) h = r_matches 0x5013 rd rs1 shamt refl
matches_own (Srai rd rs1 shamt) h = r_matches 0x40005013 rd rs1 shamt refl
matches_own (Add rd rs1 rs2) h = r_matches 0x33 rd rs1 rs2 refl
matches_own (Sub rd rs1 rs2) h = r_matches 0x40000033 rd rs1 rs2 refl
matches_own (Sll rd rs1 rs2) h = r_matches 0x1033 rd rs1 rs2 refl
matches_own (Slt rd rs1 rs2) h = r_matches 0x2033 rd rs1 rs2 refl
matches_own (Sltu rd rs1 rs2) h = r_matches 0x3033 rd rs1 rs2 refl
matches_own (Xor rd rs1 rs2) h = r_matches 0x4033 rd rs1 rs2 refl
matches_own (Srl rd rs1 rs2) h = r_matches 0x5033 rd rs1 rs2 refl
matches_own (Or rd rs1 rs2) h = r_matches 0x6033 rd rs1 rs2 refl
matches_own (And rd rs1 rs2) h = r_matches 0x7033 rd rs1 rs2 refl
matches_own (Sra rd rs1 rs2) h = r_matches 0x40005033 rd rs1 rs2 refl
matches_own Ecall h = refl
matches_own Ebreak h = refl
matches_own Mret h = refl
matches_own Wfi h = refl

pub number_below : (i : Instr) → number_of i < length TABLE.rows
number_below (Lui rd imm) = lit< tt
number_below (Auipc rd imm) = lit< tt
number_below (Jal rd imm) = lit< tt
number_below (Jalr rd rs1 imm) = lit< tt
number_below (Beq rs1 rs2 imm) = lit< tt
number_below (Bne rs1 rs2 imm) = lit< tt
number_below (Blt rs1 rs2 imm) = lit< tt
number_below (Bge rs1 rs2 imm) = lit< tt
number_below (Bltu rs1 rs2 imm) = lit< tt
number_below (Bgeu rs1 rs2 imm) = lit< tt
number_below (Lb rd rs1 imm) = lit< tt
number_below (Lh rd rs1 imm) = lit< tt
number_below (Lw rd rs1 imm) = lit< tt
number_below (Lbu rd rs1 imm) = lit< tt
number_below (Lhu rd rs1 imm) = lit< tt
number_below (Sb rs1 rs2 imm) = lit< tt
number_below (Sh rs1 rs2 imm) = lit< tt
number_below (Sw rs1 rs2 imm) = lit< tt
number_below (Addi rd rs1 imm) = lit< tt
number_below (Slti rd rs1 imm) = lit< tt
number_below (Sltiu rd rs1 imm) = lit< tt
number_below (Xori rd rs1 imm) = lit< tt
number_below (Ori rd rs1 imm) = lit< tt
number_below (Andi rd rs1 imm) = lit< tt
number_below (Fence rd rs1 imm) = lit< tt
number_below (Csrrw rd rs1 csr) = lit< tt
number_below (Csrrs rd rs1 csr) = lit< tt
number_below (Csrrc rd rs1 csr) = lit< tt
number_below (Csrrwi rd uimm csr) = lit< tt
number_below (Csrrsi rd uimm csr) = lit< tt
number_below (Csrrci rd uimm csr) = lit< tt
number_below (Slli rd rs1 shamt) = lit< tt
number_below (Srli rd rs1 shamt) = lit< tt
number_below (Srai rd rs1 shamt) = lit< tt
number_below (Add rd rs1 rs2) = lit< tt
number_below (Sub rd rs1 rs2) = lit< tt
number_below (Sll rd rs1 rs2) = lit< tt
number_below (Slt rd rs1 rs2) = lit< tt
number_below (Sltu rd rs1 rs2) = lit< tt
number_below (Xor rd rs1 rs2) = lit< tt
number_below (Srl rd rs1 rs2) = lit< tt
number_below (Or rd rs1 rs2) = lit< tt
number_below (And rd rs1 rs2) = lit< tt
number_below (Sra rd rs1 rs2) = lit< tt
number_below Ecall = lit< tt
number_below Ebreak = lit< tt
number_below Mret = lit< tt
number_below Wfi = lit< tt

pub made_back : (i : Instr) → IsWithin i → maker makers (number_of i) (encoded i) ≡ i
made_back (Lui rd imm) h = let e = u_back 0x37 rd imm (lit< tt) h in cc
made_back (Auipc rd imm) h = let e = u_back 0x17 rd imm (lit< tt) h in cc
made_back (Jal rd imm) h = let e = j_back 0x6f rd imm (lit< tt) h in cc
made_back (Jalr rd rs1 imm) h = let e = i_back 0x67 rd rs1 imm refl h in cc
made_back (Beq rs1 rs2 imm) h = let e = b_back 0x63 rs1 rs2 imm refl h in cc
made_back (Bne rs1 rs2 imm) h = let e = b_back 0x1063 rs1 rs2 imm refl h in cc
made_back (Blt rs1 rs2 imm) h = let e = b_back 0x4063 rs1 rs2 imm refl h in cc
made_back (Bge rs1 rs2 imm) h = let e = b_back 0x5063 rs1 rs2 imm refl h in cc
made_back (Bltu rs1 rs2 imm) h = let e = b_back 0x6063 rs1 rs2 imm refl h in cc
made_back (Bgeu rs1 rs2 imm) h = let e = b_back 0x7063 rs1 rs2 imm refl h in cc
made_back (Lb rd rs1 imm) h = let e = i_back 0x3 rd rs1 imm refl h in cc
made_back (Lh rd rs1 imm) h = let e = i_back 0x1003 rd rs1 imm refl h in cc
made_back (Lw rd rs1 imm) h = let e = i_back 0x2003 rd rs1 imm refl h in cc
made_back (Lbu rd rs1 imm) h = let e = i_back 0x4003 rd rs1 imm refl h in cc
made_back (Lhu rd rs1 imm) h = let e = i_back 0x5003 rd rs1 imm refl h in cc
made_back (Sb rs1 rs2 imm) h = let e = s_back 0x23 rs1 rs2 imm refl h in cc
made_back (Sh rs1 rs2 imm) h = let e = s_back 0x1023 rs1 rs2 imm refl h in cc
made_back (Sw rs1 rs2 imm) h = let e = s_back 0x2023 rs1 rs2 imm refl h in cc
made_back (Addi rd rs1 imm) h = let e = i_back 0x13 rd rs1 imm refl h in cc
made_back (Slti rd rs1 imm) h = let e = i_back 0x2013 rd rs1 imm refl h in cc
made_back (Sltiu rd rs1 imm) h = let e = i_back 0x3013 rd rs1 imm refl h in cc
made_back (Xori rd rs1 imm) h = let e = i_back 0x4013 rd rs1 imm refl h in cc
made_back (Ori rd rs1 imm) h = let e = i_back 0x6013 rd rs1 imm refl h in cc
made_back (Andi rd rs1 imm) h = let e = i_back 0x7013 rd rs1 imm refl h in cc
made_back (Fence rd rs1 imm) h = let e = csr_back 0xf rd rs1 imm refl h in cc
made_back (Csrrw rd rs1 csr) h = let e = csr_back 0x1073 rd rs1 csr refl h in cc
made_back (Csrrs rd rs1 csr) h = let e = csr_back 0x2073 rd rs1 csr refl h in cc
made_back (Csrrc rd rs1 csr) h = let e = csr_back 0x3073 rd rs1 csr refl h in cc
made_back (Csrrwi rd uimm csr) h = let e = csr_back 0x5073 rd uimm csr refl h in cc
made_back (Csrrsi rd uimm csr) h = let e = csr_back 0x6073 rd uimm csr refl h in cc
made_back (Csrrci rd uimm csr) h = let e = csr_back 0x7073 rd uimm csr refl h in cc
made_back (Slli rd rs1 shamt) h = let e = r_back 0x1013 rd rs1 shamt refl h in cc
made_back (Srli rd rs1 shamt) h = let e = r_back 0x5013 rd rs1 shamt refl h in cc
made_back (Srai rd rs1 shamt) h = let e = r_back 0x40005013 rd rs1 shamt refl h in cc
made_back (Add rd rs1 rs2) h = let e = r_back 0x33 rd rs1 rs2 refl h in cc
made_back (Sub rd rs1 rs2) h = let e = r_back 0x40000033 rd rs1 rs2 refl h in cc
made_back (Sll rd rs1 rs2) h = let e = r_back 0x1033 rd rs1 rs2 refl h in cc
made_back (Slt rd rs1 rs2) h = let e = r_back 0x2033 rd rs1 rs2 refl h in cc
made_back (Sltu rd rs1 rs2) h = let e = r_back 0x3033 rd rs1 rs2 refl h in cc
made_back (Xor rd rs1 rs2) h = let e = r_back 0x4033 rd rs1 rs2 refl h in cc
made_back (Srl rd rs1 rs2) h = let e = r_back 0x5033 rd rs1 rs2 refl h in cc
made_back (Or rd rs1 rs2) h = let e = r_back 0x6033 rd rs1 rs2 refl h in cc
made_back (And rd rs1 rs2) h = let e = r_back 0x7033 rd rs1 rs2 refl h in cc
made_back (Sra rd rs1 rs2) h = let e = r_back 0x40005033 rd rs1 rs2 refl h in cc
made_back Ecall h = refl
made_back Ebreak h = refl
made_back Mret h = refl
made_back Wfi h = refl

pub format_own : (i : Instr) → (row_at (number_of i)).format ≡ format_of (operands i)
format_own (Lui rd imm) = refl
format_own (Auipc rd imm) = refl
format_own (Jal rd imm) = refl
format_own (Jalr rd rs1 imm) = refl
format_own (Beq rs1 rs2 imm) = refl
format_own (Bne rs1 rs2 imm) = refl
format_own (Blt rs1 rs2 imm) = refl
format_own (Bge rs1 rs2 imm) = refl
format_own (Bltu rs1 rs2 imm) = refl
format_own (Bgeu rs1 rs2 imm) = refl
format_own (Lb rd rs1 imm) = refl
format_own (Lh rd rs1 imm) = refl
format_own (Lw rd rs1 imm) = refl
format_own (Lbu rd rs1 imm) = refl
format_own (Lhu rd rs1 imm) = refl
format_own (Sb rs1 rs2 imm) = refl
format_own (Sh rs1 rs2 imm) = refl
format_own (Sw rs1 rs2 imm) = refl
format_own (Addi rd rs1 imm) = refl
format_own (Slti rd rs1 imm) = refl
format_own (Sltiu rd rs1 imm) = refl
format_own (Xori rd rs1 imm) = refl
format_own (Ori rd rs1 imm) = refl
format_own (Andi rd rs1 imm) = refl
format_own (Fence rd rs1 imm) = refl
format_own (Csrrw rd rs1 csr) = refl
format_own (Csrrs rd rs1 csr) = refl
format_own (Csrrc rd rs1 csr) = refl
format_own (Csrrwi rd uimm csr) = refl
format_own (Csrrsi rd uimm csr) = refl
format_own (Csrrci rd uimm csr) = refl
format_own (Slli rd rs1 shamt) = refl
format_own (Srli rd rs1 shamt) = refl
format_own (Srai rd rs1 shamt) = refl
format_own (Add rd rs1 rs2) = refl
format_own (Sub rd rs1 rs2) = refl
format_own (Sll rd rs1 rs2) = refl
format_own (Slt rd rs1 rs2) = refl
format_own (Sltu rd rs1 rs2) = refl
format_own (Xor rd rs1 rs2) = refl
format_own (Srl rd rs1 rs2) = refl
format_own (Or rd rs1 rs2) = refl
format_own (And rd rs1 rs2) = refl
format_own (Sra rd rs1 rs2) = refl
format_own Ecall = refl
format_own Ebreak = refl
format_own Mret = refl
format_own Wfi = refl

none_at : (rows : List Row) (w k : ℕ) → NoneIn rows w → k < length rows → Matches (row_in rows k) w → ⊥
none_at [] w k h within p = absurd (omega arith)
none_at (r ∷ rest) w zero h within p = h.0 p
none_at (r ∷ rest) w (suc k) h within p = none_at rest w k h.1 (omega arith) p

cases_order : (a b : ℕ) → (a ≡ b) ⊎ ((a < b) ⊎ (b < a))
cases_order zero zero = inl refl
cases_order zero (suc b) = inr (inl (omega arith))
cases_order (suc a) zero = inr (inr (omega arith))
cases_order (suc a) (suc b) = elim (cases_order a b) [ inl e ↦ inl (ap suc e) | inr s ↦ elim s [ inl e ↦ inr (inl (omega arith)) | inr e ↦ inr (inr (omega arith)) ] ]

pub same_number : (a b w : ℕ) → a < length TABLE.rows → b < length TABLE.rows → Matches (row_at a) w → Matches (row_at b) w → a ≡ b
same_number a b w ha hb p q = elim (cases_order a b) [
  | inl e ↦ e
  | inr s ↦ elim s [
    | inl e ↦ absurd (at_most_one TABLE.rows w a b table_apart e hb p q)
    | inr e ↦ absurd (at_most_one TABLE.rows w b a table_apart e ha q p)
  ]
]

pub back : (i : Instr) → IsWithin i → (o : Option Instr) → Decodes (encoded i) o → o ≡ Some i
back i h None d = absurd (none_at TABLE.rows (encoded i) (number_of i) d (number_below i) (matches_own i h))
back i h (Some j) d =
    let n : number_of j ≡ number_of i = same_number (number_of j) (number_of i) (encoded i) (number_below j) (number_below i) d.0 (matches_own i h) in
    let one : maker makers (number_of j) (encoded j) ≡ maker makers (number_of i) (encoded i) = cc (n, d.2) in
    ap (λ (x : Instr). Some x) (sym (made_back j d.1) ∙ one ∙ made_back i h)
