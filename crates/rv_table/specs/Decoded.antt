-- Decoding as a function: the first row that a word matches gives its instruction, with the word's fields as operands.
use Rattle.std.specs.Prelude.{ℕ, List, [], ◌∷◌, Option, Some, None, bit_and, cond, nat_eq, slice_index_or}
use Rattle.rv_table.specs.declared.instr.Instr.{Instr}
use Rattle.rv_table.specs.declared.instr.Instr.TheVariants.{Lui, Auipc, Jal, Jalr, Beq, Bne, Blt, Bge, Bltu, Bgeu, Lb, Lh, Lw, Lbu, Lhu, Sb, Sh, Sw, Addi, Slti, Sltiu, Xori, Ori, Andi, Fence, Csrrw, Csrrs, Csrrc, Csrrwi, Csrrsi, Csrrci, Slli, Srli, Srai, Add, Sub, Sll, Slt, Sltu, Xor, Srl, Or, And, Sra, Ecall, Ebreak, Mret, Wfi}
use Rattle.rv_table.specs.declared.row.Row.{Row}
use Rattle.rv_table.specs.declared.table.TheConstants.{TABLE}
use Rattle.rv_table.specs.Fields.{rd_of, rs1_of, rs2_of, csr_of, u_of, j_of, i_of, s_of, b_of}

-- what each row makes of a word, in the order of the table
abbrev pub makers : List (ℕ → Instr)
makers =
    (λ (w : ℕ). Lui (rd_of w) (u_of w)) ∷
    (λ (w : ℕ). Auipc (rd_of w) (u_of w)) ∷
    (λ (w : ℕ). Jal (rd_of w) (j_of w)) ∷
    (λ (w : ℕ). Jalr (rd_of w) (rs1_of w) (i_of w)) ∷
    (λ (w : ℕ). Beq (rs1_of w) (rs2_of w) (b_of w)) ∷
    (λ (w : ℕ). Bne (rs1_of w) (rs2_of w) (b_of w)) ∷
    (λ (w : ℕ). Blt (rs1_of w) (rs2_of w) (b_of w)) ∷
    (λ (w : ℕ). Bge (rs1_of w) (rs2_of w) (b_of w)) ∷
    (λ (w : ℕ). Bltu (rs1_of w) (rs2_of w) (b_of w)) ∷
    (λ (w : ℕ). Bgeu (rs1_of w) (rs2_of w) (b_of w)) ∷
    (λ (w : ℕ). Lb (rd_of w) (rs1_of w) (i_of w)) ∷
    (λ (w : ℕ). Lh (rd_of w) (rs1_of w) (i_of w)) ∷
    (λ (w : ℕ). Lw (rd_of w) (rs1_of w) (i_of w)) ∷
    (λ (w : ℕ). Lbu (rd_of w) (rs1_of w) (i_of w)) ∷
    (λ (w : ℕ). Lhu (rd_of w) (rs1_of w) (i_of w)) ∷
    (λ (w : ℕ). Sb (rs1_of w) (rs2_of w) (s_of w)) ∷
    (λ (w : ℕ). Sh (rs1_of w) (rs2_of w) (s_of w)) ∷
    (λ (w : ℕ). Sw (rs1_of w) (rs2_of w) (s_of w)) ∷
    (λ (w : ℕ). Addi (rd_of w) (rs1_of w) (i_of w)) ∷
    (λ (w : ℕ). Slti (rd_of w) (rs1_of w) (i_of w)) ∷
    (λ (w : ℕ). Sltiu (rd_of w) (rs1_of w) (i_of w)) ∷
    (λ (w : ℕ). Xori (rd_of w) (rs1_of w) (i_of w)) ∷
    (λ (w : ℕ). Ori (rd_of w) (rs1_of w) (i_of w)) ∷
    (λ (w : ℕ). Andi (rd_of w) (rs1_of w) (i_of w)) ∷
    (λ (w : ℕ). Fence (rd_of w) (rs1_of w) (csr_of w)) ∷
    (λ (w : ℕ). Csrrw (rd_of w) (rs1_of w) (csr_of w)) ∷
    (λ (w : ℕ). Csrrs (rd_of w) (rs1_of w) (csr_of w)) ∷
    (λ (w : ℕ). Csrrc (rd_of w) (rs1_of w) (csr_of w)) ∷
    (λ (w : ℕ). Csrrwi (rd_of w) (rs1_of w) (csr_of w)) ∷
    (λ (w : ℕ). Csrrsi (rd_of w) (rs1_of w) (csr_of w)) ∷
    (λ (w : ℕ). Csrrci (rd_of w) (rs1_of w) (csr_of w)) ∷
    (λ (w : ℕ). Slli (rd_of w) (rs1_of w) (rs2_of w)) ∷
    (λ (w : ℕ). Srli (rd_of w) (rs1_of w) (rs2_of w)) ∷
    (λ (w : ℕ). Srai (rd_of w) (rs1_of w) (rs2_of w)) ∷
    (λ (w : ℕ). Add (rd_of w) (rs1_of w) (rs2_of w)) ∷
    (λ (w : ℕ). Sub (rd_of w) (rs1_of w) (rs2_of w)) ∷
    (λ (w : ℕ). Sll (rd_of w) (rs1_of w) (rs2_of w)) ∷
    (λ (w : ℕ). Slt (rd_of w) (rs1_of w) (rs2_of w)) ∷
    (λ (w : ℕ). Sltu (rd_of w) (rs1_of w) (rs2_of w)) ∷
    (λ (w : ℕ). Xor (rd_of w) (rs1_of w) (rs2_of w)) ∷
    (λ (w : ℕ). Srl (rd_of w) (rs1_of w) (rs2_of w)) ∷
    (λ (w : ℕ). Or (rd_of w) (rs1_of w) (rs2_of w)) ∷
    (λ (w : ℕ). And (rd_of w) (rs1_of w) (rs2_of w)) ∷
    (λ (w : ℕ). Sra (rd_of w) (rs1_of w) (rs2_of w)) ∷
    (λ (w : ℕ). Ecall) ∷
    (λ (w : ℕ). Ebreak) ∷
    (λ (w : ℕ). Mret) ∷
    (λ (w : ℕ). Wfi) ∷ []

-- what the row of a number makes of a word
abbrev pub maker : List (ℕ → Instr) → ℕ → ℕ → Instr
maker makers k w = slice_index_or makers k (λ (w : ℕ). Ecall) w

abbrev pub first_made : List Row → List (ℕ → Instr) → ℕ → Option Instr
first_made [] ms w = None
first_made (r ∷ rest) [] w = None
first_made (r ∷ rest) (m ∷ ms) w = cond (nat_eq (bit_and w r.mask) r.matched) (Some (m w)) (first_made rest ms w)

-- the instruction of a word, where a row matches it
unfoldable pub decoded : ℕ → Option Instr
decoded w = first_made TABLE.rows makers w
