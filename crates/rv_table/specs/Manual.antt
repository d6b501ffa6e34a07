-- The instruction table in the manual's order: RV32I, Zicsr, MRET and WFI, each with its format, the mask of its fixed
-- bits, and their values. Source: the RISC-V Instruction Set Manual, Volume I, the listing of instructions of RV32I and
-- Zicsr; MRET and WFI are of Volume II.
use Rattle.std.specs.Prelude.{ℕ, List, [], ◌∷◌}
use Rattle.rv_table.specs.declared.row.Row.{Row}
use Rattle.rv_table.specs.declared.row.Name.{Name}
use Rattle.rv_table.specs.declared.row.Name.TheVariants.{Lui, Auipc, Jal, Jalr, Beq, Bne, Blt, Bge, Bltu, Bgeu, Lb, Lh, Lw, Lbu, Lhu, Sb, Sh, Sw, Addi, Slti, Sltiu, Xori, Ori, Andi, Fence, Csrrw, Csrrs, Csrrc, Csrrwi, Csrrsi, Csrrci, Slli, Srli, Srai, Add, Sub, Sll, Slt, Sltu, Xor, Srl, Or, And, Sra, Ecall, Ebreak, Mret, Wfi}
use Rattle.rv_table.specs.declared.row.Format.{Format}
use Rattle.rv_table.specs.declared.row.Format.TheVariants.{U, J, I, B, S, Shift, R, Fence as FenceFields, Whole, Csr, CsrImmediate}

abbrev pub row : Name → Format → ℕ → ℕ → Row
row n f mask matched = record { mask = mask; matched = matched; format = f; name = n }

-- name, format, mask, match
abbrev pub manual : List Row
manual =
    row Lui U 0x7f 0x37 ∷
    row Auipc U 0x7f 0x17 ∷
    row Jal J 0x7f 0x6f ∷
    row Jalr I 0x707f 0x67 ∷
    row Beq B 0x707f 0x63 ∷
    row Bne B 0x707f 0x1063 ∷
    row Blt B 0x707f 0x4063 ∷
    row Bge B 0x707f 0x5063 ∷
    row Bltu B 0x707f 0x6063 ∷
    row Bgeu B 0x707f 0x7063 ∷
    row Lb I 0x707f 0x3 ∷
    row Lh I 0x707f 0x1003 ∷
    row Lw I 0x707f 0x2003 ∷
    row Lbu I 0x707f 0x4003 ∷
    row Lhu I 0x707f 0x5003 ∷
    row Sb S 0x707f 0x23 ∷
    row Sh S 0x707f 0x1023 ∷
    row Sw S 0x707f 0x2023 ∷
    row Addi I 0x707f 0x13 ∷
    row Slti I 0x707f 0x2013 ∷
    row Sltiu I 0x707f 0x3013 ∷
    row Xori I 0x707f 0x4013 ∷
    row Ori I 0x707f 0x6013 ∷
    row Andi I 0x707f 0x7013 ∷
    row Fence FenceFields 0x707f 0xf ∷
    row Csrrw Csr 0x707f 0x1073 ∷
    row Csrrs Csr 0x707f 0x2073 ∷
    row Csrrc Csr 0x707f 0x3073 ∷
    row Csrrwi CsrImmediate 0x707f 0x5073 ∷
    row Csrrsi CsrImmediate 0x707f 0x6073 ∷
    row Csrrci CsrImmediate 0x707f 0x7073 ∷
    row Slli Shift 0xfe00707f 0x1013 ∷
    row Srli Shift 0xfe00707f 0x5013 ∷
    row Srai Shift 0xfe00707f 0x40005013 ∷
    row Add R 0xfe00707f 0x33 ∷
    row Sub R 0xfe00707f 0x40000033 ∷
    row Sll R 0xfe00707f 0x1033 ∷
    row Slt R 0xfe00707f 0x2033 ∷
    row Sltu R 0xfe00707f 0x3033 ∷
    row Xor R 0xfe00707f 0x4033 ∷
    row Srl R 0xfe00707f 0x5033 ∷
    row Or R 0xfe00707f 0x6033 ∷
    row And R 0xfe00707f 0x7033 ∷
    row Sra R 0xfe00707f 0x40005033 ∷
    row Ecall Whole 0xffffffff 0x73 ∷
    row Ebreak Whole 0xffffffff 0x100073 ∷
    row Mret Whole 0xffffffff 0x30200073 ∷
    row Wfi Whole 0xffffffff 0x10500073 ∷ []
