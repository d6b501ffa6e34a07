-- What each row of the instruction table does: which register takes which value, where pc goes, which control register
-- is written, which trap is taken or which access is made. `performed` has a line for each row.
-- Source: the RISC-V Instruction Set Manual, Volume I, the chapters on RV32I and Zicsr; Volume II for MRET and WFI.
use Rattle.std.specs.Prelude.{◌≡◌, ℕ, ◌<◌, ◌+◌, ◌*◌, ◌/◌, ◌%◌, ◌^◌, Bool, true, false, Option, Some, None, if◌then◌else◌, nat_eq, bit_and, bit_or, bit_xor}
use Rattle.rv_table.specs.declared.instr.Instr.{Instr}
use Rattle.rv_table.specs.declared.instr.Instr.TheVariants.{Lui, Auipc, Jal, Jalr, Beq, Bne, Blt, Bge, Bltu, Bgeu, Lb, Lh, Lw, Lbu, Lhu, Sb, Sh, Sw, Addi, Slti, Sltiu, Xori, Ori, Andi, Fence, Csrrw, Csrrs, Csrrc, Csrrwi, Csrrsi, Csrrci, Slli, Srli, Srai, Add, Sub, Sll, Slt, Sltu, Xor, Srl, Or, And, Sra, Ecall, Ebreak, Mret, Wfi}
use Rattle.rv_table.specs.Coding.{IsWithin}
use Rattle.rv_traps.specs.Registers.{read_of, is_writable}
use Rattle.rv_core.specs.declared.hart.Hart.{Hart}
use Rattle.rv_core.specs.declared.effect.Effect.{Effect}
use Rattle.rv_core.specs.declared.effect.Effect.TheVariants.{Goes, Updates, Traps, Returns, Accesses}
use Rattle.rv_core.specs.declared.effect.Update.{Update}
use Rattle.rv_core.specs.declared.effect.Update.TheVariants.{Keep, Write, Set, Clear}
use Rattle.rv_core.specs.Operations.{reg, add, subtract, flag, negated, is_less_signed, is_less_unsigned, shift_left, shift_right, shift_right_signed, low_bits, sign_extended, updated}

-- causes of exceptions, by the manual's table of mcause
abbrev pub misaligned_fetch : ℕ
misaligned_fetch = 0

abbrev pub fetch_fault : ℕ
fetch_fault = 1

abbrev pub illegal_instruction : ℕ
illegal_instruction = 2

abbrev pub breakpoint : ℕ
breakpoint = 3

abbrev pub misaligned_load : ℕ
misaligned_load = 4

abbrev pub load_fault : ℕ
load_fault = 5

abbrev pub misaligned_store : ℕ
misaligned_store = 6

abbrev pub store_fault : ℕ
store_fault = 7

abbrev pub call_from_machine : ℕ
call_from_machine = 11

-- the address of the next instruction
abbrev pub next_pc : Hart → ℕ
next_pc h = add h.pc 4

-- a register takes a value, and the next instruction follows
abbrev pub sets : Hart → ℕ → ℕ → Effect
sets h rd value = Goes rd value (next_pc h)

-- nothing but that the next instruction follows: no register, since x0 is never written
abbrev pub continues : Hart → Effect
continues h = sets h 0 0

-- a jump: a register takes the address of the next instruction, and pc goes to the target
abbrev pub jumps : Hart → ℕ → ℕ → Effect
jumps h rd target = if nat_eq (target % 4) 0 then Goes rd (next_pc h) target else Traps misaligned_fetch target

-- a branch: pc goes to the target where it is taken, and no register is written
abbrev pub branches : Hart → Bool → ℕ → Effect
branches h taken offset = if taken then jumps h 0 (add h.pc offset) else continues h

-- the access of a load
abbrev pub loads : ℕ → ℕ → Instr → Effect
loads size address i =
    if nat_eq (address % size) 0 then Accesses (record { write = false; addr = address; size = size; value = 0 }) i
    else Traps misaligned_load address

-- the access of a store
abbrev pub stores : ℕ → ℕ → ℕ → Instr → Effect
stores size address value i =
    if nat_eq (address % size) 0 then Accesses (record { write = true; addr = address; size = size; value = value }) i
    else Traps misaligned_store address

-- a row of Zicsr: the register takes the old value of the control register, which takes the updated one;
-- an access to a control register that isn't there, or a write to a read-only one, is illegal
abbrev pub updates : Hart → ℕ → ℕ → Update → ℕ → Effect
updates h rd number Keep old = sets h rd old
updates h rd number (Write value) old = Updates rd old number value
updates h rd number (Set bits) old = Updates rd old number (updated (Set bits) old)
updates h rd number (Clear bits) old = Updates rd old number (updated (Clear bits) old)

abbrev pub is_allowed : ℕ → Update → Bool
is_allowed number Keep = true
is_allowed number (Write value) = is_writable number
is_allowed number (Set bits) = is_writable number
is_allowed number (Clear bits) = is_writable number

abbrev pub updates_value : Hart → ℕ → ℕ → ℕ → Update → Option ℕ → Effect
updates_value h word rd number update None = Traps illegal_instruction word
updates_value h word rd number update (Some old) =
    if is_allowed number update then updates h rd number update old else Traps illegal_instruction word

abbrev pub updates_csr : Hart → ℕ → ℕ → ℕ → ℕ → Update → Effect
updates_csr h pending word rd number update = updates_value h word rd number update (read_of h.csrs number pending)

-- bits of x0, or the immediate 0, don't write
abbrev pub unless_zero : ℕ → Update → Update
unless_zero source update = if nat_eq source 0 then Keep else update

-- what a row does, at these pending interrupts and this word
abbrev pub performed : Hart → ℕ → ℕ → Instr → Effect
performed h pending word (Lui rd imm) = sets h rd imm
performed h pending word (Auipc rd imm) = sets h rd (add h.pc imm)
performed h pending word (Jal rd imm) = jumps h rd (add h.pc imm)
performed h pending word (Jalr rd rs1 imm) = jumps h rd (add (reg h.regs rs1) imm / 2 * 2)
performed h pending word (Beq rs1 rs2 imm) = branches h (nat_eq (reg h.regs rs1) (reg h.regs rs2)) imm
performed h pending word (Bne rs1 rs2 imm) = branches h (negated (nat_eq (reg h.regs rs1) (reg h.regs rs2))) imm
performed h pending word (Blt rs1 rs2 imm) = branches h (is_less_signed (reg h.regs rs1) (reg h.regs rs2)) imm
performed h pending word (Bge rs1 rs2 imm) = branches h (negated (is_less_signed (reg h.regs rs1) (reg h.regs rs2))) imm
performed h pending word (Bltu rs1 rs2 imm) = branches h (is_less_unsigned (reg h.regs rs1) (reg h.regs rs2)) imm
performed h pending word (Bgeu rs1 rs2 imm) =
    branches h (negated (is_less_unsigned (reg h.regs rs1) (reg h.regs rs2))) imm
performed h pending word (Lb rd rs1 imm) = loads 1 (add (reg h.regs rs1) imm) (Lb rd rs1 imm)
performed h pending word (Lh rd rs1 imm) = loads 2 (add (reg h.regs rs1) imm) (Lh rd rs1 imm)
performed h pending word (Lw rd rs1 imm) = loads 4 (add (reg h.regs rs1) imm) (Lw rd rs1 imm)
performed h pending word (Lbu rd rs1 imm) = loads 1 (add (reg h.regs rs1) imm) (Lbu rd rs1 imm)
performed h pending word (Lhu rd rs1 imm) = loads 2 (add (reg h.regs rs1) imm) (Lhu rd rs1 imm)
performed h pending word (Sb rs1 rs2 imm) =
    stores 1 (add (reg h.regs rs1) imm) (low_bits 8 (reg h.regs rs2)) (Sb rs1 rs2 imm)
performed h pending word (Sh rs1 rs2 imm) =
    stores 2 (add (reg h.regs rs1) imm) (low_bits 16 (reg h.regs rs2)) (Sh rs1 rs2 imm)
performed h pending word (Sw rs1 rs2 imm) =
    stores 4 (add (reg h.regs rs1) imm) (low_bits 32 (reg h.regs rs2)) (Sw rs1 rs2 imm)
performed h pending word (Addi rd rs1 imm) = sets h rd (add (reg h.regs rs1) imm)
performed h pending word (Slti rd rs1 imm) = sets h rd (flag (is_less_signed (reg h.regs rs1) imm))
performed h pending word (Sltiu rd rs1 imm) = sets h rd (flag (is_less_unsigned (reg h.regs rs1) imm))
performed h pending word (Xori rd rs1 imm) = sets h rd (bit_xor (reg h.regs rs1) imm)
performed h pending word (Ori rd rs1 imm) = sets h rd (bit_or (reg h.regs rs1) imm)
performed h pending word (Andi rd rs1 imm) = sets h rd (bit_and (reg h.regs rs1) imm)
performed h pending word (Slli rd rs1 shamt) = sets h rd (shift_left (reg h.regs rs1) shamt)
performed h pending word (Srli rd rs1 shamt) = sets h rd (shift_right (reg h.regs rs1) shamt)
performed h pending word (Srai rd rs1 shamt) = sets h rd (shift_right_signed (reg h.regs rs1) shamt)
performed h pending word (Add rd rs1 rs2) = sets h rd (add (reg h.regs rs1) (reg h.regs rs2))
performed h pending word (Sub rd rs1 rs2) = sets h rd (subtract (reg h.regs rs1) (reg h.regs rs2))
performed h pending word (Sll rd rs1 rs2) = sets h rd (shift_left (reg h.regs rs1) (reg h.regs rs2))
performed h pending word (Slt rd rs1 rs2) = sets h rd (flag (is_less_signed (reg h.regs rs1) (reg h.regs rs2)))
performed h pending word (Sltu rd rs1 rs2) = sets h rd (flag (is_less_unsigned (reg h.regs rs1) (reg h.regs rs2)))
performed h pending word (Xor rd rs1 rs2) = sets h rd (bit_xor (reg h.regs rs1) (reg h.regs rs2))
performed h pending word (Srl rd rs1 rs2) = sets h rd (shift_right (reg h.regs rs1) (reg h.regs rs2))
performed h pending word (Sra rd rs1 rs2) = sets h rd (shift_right_signed (reg h.regs rs1) (reg h.regs rs2))
performed h pending word (Or rd rs1 rs2) = sets h rd (bit_or (reg h.regs rs1) (reg h.regs rs2))
performed h pending word (And rd rs1 rs2) = sets h rd (bit_and (reg h.regs rs1) (reg h.regs rs2))
performed h pending word (Fence rd rs1 imm) = continues h
performed h pending word Ecall = Traps call_from_machine 0
performed h pending word Ebreak = Traps breakpoint 0
performed h pending word Mret = Returns
performed h pending word Wfi = continues h
performed h pending word (Csrrw rd rs1 csr) = updates_csr h pending word rd csr (Write (reg h.regs rs1))
performed h pending word (Csrrs rd rs1 csr) = updates_csr h pending word rd csr (unless_zero rs1 (Set (reg h.regs rs1)))
performed h pending word (Csrrc rd rs1 csr) =
    updates_csr h pending word rd csr (unless_zero rs1 (Clear (reg h.regs rs1)))
performed h pending word (Csrrwi rd uimm csr) = updates_csr h pending word rd csr (Write uimm)
performed h pending word (Csrrsi rd uimm csr) = updates_csr h pending word rd csr (unless_zero uimm (Set uimm))
performed h pending word (Csrrci rd uimm csr) = updates_csr h pending word rd csr (unless_zero uimm (Clear uimm))

-- what the answer of a row's access makes of it: a load's register takes the bytes of its size, and a refused access
-- traps
abbrev pub completed : Hart → Instr → Option ℕ → Effect
completed h (Lb rd rs1 imm) (Some answer) = sets h rd (sign_extended 8 (low_bits 8 answer))
completed h (Lh rd rs1 imm) (Some answer) = sets h rd (sign_extended 16 (low_bits 16 answer))
completed h (Lw rd rs1 imm) (Some answer) = sets h rd answer
completed h (Lbu rd rs1 imm) (Some answer) = sets h rd (low_bits 8 answer)
completed h (Lhu rd rs1 imm) (Some answer) = sets h rd (low_bits 16 answer)
completed h (Lb rd rs1 imm) None = Traps load_fault (add (reg h.regs rs1) imm)
completed h (Lh rd rs1 imm) None = Traps load_fault (add (reg h.regs rs1) imm)
completed h (Lw rd rs1 imm) None = Traps load_fault (add (reg h.regs rs1) imm)
completed h (Lbu rd rs1 imm) None = Traps load_fault (add (reg h.regs rs1) imm)
completed h (Lhu rd rs1 imm) None = Traps load_fault (add (reg h.regs rs1) imm)
completed h (Sb rs1 rs2 imm) None = Traps store_fault (add (reg h.regs rs1) imm)
completed h (Sh rs1 rs2 imm) None = Traps store_fault (add (reg h.regs rs1) imm)
completed h (Sw rs1 rs2 imm) None = Traps store_fault (add (reg h.regs rs1) imm)
completed h i answer = continues h

-- a load or a store
abbrev pub makes_access : Instr → Bool
makes_access (Lb rd rs1 imm) = true
makes_access (Lh rd rs1 imm) = true
makes_access (Lw rd rs1 imm) = true
makes_access (Lbu rd rs1 imm) = true
makes_access (Lhu rd rs1 imm) = true
makes_access (Sb rs1 rs2 imm) = true
makes_access (Sh rs1 rs2 imm) = true
makes_access (Sw rs1 rs2 imm) = true
makes_access i = false

-- the registers that are written are there, and an access is that of a load or a store
abbrev pub IsLawful : Effect → Type 0
IsLawful (Goes rd value pc) = rd < 32
IsLawful (Updates rd value number new) = rd < 32
IsLawful (Traps cause value) = Unit
IsLawful Returns = Unit
IsLawful (Accesses access i) = IsWithin i × (makes_access i ≡ true)
