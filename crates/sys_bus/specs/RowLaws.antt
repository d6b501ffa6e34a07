-- The access of a unit is one of one, two or four bytes, for every row of the instruction table.
use Rattle.std.specs.Prelude.{◌≡◌, ℕ, ◌%◌, ◌^◌, ◌<◌, ◌⊎◌, Bool, true, false, if◌then◌else◌, nat_eq, Option, Some, None, refl}
use Rattle.std.proofs.Common.{arith, inl, inr, subst}
use Rattle.rv_table.specs.declared.instr.Instr.{Instr}
use Rattle.rv_table.specs.declared.instr.Instr.TheVariants.{Jal, Jalr, Beq, Bne, Blt, Bge, Bltu, Bgeu, Lb, Lh, Lw, Lbu, Lhu, Sb, Sh, Sw, Csrrw, Csrrs, Csrrc, Csrrwi, Csrrsi, Csrrci}
use Rattle.rv_table.specs.Decoded.{decoded}
use Rattle.rv_traps.specs.Registers.{read_of}
use Rattle.rv_traps.specs.Traps.{interrupt_of}
use Rattle.rv_core.specs.declared.hart.Hart.{Hart}
use Rattle.rv_core.specs.declared.effect.Effect.{Effect}
use Rattle.rv_core.specs.declared.effect.Effect.TheVariants.{Goes, Updates, Traps, Returns, Accesses}
use Rattle.rv_core.specs.declared.effect.Update.{Update}
use Rattle.rv_core.specs.declared.effect.Update.TheVariants.{Keep, Write, Set, Clear}
use Rattle.rv_core.specs.declared.issue.Waiting.{Waiting}
use Rattle.rv_core.specs.Operations.{reg, add}
use Rattle.rv_core.specs.Rows.{performed, jumps, branches, loads, stores, updates, updates_value, updates_csr, is_allowed}
use Rattle.rv_core.specs.Units.{applied, effect_of, interrupted, fetched_effect, executed, waiting_of}
use Rattle.sys_bus.specs.Accesses.{IsHartAccess}

abbrev pub AccessIs : Effect → Type 0
AccessIs (Goes rd value pc) = Unit
AccessIs (Updates rd value number new) = Unit
AccessIs (Traps cause value) = Unit
AccessIs Returns = Unit
AccessIs (Accesses a i) = IsHartAccess a

either-is : (b : Bool) (x y : Effect) → AccessIs x → AccessIs y → AccessIs (if b then x else y)
either-is true x y p q = p
either-is false x y p q = q

jumps-is : (h : Hart) (rd target : ℕ) → AccessIs (jumps h rd target)
jumps-is h rd target = either-is (nat_eq (target % 4) 0) _ _ tt tt

branches-is : (h : Hart) (taken : Bool) (offset : ℕ) → AccessIs (branches h taken offset)
branches-is h taken offset = either-is taken _ _ (jumps-is h 0 (add h.pc offset)) tt

loads-is : (size address : ℕ) (i : Instr) → (size ≡ 1) ⊎ (size ≡ 2) ⊎ (size ≡ 4) → 0 < 256 ^ size → address < 2 ^ 32 → AccessIs (loads size address i)
loads-is size address i is some small = either-is (nat_eq (address % size) 0) _ _ (record { size = is; addr = small; value = some; read = λ e. refl }) tt

stores-is : (size address value : ℕ) (i : Instr) → (size ≡ 1) ⊎ (size ≡ 2) ⊎ (size ≡ 4) → value < 256 ^ size → address < 2 ^ 32 → AccessIs (stores size address value i)
stores-is size address value i is fits small = either-is (nat_eq (address % size) 0) _ _ (record { size = is; addr = small; value = fits; read = λ e. absurd (cc) }) tt

updates-is : (h : Hart) (rd number : ℕ) (u : Update) (old : ℕ) → AccessIs (updates h rd number u old)
updates-is h rd number Keep old = tt
updates-is h rd number (Write value) old = tt
updates-is h rd number (Set bits) old = tt
updates-is h rd number (Clear bits) old = tt

updates_value-is : (h : Hart) (word rd number : ℕ) (u : Update) (old : Option ℕ) → AccessIs (updates_value h word rd number u old)
updates_value-is h word rd number u None = tt
updates_value-is h word rd number u (Some old) = either-is (is_allowed number u) _ _ (updates-is h rd number u old) tt

updates_csr-is : (h : Hart) (pending word rd number : ℕ) (u : Update) → AccessIs (updates_csr h pending word rd number u)
updates_csr-is h pending word rd number u = updates_value-is h word rd number u (read_of h.csrs number pending)

add-fits : (a b : ℕ) → add a b < 2 ^ 32
add-fits a b = omega arith

performed-is : (h : Hart) (pending word : ℕ) (i : Instr) → AccessIs (performed h pending word i)
performed-is h pending word (Jal rd imm) = jumps-is h rd _
performed-is h pending word (Jalr rd rs1 imm) = jumps-is h rd _
performed-is h pending word (Beq rs1 rs2 imm) = branches-is h _ imm
performed-is h pending word (Bne rs1 rs2 imm) = branches-is h _ imm
performed-is h pending word (Blt rs1 rs2 imm) = branches-is h _ imm
performed-is h pending word (Bge rs1 rs2 imm) = branches-is h _ imm
performed-is h pending word (Bltu rs1 rs2 imm) = branches-is h _ imm
performed-is h pending word (Bgeu rs1 rs2 imm) = branches-is h _ imm
performed-is h pending word (Lb rd rs1 imm) = loads-is 1 _ (Lb rd rs1 imm) (inl refl) (omega arith) (add-fits (reg h.regs rs1) imm)
performed-is h pending word (Lh rd rs1 imm) = loads-is 2 _ (Lh rd rs1 imm) (inr (inl refl)) (omega arith) (add-fits (reg h.regs rs1) imm)
performed-is h pending word (Lw rd rs1 imm) = loads-is 4 _ (Lw rd rs1 imm) (inr (inr refl)) (omega arith) (add-fits (reg h.regs rs1) imm)
performed-is h pending word (Lbu rd rs1 imm) = loads-is 1 _ (Lbu rd rs1 imm) (inl refl) (omega arith) (add-fits (reg h.regs rs1) imm)
performed-is h pending word (Lhu rd rs1 imm) = loads-is 2 _ (Lhu rd rs1 imm) (inr (inl refl)) (omega arith) (add-fits (reg h.regs rs1) imm)
performed-is h pending word (Sb rs1 rs2 imm) = stores-is 1 _ _ (Sb rs1 rs2 imm) (inl refl) (omega arith) (add-fits (reg h.regs rs1) imm)
performed-is h pending word (Sh rs1 rs2 imm) = stores-is 2 _ _ (Sh rs1 rs2 imm) (inr (inl refl)) (omega arith) (add-fits (reg h.regs rs1) imm)
performed-is h pending word (Sw rs1 rs2 imm) = stores-is 4 _ _ (Sw rs1 rs2 imm) (inr (inr refl)) (omega arith) (add-fits (reg h.regs rs1) imm)
performed-is h pending word (Csrrw rd rs1 csr) = updates_csr-is h pending word rd csr (Write (reg h.regs rs1))
performed-is h pending word (Csrrs rd rs1 csr) = updates_csr-is h pending word rd csr _
performed-is h pending word (Csrrc rd rs1 csr) = updates_csr-is h pending word rd csr _
performed-is h pending word (Csrrwi rd uimm csr) = updates_csr-is h pending word rd csr (Write uimm)
performed-is h pending word (Csrrsi rd uimm csr) = updates_csr-is h pending word rd csr _
performed-is h pending word (Csrrci rd uimm csr) = updates_csr-is h pending word rd csr _
performed-is h pending word _ = tt

executed-is : (h : Hart) (pending word : ℕ) (i : Option Instr) → AccessIs (executed h pending word i)
executed-is h pending word None = tt
executed-is h pending word (Some i) = performed-is h pending word i

fetched_effect-is : (h : Hart) (pending : ℕ) (fetched : Option ℕ) → AccessIs (fetched_effect h pending fetched)
fetched_effect-is h pending None = tt
fetched_effect-is h pending (Some word) = executed-is h pending word (decoded word)

interrupted-is : (h : Hart) (fetched : Option ℕ) (pending : ℕ) (cause : Option ℕ) → AccessIs (interrupted h fetched pending cause)
interrupted-is h fetched pending None = fetched_effect-is h pending fetched
interrupted-is h fetched pending (Some cause) = tt

effect_of-is : (h : Hart) (fetched : Option ℕ) (pending : ℕ) → AccessIs (effect_of h fetched pending)
unfolding effect_of
effect_of-is h fetched pending = interrupted-is h fetched pending (interrupt_of h.csrs pending)

waiting_of-is : (e : Effect) (x : Waiting) → AccessIs e → waiting_of e ≡ Some x → IsHartAccess x.request
waiting_of-is (Goes rd value pc) x is e = absurd (cc)
waiting_of-is (Updates rd value number new) x is e = absurd (cc)
waiting_of-is (Traps cause value) x is e = absurd (cc)
waiting_of-is Returns x is e = absurd (cc)
waiting_of-is (Accesses a i) x is e = (let same : record { request = a; rest = i } ≡ x = cc in subst (λ (y : Waiting). IsHartAccess y.request) same is)

-- The access that a unit waits for.
pub waiting-is : (h : Hart) (fetched : Option ℕ) (pending : ℕ) (x : Waiting) → waiting_of (effect_of h fetched pending) ≡ Some x → IsHartAccess x.request
waiting-is h fetched pending x e = waiting_of-is (effect_of h fetched pending) x (effect_of-is h fetched pending) e

-- It changes nothing before its answer.
pub waiting_of-keeps : (h : Hart) (e : Effect) (x : Waiting) → waiting_of e ≡ Some x → applied h e ≡ h
waiting_of-keeps h (Goes rd value pc) x e = absurd (cc)
waiting_of-keeps h (Updates rd value number new) x e = absurd (cc)
waiting_of-keeps h (Traps cause value) x e = absurd (cc)
waiting_of-keeps h Returns x e = absurd (cc)
waiting_of-keeps h (Accesses a i) x e = refl
