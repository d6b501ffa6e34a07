-- One unit of the hart: an interrupt that is taken, or one instruction, which may wait for the answer of one access.
-- Source: the RISC-V Instruction Set Manual, Volume II, "Machine-Level ISA".
use Rattle.std.specs.Prelude.{ℕ, Option, Some, None}
use Rattle.rv_table.specs.declared.instr.Instr.{Instr}
use Rattle.rv_table.specs.Decoded.{decoded}
use Rattle.rv_traps.specs.Registers.{reset_values, written}
use Rattle.rv_traps.specs.Traps.{trapped, handler, returned, return_to, interrupt_of}
use Rattle.rv_core.specs.declared.hart.Hart.{Hart}
use Rattle.rv_core.specs.declared.hart.HartAccess.{HartAccess}
use Rattle.rv_core.specs.declared.effect.Effect.{Effect}
use Rattle.rv_core.specs.declared.effect.Effect.TheVariants.{Goes, Updates, Traps, Returns, Accesses}
use Rattle.rv_core.specs.declared.issue.Issue.{Issue}
use Rattle.rv_core.specs.declared.issue.Issue.TheVariants.{Local, Bus, Trap}
use Rattle.rv_core.specs.declared.issue.Waiting.{Waiting}
use Rattle.rv_core.specs.Operations.{with_reg}
use Rattle.rv_core.specs.Rows.{performed, completed, next_pc, fetch_fault, illegal_instruction}

-- the hart after what a row does
abbrev pub applied : Hart → Effect → Hart
applied h (Goes rd value pc) = record { pc = pc; regs = with_reg h.regs rd value; csrs = h.csrs }
applied h (Updates rd value number new) =
    record { pc = next_pc h; regs = with_reg h.regs rd value; csrs = written h.csrs number new }
applied h (Traps cause value) =
    record { pc = handler h.csrs cause; regs = h.regs; csrs = trapped h.csrs cause h.pc value }
applied h Returns = record { pc = return_to h.csrs; regs = h.regs; csrs = returned h.csrs }
applied h (Accesses access i) = h

-- the word that was fetched, where there is one: the instruction of its row, or an illegal instruction
abbrev pub executed : Hart → ℕ → ℕ → Option Instr → Effect
executed h pending word None = Traps illegal_instruction word
executed h pending word (Some i) = performed h pending word i

abbrev pub fetched_effect : Hart → ℕ → Option ℕ → Effect
fetched_effect h pending None = Traps fetch_fault h.pc
fetched_effect h pending (Some word) = executed h pending word (decoded word)

abbrev pub interrupted : Hart → Option ℕ → ℕ → Option ℕ → Effect
interrupted h fetched pending (Some cause) = Traps cause 0
interrupted h fetched pending None = fetched_effect h pending fetched

-- what a unit does: the first that applies of an interrupt, a fetch outside memory, an illegal instruction,
-- and what the row does, with its own traps
unfoldable pub effect_of : Hart → Option ℕ → ℕ → Effect
effect_of h fetched pending = interrupted h fetched pending (interrupt_of h.csrs pending)

-- a unit as a hart, or as an access with what each answer makes of the hart
pub data UnitOf : Type 0 where
  Whole : Hart → UnitOf
  Waits : HartAccess → (Option ℕ → Hart) → UnitOf

abbrev pub unit_after : Hart → Effect → UnitOf
unit_after h (Goes rd value pc) = Whole (applied h (Goes rd value pc))
unit_after h (Updates rd value number new) = Whole (applied h (Updates rd value number new))
unit_after h (Traps cause value) = Whole (applied h (Traps cause value))
unit_after h Returns = Whole (applied h Returns)
unit_after h (Accesses access i) = Waits access (λ answer. applied h (completed h i answer))

abbrev pub unit_of : Hart → Option ℕ → ℕ → UnitOf
unit_of h fetched pending = unit_after h (effect_of h fetched pending)

-- the hart after a unit whose access, where it makes one, has this answer
abbrev pub hart_after : UnitOf → Option ℕ → Hart
hart_after (Whole h) answer = h
hart_after (Waits access after) answer = after answer

-- how a unit is issued
abbrev pub issued : Hart → Effect → Issue
issued h (Goes rd value pc) = Local (applied h (Goes rd value pc))
issued h (Updates rd value number new) = Local (applied h (Updates rd value number new))
issued h (Traps cause value) = Trap (applied h (Traps cause value))
issued h Returns = Local (applied h Returns)
issued h (Accesses access i) = Bus access i

-- what a unit waits for
abbrev pub waiting_of : Effect → Option Waiting
waiting_of (Goes rd value pc) = None
waiting_of (Updates rd value number new) = None
waiting_of (Traps cause value) = None
waiting_of Returns = None
waiting_of (Accesses access i) = Some (record { request = access; rest = i })
