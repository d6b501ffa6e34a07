-- What a trap, the return from a trap and a pending interrupt do with the control registers.
-- Source: the RISC-V privileged architecture, the sections on mstatus, mtvec, mepc, mcause, mtval, mip and MRET.
use Rattle.std.specs.Prelude.{ℕ, Bool, ◌+◌, ◌*◌, ◌/◌, ◌%◌, ◌^◌, List, Option, Some, None, if◌then◌else◌, nat_eq, ◌&&◌, bit_and}
use Rattle.std.specs.Int.{bit_at}
use Rattle.rv_traps.specs.Registers.{mstatus, mie, mtvec, mepc, mcause, mtval, held, put}

-- mstatus.MIE, bit 3: interrupts are taken
abbrev pub mie_bit : List ℕ → ℕ
mie_bit csrs = bit_at (held csrs mstatus) 3

-- mstatus.MPIE, bit 7: interrupts were taken before the trap
abbrev pub mpie_bit : List ℕ → ℕ
mpie_bit csrs = bit_at (held csrs mstatus) 7

-- the registers after a trap: MPIE is what MIE was, MIE is 0
abbrev pub trapped : List ℕ → ℕ → ℕ → ℕ → List ℕ
trapped csrs cause pc value =
    put (put (put (put csrs mstatus (mie_bit csrs * 2 ^ 7)) mepc pc) mcause cause) mtval value

-- bit 31 of a cause: it is an interrupt's
abbrev pub is_interrupt : ℕ → Bool
is_interrupt cause = nat_eq (bit_at cause 31) 1

-- where a trap goes: mtvec with its low two bits cleared; in mode 1 an interrupt goes
-- four bytes further for each of its number, which is the cause without bit 31
abbrev pub handler : List ℕ → ℕ → ℕ
handler csrs cause =
    let base = held csrs mtvec / 4 * 4 in
    if nat_eq (held csrs mtvec % 4) 1 && is_interrupt cause then (base + 4 * (cause % 2 ^ 31)) % 2 ^ 32 else base

-- the registers after MRET: MIE is what MPIE was, MPIE is 1
abbrev pub returned : List ℕ → List ℕ
returned csrs = put csrs mstatus (mpie_bit csrs * 2 ^ 3 + 2 ^ 7)

-- where MRET goes
abbrev pub return_to : List ℕ → ℕ
return_to csrs = held csrs mepc

-- bits of mie and mip
abbrev pub external_bit : ℕ
external_bit = 11

abbrev pub timer_bit : ℕ
timer_bit = 7

-- causes: bit 31 marks an interrupt, and its number stands below
abbrev pub timer_interrupt : ℕ
timer_interrupt = 0x80000007

abbrev pub external_interrupt : ℕ
external_interrupt = 0x8000000b

-- the cause of the interrupt that is taken: MIE is 1, and mie and the pending interrupts share a bit; external goes
-- first
abbrev pub interrupt_of : List ℕ → ℕ → Option ℕ
interrupt_of csrs pending =
    let shared = bit_and (held csrs mie) pending in
    if nat_eq (mie_bit csrs) 0 then None else
    if nat_eq (bit_at shared external_bit) 1 then Some external_interrupt else
    if nat_eq (bit_at shared timer_bit) 1 then Some timer_interrupt else None
