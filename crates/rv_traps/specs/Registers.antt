-- The control registers of a hart in machine mode: their table, and what a read and a write do by it.
-- Source: the RISC-V privileged architecture, "Machine-Level CSRs", as far as this machine has it.
use Rattle.std.specs.Prelude.{◌≡◌, ℕ, ◌+◌, Bool, true, false, List, [], ◌∷◌, Option, Some, None, if◌then◌else◌, nat_eq, bit_and, unwrap_or, map}

-- how a register is kept: its value is stored, is the set of pending interrupts, or can't be written
pub data Kind : Type 0 where
  Stored : Kind
  Pending : Kind
  ReadOnly : Kind

-- a row of the table
pub record Register : Type 0 where
  pub number : ℕ
  pub at_reset : ℕ
  pub writable : ℕ
  pub kind : Kind

abbrev pub register : ℕ → ℕ → ℕ → Kind → Register
register n r w k = record { number = n; at_reset = r; writable = w; kind = k }

-- The numbers, as the manual has them.
abbrev pub mstatus : ℕ
mstatus = 0x300

abbrev pub misa : ℕ
misa = 0x301

abbrev pub mie : ℕ
mie = 0x304

abbrev pub mtvec : ℕ
mtvec = 0x305

abbrev pub mscratch : ℕ
mscratch = 0x340

abbrev pub mepc : ℕ
mepc = 0x341

abbrev pub mcause : ℕ
mcause = 0x342

abbrev pub mtval : ℕ
mtval = 0x343

abbrev pub mip : ℕ
mip = 0x344

abbrev pub mvendorid : ℕ
mvendorid = 0xf11

abbrev pub marchid : ℕ
marchid = 0xf12

abbrev pub mimpid : ℕ
mimpid = 0xf13

abbrev pub mhartid : ℕ
mhartid = 0xf14

-- number, value at reset, writable bits, kind
abbrev pub registers : List Register
registers =
    register mstatus 0x1800 0x88 Stored ∷
    register misa 0x40000100 0 Stored ∷
    register mie 0 0x880 Stored ∷
    register mtvec 0 0xfffffffd Stored ∷
    register mscratch 0 0xffffffff Stored ∷
    register mepc 0 0xfffffffc Stored ∷
    register mcause 0 0xffffffff Stored ∷
    register mtval 0 0xffffffff Stored ∷
    register mip 0 0 Pending ∷
    register mvendorid 0 0 ReadOnly ∷
    register marchid 0 0 ReadOnly ∷
    register mimpid 0 0 ReadOnly ∷
    register mhartid 0 0 ReadOnly ∷ []

-- the values of the registers at reset, in the order of the table: so the state of a hart's registers is seen
abbrev pub reset_values : List ℕ
reset_values = map (λ r. r.at_reset) registers

-- what a register holds after a write: the writable bits of the value, the other bits as at reset
abbrev pub kept : Register → ℕ → ℕ
kept r value = bit_and value r.writable + r.at_reset

-- what a register with this value shows while these interrupts are pending
abbrev pub shown : Kind → ℕ → ℕ → ℕ
shown Stored pending value = value
shown Pending pending value = pending
shown ReadOnly pending value = value

abbrev pub read_in : List Register → List ℕ → ℕ → ℕ → Option ℕ
read_in [] values number pending = None
read_in (r ∷ rest) [] number pending = None
read_in (r ∷ rest) (value ∷ values) number pending =
    if nat_eq r.number number then Some (shown r.kind pending value) else read_in rest values number pending

-- the value of the register with this number, where the table lists it
abbrev pub read_of : List ℕ → ℕ → ℕ → Option ℕ
read_of values number pending = read_in registers values number pending

-- the value that the register with this number holds
abbrev pub held : List ℕ → ℕ → ℕ
held values number = unwrap_or (read_of values number 0) 0

abbrev pub put_in : List Register → List ℕ → ℕ → ℕ → List ℕ
put_in [] values number new = values
put_in (r ∷ rest) [] number new = []
put_in (r ∷ rest) (value ∷ values) number new =
    if nat_eq r.number number then kept r new ∷ values else value ∷ put_in rest values number new

-- the registers after the one with this number has taken a value
abbrev pub put : List ℕ → ℕ → ℕ → List ℕ
put values number new = put_in registers values number new

abbrev pub can_be_written : Kind → Bool
can_be_written Stored = true
can_be_written Pending = true
can_be_written ReadOnly = false

abbrev pub writable_in : List Register → ℕ → Bool
writable_in [] number = false
writable_in (r ∷ rest) number = if nat_eq r.number number then can_be_written r.kind else writable_in rest number

-- the table lists the register with this number, and it isn't read-only
abbrev pub is_writable : ℕ → Bool
is_writable number = writable_in registers number

-- the registers after a write, which changes nothing where it isn't allowed
abbrev pub written : List ℕ → ℕ → ℕ → List ℕ
written values number new = if is_writable number then put values number new else values

abbrev pub HeldIn : List Register → List ℕ → Type 0
HeldIn [] values = values ≡ []
HeldIn (r ∷ rest) [] = ⊥
HeldIn (r ∷ rest) (value ∷ values) = (kept r value ≡ value) × HeldIn rest values

-- each register holds a value that a write can leave in it
abbrev pub AreHeld : List ℕ → Type 0
AreHeld values = HeldIn registers values
