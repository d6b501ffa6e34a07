-- The operands of each format, as they are written: read one by one from the left, and then counted.
use Rattle.std.specs.Prelude.{ℕ, ◌*◌, ◌%◌, ◌^◌, ◌==◌, ◌||◌, Bool, List, [], ◌∷◌, Result, Ok, Err, cond, length, slice_get}
use Rattle.rv_table.specs.declared.operands.Operands.{Operands}
use Rattle.rv_table.specs.declared.operands.Operands.TheVariants.{U as OfU, J as OfJ, I as OfI, B as OfB, S as OfS, Shift as OfShift, R as OfR, Fence as OfFence, Whole as OfWhole, Csr as OfCsr, CsrImmediate as OfCsrImmediate}
use Rattle.rv_table.specs.declared.row.Row.{Row}
use Rattle.rv_table.specs.declared.row.Format.{Format}
use Rattle.rv_table.specs.declared.row.Format.TheVariants.{U, J, I, B, S, Shift, R, Fence, Whole, Csr, CsrImmediate}
use Rattle.rv_asm.specs.declared.fault.Cause.{Cause}
use Rattle.rv_asm.specs.declared.fault.Cause.TheVariants.{Syntax}
use Rattle.rv_asm.specs.Numbers.{plain}
use Rattle.rv_asm.specs.Programs.{Placed}
use Rattle.rv_asm.specs.Readings.{◌>>=◌, register, csr, address, target, read}

-- there are so many operands
abbrev pub exactly : ℕ → List (List ℕ) → Result Unit Cause
exactly count ops = cond (length ops == count) (Ok tt) (Err Syntax)

-- rd, N
abbrev pub upper : List (List ℕ) → Result Operands Cause
upper ops = do
  rd ← read register (slice_get ops 0)
  n ← read (plain 0 0xfffff) (slice_get ops 1)
  done ← exactly 2 ops
  Ok (OfU rd (n * 2 ^ 12 % 2 ^ 32))

-- rd, target
abbrev pub jump : List Placed → ℕ → List (List ℕ) → Result Operands Cause
jump program source ops = do
  rd ← read register (slice_get ops 0)
  imm ← read (target program source 0x100000 0xffffe) (slice_get ops 1)
  done ← exactly 2 ops
  Ok (OfJ rd imm)

-- rs1, rs2, target
abbrev pub branch : List Placed → ℕ → List (List ℕ) → Result Operands Cause
branch program source ops = do
  rs1 ← read register (slice_get ops 0)
  rs2 ← read register (slice_get ops 1)
  imm ← read (target program source 4096 4094) (slice_get ops 2)
  done ← exactly 3 ops
  Ok (OfB rs1 rs2 imm)

-- rd, N(rs1)
abbrev pub load : List (List ℕ) → Result Operands Cause
load ops = do
  rd ← read register (slice_get ops 0)
  place ← read address (slice_get ops 1)
  done ← exactly 2 ops
  Ok (OfI rd place.0 place.1)

-- rs2, N(rs1)
abbrev pub store : List (List ℕ) → Result Operands Cause
store ops = do
  rs2 ← read register (slice_get ops 0)
  place ← read address (slice_get ops 1)
  done ← exactly 2 ops
  Ok (OfS place.0 rs2 place.1)

-- rd, rs1, N
abbrev pub immediate : List (List ℕ) → Result Operands Cause
immediate ops = do
  rd ← read register (slice_get ops 0)
  rs1 ← read register (slice_get ops 1)
  imm ← read (plain 2048 2047) (slice_get ops 2)
  done ← exactly 3 ops
  Ok (OfI rd rs1 imm)

-- rd, rs1, N
abbrev pub shift : List (List ℕ) → Result Operands Cause
shift ops = do
  rd ← read register (slice_get ops 0)
  rs1 ← read register (slice_get ops 1)
  shamt ← read (plain 0 31) (slice_get ops 2)
  done ← exactly 3 ops
  Ok (OfShift rd rs1 shamt)

-- rd, rs1, rs2
abbrev pub registers : List (List ℕ) → Result Operands Cause
registers ops = do
  rd ← read register (slice_get ops 0)
  rs1 ← read register (slice_get ops 1)
  rs2 ← read register (slice_get ops 2)
  done ← exactly 3 ops
  Ok (OfR rd rs1 rs2)

-- rd, csr, rs1
abbrev pub csr_register : List (List ℕ) → Result Operands Cause
csr_register ops = do
  rd ← read register (slice_get ops 0)
  number ← read csr (slice_get ops 1)
  rs1 ← read register (slice_get ops 2)
  done ← exactly 3 ops
  Ok (OfCsr rd rs1 number)

-- rd, csr, N
abbrev pub csr_immediate : List (List ℕ) → Result Operands Cause
csr_immediate ops = do
  rd ← read register (slice_get ops 0)
  number ← read csr (slice_get ops 1)
  uimm ← read (plain 0 31) (slice_get ops 2)
  done ← exactly 3 ops
  Ok (OfCsrImmediate rd uimm number)

-- N, rs1, rd
abbrev pub full_fence : List (List ℕ) → Result Operands Cause
full_fence ops = do
  imm ← read (plain 0 0xfff) (slice_get ops 0)
  rs1 ← read register (slice_get ops 1)
  rd ← read register (slice_get ops 2)
  done ← exactly 3 ops
  Ok (OfFence rd rs1 imm)

-- nothing, which orders all of memory, input and output, or N, rs1, rd
abbrev pub fence : List (List ℕ) → Result Operands Cause
fence [] = Ok (OfFence 0 0 0xff)
fence (op ∷ ops) = full_fence (op ∷ ops)

-- nothing
abbrev pub whole : List (List ℕ) → Result Operands Cause
whole ops = do
  done ← exactly 0 ops
  Ok OfWhole

-- loads and JALR write their immediate and rs1 as an address
abbrev pub is_addressed : Row → Bool
is_addressed row = (row.matched % 2 ^ 7 == 0x03) || (row.matched % 2 ^ 7 == 0x67)

abbrev pub by_format : Format → Bool → List Placed → ℕ → List (List ℕ) → Result Operands Cause
by_format U addressed program source ops = upper ops
by_format J addressed program source ops = jump program source ops
by_format I addressed program source ops = cond addressed (load ops) (immediate ops)
by_format B addressed program source ops = branch program source ops
by_format S addressed program source ops = store ops
by_format Shift addressed program source ops = shift ops
by_format R addressed program source ops = registers ops
by_format Fence addressed program source ops = fence ops
by_format Whole addressed program source ops = whole ops
by_format Csr addressed program source ops = csr_register ops
by_format CsrImmediate addressed program source ops = csr_immediate ops

-- the operands of a row, written in a line at some address
abbrev pub operands_of : Row → List Placed → ℕ → List (List ℕ) → Result Operands Cause
operands_of row program source ops = by_format row.format (is_addressed row) program source ops
