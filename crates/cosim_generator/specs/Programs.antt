-- The machines that numbers generate: each draw of a generator that begins with the number settles one thing.
use Rattle.std.specs.Prelude.{ℕ, zero, suc, ◌+◌, ◌*◌, ◌/◌, ◌%◌, ◌^◌, ◌==◌, if◌then◌else◌, List, [], ◌∷◌, ◌++◌}
use Rattle.std.specs.List.{flat_map}
use Rattle.std.specs.Int.{w32, to_le_bytes}
use Rattle.rv_table.specs.declared.instr.Instr.{Instr}
use Rattle.rv_table.specs.declared.instr.Instr.TheVariants.{Lui, Jal, Lw, Sw, Addi, Csrrw, Csrrs, Mret}
use Rattle.rv_table.specs.Coding.{encoded}
use Rattle.cos_schedules.specs.Schedules.{following, drawn}

-- The number x after so many draws.
unfoldable pub after : ℕ → ℕ → ℕ
after zero x = x
after (suc n) x = following (after n x)

-- Draw n, where draws are counted from 0.
abbrev pub draw : ℕ → ℕ → ℕ
draw n x = drawn (after n x)

-- So many bytes, each a draw.
unfoldable pub drawn_bytes : ℕ → ℕ → List ℕ
drawn_bytes zero x = []
drawn_bytes (suc n) x = drawn_bytes n x ++ draw n x % 256 ∷ []

-- A block is one instruction, which two draws settle.

-- addi x8, x8, I
abbrev pub count_up : ℕ → Instr
count_up b = Addi 8 8 (b % 2048)

-- lw x9, O(xR), of x10, x11 or x12
abbrev pub load : ℕ → Instr
load b = Lw 9 (10 + b / 3 % 3) (4 * (b % 3))

-- sw x8, O(xR), of x10 or x11
abbrev pub store : ℕ → Instr
store b = Sw (10 + b / 3 % 2) 8 (4 * (b % 3))

-- sw x7, 16(x12)
abbrev pub begin_copy : Instr
begin_copy = Sw 12 7 16

abbrev pub block : ℕ → ℕ → Instr
block a b =
    if a % 4 == 0 then count_up b else if a % 4 == 1 then load b else if a % 4 == 2 then store b else begin_copy

-- So many blocks.
unfoldable pub drawn_blocks : ℕ → ℕ → List Instr
drawn_blocks zero x = []
drawn_blocks (suc n) x = drawn_blocks n x ++ block (draw (2 * n) x) (draw (2 * n + 1) x) ∷ []

-- The program.

abbrev pub mtvec : ℕ
mtvec = 0x305

abbrev pub mepc : ℕ
mepc = 0x341

abbrev pub lui : ℕ → ℕ → Instr
lui rd upper = Lui rd (upper * 2 ^ 12)

-- the windows of three ports and the system block in x10 to x13
abbrev pub windows : List Instr
windows = lui 10 0x10000 ∷ lui 11 0x10001 ∷ lui 12 0x10002 ∷ lui 13 0x100 ∷ []

-- a jump over the trap handler, whose address it leaves in x5; the handler skips the instruction that trapped
abbrev pub handler : List Instr
handler = Jal 5 20 ∷ Csrrs 30 0 mepc ∷ Addi 30 30 4 ∷ Csrrw 0 30 mepc ∷ Mret ∷ []

-- the handler is set; then source, target and length of the copies, and 1 in x7
abbrev pub settings : List Instr
settings =
    Csrrw 0 5 mtvec ∷ lui 6 0x80010 ∷ Sw 12 6 0 ∷ lui 6 0x80011 ∷ Sw 12 6 4 ∷ Addi 6 0 256 ∷ Sw 12 6 8 ∷ Addi 7 0 1 ∷ []

-- a store to the system block, and a jump to itself
abbrev pub ending : List Instr
ending = Sw 13 0 0 ∷ Jal 0 0 ∷ []

-- Words as bytes, the lowest first.
abbrev pub image_of : List Instr → List ℕ
image_of instrs = flat_map (λ i. to_le_bytes w32 (encoded i)) instrs

-- What a number generates. Its draws are the quantum, the gap, 64 bytes of input and the blocks, in this order.

abbrev pub quantum_of : ℕ → ℕ
quantum_of number = 1 + draw 0 number % 500

abbrev pub gap_of : ℕ → ℕ
gap_of number = 1 + draw 1 number % 200

abbrev pub input_of : ℕ → List ℕ
input_of number = drawn_bytes 64 (after 2 number)

abbrev pub program_after : ℕ → List Instr
program_after x = windows ++ handler ++ settings ++ drawn_blocks 4000 x ++ ending

abbrev pub program_of : ℕ → List Instr
program_of number = program_after (after 66 number)
