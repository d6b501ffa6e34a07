-- What an operand is read as: a register, a control register, an address or a target.
use Rattle.std.specs.Prelude.{ℕ, ◌-◌, ◌%◌, ◌==◌, Bool, List, [], ◌∷◌, Option, Some, None, Result, Ok, Err, cond, nat_le, nat_lt}
use Rattle.rv_asm.specs.declared.fault.Cause.{Cause}
use Rattle.rv_asm.specs.declared.fault.Cause.TheVariants.{Syntax, Name, Range}
use Rattle.rv_asm.specs.declared.numbers.Number.{Number}
use Rattle.rv_asm.specs.declared.numbers.Number.TheVariants.{Plus, Minus}
use Rattle.cos_text.specs.Lines.{before, after}
use Rattle.rv_asm.specs.Texts.{is_name}
use Rattle.rv_asm.specs.Numbers.{number, decimal_numeral, ranged, plain}
use Rattle.rv_asm.specs.Programs.{Placed, first_with}
use Rattle.rv_asm.specs.Csrs.{csr_number}

-- what is wrong with a text that isn't known in its place
abbrev pub unknown : List ℕ → Cause
unknown text = cond (is_name text) Name Syntax

-- one step, and the next where it succeeds
infixl 10 ◌>>=◌
abbrev pub ◌>>=◌ : {A B : Type 0} → Result A Cause → (A → Result B Cause) → Result B Cause
Ok x >>= f = f x
Err e >>= f = Err e

-- a number below a limit
abbrev pub below : ℕ → Option ℕ → Option ℕ
below limit None = None
below limit (Some n) = cond (nat_lt n limit) (Some n) None

-- x and the register's number, below 32
abbrev pub register_numbered : List ℕ → Option ℕ → Result ℕ Cause
register_numbered text None = Err (unknown text)
register_numbered text (Some n) = Ok n

abbrev pub register : List ℕ → Result ℕ Cause
register [] = Err Syntax
register (c ∷ cs) =
    cond (c == 120) (register_numbered (c ∷ cs) (below 32 (decimal_numeral cs))) (Err (unknown (c ∷ cs)))

-- a control register: its name, or a number up to 0xfff
abbrev pub csr_numbered : List ℕ → Option Number → Result ℕ Cause
csr_numbered text None = Err (unknown text)
csr_numbered text (Some n) = ranged 0 0xfff n

abbrev pub csr_or_number : List ℕ → Option ℕ → Result ℕ Cause
csr_or_number text None = csr_numbered text (number text)
csr_or_number text (Some n) = Ok n

abbrev pub csr : List ℕ → Result ℕ Cause
csr text = csr_or_number text (csr_number text)

-- an address is an offset, and a register in parentheses: the register and the offset
abbrev pub based : List ℕ → List ℕ → Option (List ℕ) → Result (ℕ × ℕ) Cause
based offset base None = Err Syntax
based offset base (Some []) = do
  n ← plain 2048 2047 offset
  r ← register base
  Ok (r, n)
based offset base (Some (c ∷ cs)) = Err Syntax

abbrev pub opened : List ℕ → Option (List ℕ) → Result (ℕ × ℕ) Cause
opened offset None = Err Syntax
opened offset (Some rest) = based offset (before 41 rest) (after 41 rest)

abbrev pub address : List ℕ → Result (ℕ × ℕ) Cause
address text = opened (before 40 text) (after 40 text)

-- the distance in bytes from one address to another
abbrev pub distance : ℕ → ℕ → Number
distance source goal = cond (nat_le source goal) (Plus (goal - source)) (Minus (source - goal))

abbrev pub is_even : Number → Bool
is_even (Plus n) = n % 2 == 0
is_even (Minus n) = n % 2 == 0

-- an even distance from -low to high, as a word
abbrev pub reached : ℕ → ℕ → Number → Result ℕ Cause
reached low high n = cond (is_even n) (ranged low high n) (Err Range)

-- a target is a distance, or the label of a line of the program
abbrev pub to_line : ℕ → ℕ → ℕ → Option Placed → Result ℕ Cause
to_line source low high None = Err Name
to_line source low high (Some line) = reached low high (distance source line.address)

abbrev pub target_at : List Placed → ℕ → ℕ → ℕ → List ℕ → Option Number → Result ℕ Cause
target_at program source low high text None =
    cond (is_name text) (to_line source low high (first_with text program)) (Err Syntax)
target_at program source low high text (Some n) = reached low high n

abbrev pub target : List Placed → ℕ → ℕ → ℕ → List ℕ → Result ℕ Cause
target program source low high text = target_at program source low high text (number text)

-- an operand that is there is read, and a missing one is a fault of form
abbrev pub read : {A : Type 0} → (List ℕ → Result A Cause) → Option (List ℕ) → Result A Cause
read f None = Err Syntax
read f (Some text) = f text
