-- What an access asks of registers: each register is a word of four bytes, all of them enabled.
use Rattle.std.specs.Prelude.{ℕ, ◌%◌, ◌^◌, ◌&&◌, Bool, true, false, if◌then◌else◌, nat_eq, Option, Some, None}
use Rattle.cosim_model.specs.declared.values.Access.{Access}
use Rattle.cosim_model.specs.declared.values.Answer.{Answer}
use Rattle.dev_line.specs.declared.request.Request.{Request}
use Rattle.dev_line.specs.declared.request.Request.TheVariants.{Read, Write, Refused}

abbrev pub is_word : Access → Bool
is_word a = nat_eq a.size 4 && nat_eq (a.lanes % 16) 15

-- An access of a register, the one at its address, if any. Code 1: it isn't a word. Code 2: there is no such register.
abbrev pub word_request : {R : Type 0} → Access → Option R → Request R
word_request a None = Refused 2
word_request a (Some register) = if a.write then Write register (a.value % 2 ^ 32) else Read register

abbrev pub request_of : {R : Type 0} → Access → Option R → Request R
request_of a register = if is_word a then word_request a register else Refused 1

abbrev pub given : ℕ → Answer
given value = record { code = 0; value = value }

abbrev pub refused : ℕ → Answer
refused code = record { code = code; value = 0 }

abbrev pub flag : Bool → ℕ
flag on = if on then 1 else 0

abbrev pub low_word : ℕ → ℕ
low_word value = value % 2 ^ 32
