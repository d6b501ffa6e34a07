-- The UART as a function on its registers, its input and what it sent.
use Rattle.std.specs.Prelude.{ℕ, ◌+◌, ◌*◌, ◌%◌, Bool, true, false, if◌then◌else◌, nat_eq, nat_lt, Option, Some, None, List, [], ◌∷◌, ◌++◌, length, get_or}
use Rattle.cosim_model.specs.declared.values.Access.{Access}
use Rattle.cosim_model.specs.declared.values.Answer.{Answer}
use Rattle.cosim_model.specs.Values.{no_caps}
use Rattle.cosim_model.specs.Parts.{DeviceModel}
use Rattle.dev_line.specs.Wires.{WireState, fresh_wire, due_of, ruled, answered, is_high, passed, wanted_before, levels_left}
use Rattle.dev_line.specs.declared.request.Request.{Request}
use Rattle.dev_line.specs.declared.request.Request.TheVariants.{Read, Write, Refused}
use Rattle.dev_line.specs.Requests.{request_of, given, refused, flag}
use Rattle.dev_uart.specs.declared.register.Register.{Register}
use Rattle.dev_uart.specs.declared.register.Register.TheVariants.{Data, Status, Control}

pub record UartRegisters : Type 0 where
  pub input : List ℕ
  -- ticks from one byte of the input to the next
  pub gap : ℕ
  -- how many bytes of the input were read
  pub taken : ℕ
  -- bit 0 of CONTROL
  pub enabled : Bool
  pub sent : List ℕ
  pub wire : WireState

abbrev pub fresh_uart : ℕ → List ℕ → ℕ → UartRegisters
fresh_uart line input gap =
    record { input = input; gap = gap; taken = 0; enabled = false; sent = []; wire = fresh_wire line }

-- When the next byte that isn't taken arrives: byte i of the input arrives at tick (i + 1) times the gap.
abbrev pub arrival : UartRegisters → Option ℕ
arrival s = if nat_lt s.taken (length s.input) then Some ((s.taken + 1) * s.gap) else None

abbrev pub has_byte : UartRegisters → Bool
has_byte s = is_high (arrival s) s.wire.seen

-- The level is high while an arrived byte isn't taken, where the UART is enabled.
abbrev pub rises : UartRegisters → Option ℕ
rises s = if s.enabled then arrival s else None

abbrev pub level : UartRegisters → Bool
level s = is_high (rises s) s.wire.seen

abbrev pub advanced : UartRegisters → ℕ → UartRegisters
advanced s tick = record s { wire = passed s.wire (rises s) tick }

abbrev pub register_at : ℕ → Option Register
register_at addr = if nat_eq addr 0 then Some Data else if nat_eq addr 4 then Some Status else if nat_eq addr 8
    then Some Control else None

-- A read of DATA takes the next arrived byte, or gives 0 where there is none.
abbrev pub taken_if : UartRegisters → Bool → UartRegisters × Answer
taken_if s true = (record s { taken = s.taken + 1 }, given (get_or s.input s.taken 0))
taken_if s false = (s, given 0)

abbrev pub register_read : UartRegisters → Register → UartRegisters × Answer
register_read s Data = taken_if s (has_byte s)
register_read s Status = (s, given (flag (has_byte s)))
register_read s Control = (s, given (flag s.enabled))

-- The low byte is sent.
abbrev pub sent_also : UartRegisters → ℕ → UartRegisters
sent_also s value = record s { sent = s.sent ++ value % 256 ∷ [] }

abbrev pub register_written : UartRegisters → Register → ℕ → UartRegisters × Answer
register_written s Data value = (sent_also s value, given 0)
register_written s Status value = (s, refused 1)
register_written s Control value = (record s { enabled = nat_eq (value % 2) 1 }, given 0)

abbrev pub acted : UartRegisters → Request Register → UartRegisters × Answer
acted s (Read register) = register_read s register
acted s (Write register value) = register_written s register value
acted s (Refused code) = (s, refused code)

-- The line rule, after the whole effect of an access.
abbrev pub settled : UartRegisters → UartRegisters
settled s = record s { wire = ruled s.wire false (level s) false }

-- The line rule is applied after the whole effect.
abbrev pub accessed : UartRegisters × Answer → UartRegisters × Answer
accessed p = (settled p.0, p.1)

abbrev pub requested : Access → Request Register
requested a = request_of a (register_at a.addr)

abbrev pub uart_model : DeviceModel UartRegisters
uart_model = record {
  access = λ s tick a. accessed (acted (advanced s tick) (requested a));
  advance = advanced;
  want = λ s. wanted_before s.wire None;
  feed = λ s reply. record s { wire = answered s.wire (level s) false };
  seen = λ s. s.wire.seen;
  due = λ s. due_of s.wire;
  left = λ s. levels_left s.wire (level s);
  needs = λ s. no_caps;
}
