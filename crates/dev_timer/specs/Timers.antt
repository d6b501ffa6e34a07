-- The timer as a function on its registers.
use Rattle.std.specs.Prelude.{ℕ, ◌%◌, Bool, false, if◌then◌else◌, nat_eq, Option, Some, None}
use Rattle.cosim_model.specs.declared.values.Access.{Access}
use Rattle.cosim_model.specs.declared.values.Answer.{Answer}
use Rattle.cosim_model.specs.Values.{no_caps}
use Rattle.cosim_model.specs.Parts.{DeviceModel}
use Rattle.dev_line.specs.Wires.{WireState, fresh_wire, due_of, ruled, answered, is_high, passed, wanted_before, levels_left}
use Rattle.dev_line.specs.declared.request.Request.{Request}
use Rattle.dev_line.specs.declared.request.Request.TheVariants.{Read, Write, Refused}
use Rattle.dev_line.specs.Requests.{request_of, given, refused, low_word, flag}
use Rattle.dev_timer.specs.declared.register.Register.{Register}
use Rattle.dev_timer.specs.declared.register.Register.TheVariants.{Now, Compare, Control}

pub record TimerRegisters : Type 0 where
  pub compare : ℕ
  -- bit 0 of CONTROL
  pub enabled : Bool
  pub wire : WireState

abbrev pub fresh_timer : ℕ → TimerRegisters
fresh_timer line = record { compare = 4294967295; enabled = false; wire = fresh_wire line }

-- The level is high from COMPARE on where the timer is enabled.
abbrev pub rises : TimerRegisters → Option ℕ
rises s = if s.enabled then Some s.compare else None

abbrev pub level : TimerRegisters → Bool
level s = is_high (rises s) s.wire.seen

abbrev pub advanced : TimerRegisters → ℕ → TimerRegisters
advanced s tick = record s { wire = passed s.wire (rises s) tick }

abbrev pub register_at : ℕ → Option Register
register_at addr = if nat_eq addr 0 then Some Now else if nat_eq addr 4 then Some Compare else if nat_eq addr 8
    then Some Control else None

abbrev pub register_read : TimerRegisters → Register → Answer
register_read s Now = given (low_word s.wire.seen)
register_read s Compare = given s.compare
register_read s Control = given (flag s.enabled)

abbrev pub register_written : TimerRegisters → Register → ℕ → TimerRegisters × Answer
register_written s Now value = (s, refused 1)
register_written s Compare value = (record s { compare = value }, given 0)
register_written s Control value = (record s { enabled = nat_eq (value % 2) 1 }, given 0)

abbrev pub acted : TimerRegisters → Request Register → TimerRegisters × Answer
acted s (Read register) = (s, register_read s register)
acted s (Write register value) = register_written s register value
acted s (Refused code) = (s, refused code)

-- The line rule, after the whole effect of an access.
abbrev pub settled : TimerRegisters → TimerRegisters
settled s = record s { wire = ruled s.wire false (level s) false }

abbrev pub requested : Access → Request Register
requested a = request_of a (register_at a.addr)

abbrev pub timer_model : DeviceModel TimerRegisters
timer_model = record {
  access = λ s tick a. (settled (acted (advanced s tick) (requested a)).0, (acted (advanced s tick) (requested a)).1);
  advance = advanced;
  want = λ s. wanted_before s.wire None;
  feed = λ s reply. record s { wire = answered s.wire (level s) false };
  seen = λ s. s.wire.seen;
  due = λ s. due_of s.wire;
  left = λ s. levels_left s.wire (level s);
  needs = λ s. no_caps;
}
