-- A body that no row refuses means what is read in it, and nothing else.
use Rattle.std.proofs.Common.{◌≡◌, ℕ, ◌≤◌, Bool, true, false, List, length, refl, ap, ◌∙◌, arith}
use Rattle.std.specs.Prelude.{not, ◌&&◌, nat_lt, if◌then◌else◌, Some, None}
use Rattle.std.proofs.lemmas.Bool.Decides.{nat_tests}
use Rattle.cosim_model.specs.Values.{bit}
use Rattle.cosim_model.specs.declared.session.Command.{Command}
use Rattle.cosim_model.specs.declared.session.Command.TheVariants as command
use Rattle.cosim_model.specs.Packets.{Body, cmd_of, carried}
use Rattle.cosim_model.specs.Packets.Body.{Nop, Hello, Cfg, Read, Write, Interrupt, Sync}
use Rattle.rp_header.specs.Numbers.{field, AreBytes}
use Rattle.rp_header.specs.Headers.{command_of, command_number}
use Rattle.rp_control.specs.declared.fault.BodyFault.TheVariants as body_fault
use Rattle.rp_control.specs.Refusals.{short_of, hello_refusal, caps_wanted, caps_within, caps_in}
use Rattle.rp_control.specs.ControlLaws.{IsHello-there, IsHello-read, IsCfg-there, IsCfg-read, IsInterrupt-there, IsInterrupt-read, IsSync-there, IsSync-read}
use Rattle.rp_busaccess.specs.declared.fault.BusFault.TheVariants as bus_fault
use Rattle.rp_busaccess.specs.Refusals.{least, stands, apart, count_in, bus_refusal}
use Rattle.rp_busaccess.specs.BusLaws.{IsBus-there, IsBus-read}
use Rattle.rp_packet.specs.Spelling.{IsBodyOf}
use Rattle.rp_packet.specs.Refusals.{control_cause, bus_cause, body_cause, body_in}

-- no row stands for want of memory
control-none : (a b : Bool) (w g o n : ℕ) → control_cause (if a then Some (body_fault.Length w g) else (if b then Some (body_fault.CapsRange o n) else None)) ≡ None → (if a then Some (body_fault.Length w g) else (if b then Some (body_fault.CapsRange o n) else None)) ≡ None
control-none true b w g o n e = absurd (cc (e))
control-none false true w g o n e = absurd (cc (e))
control-none false false w g o n e = refl

short-cases : (a : Bool) (w g : ℕ) → control_cause (if a then Some (body_fault.Length w g) else None) ≡ None → a ≡ false
short-cases true w g e = absurd (cc (e))
short-cases false w g e = refl

not-less : (m n : ℕ) → nat_lt m n ≡ false → n ≤ m
not-less m n e = grind (arith, nat_tests)

short-none : (least : ℕ) (b : List ℕ) → control_cause (short_of least b) ≡ None → least ≤ length b
short-none least b e = not-less (length b) least (short-cases (nat_lt (length b) least) least (length b) e)

bus-none : (a x d f : Bool) (w g o n p m : ℕ) →
    bus_cause (if a then Some (bus_fault.Length w g) else (if x then (if d then Some (bus_fault.DataRange o n) else (if f then Some (bus_fault.EnableRange p m) else None)) else None)) ≡ None →
    (if a then Some (bus_fault.Length w g) else (if x then (if d then Some (bus_fault.DataRange o n) else (if f then Some (bus_fault.EnableRange p m) else None)) else None)) ≡ None
bus-none true x d f w g o n p m e = absurd (cc (e))
bus-none false false d f w g o n p m e = refl
bus-none false true true f w g o n p m e = absurd (cc (e))
bus-none false true false true w g o n p m e = absurd (cc (e))
bus-none false true false false w g o n p m e = refl

bus-lawful : (carries : Bool) (b : List ℕ) → bus_cause (bus_refusal carries b) ≡ None → bus_refusal carries b ≡ None
bus-lawful carries b e =
    let count : ℕ = count_in carries b in
    bus-none (nat_lt (length b) (least (length b) (bit (field 28 8 b) 2) count)) (bit (field 28 8 b) 2) (not (stands (length b) (field 64 4 b) count))
    (not (stands (length b) (field 72 4 b) (field 76 4 b) && apart (field 64 4 b) count (field 72 4 b) (field 76 4 b)))
    (least (length b) (bit (field 28 8 b) 2) count) (length b) (field 64 4 b) count (field 72 4 b) (field 76 4 b) e

hello-lawful : (b : List ℕ) → control_cause (hello_refusal b) ≡ None → hello_refusal b ≡ None
hello-lawful b e =
    control-none (nat_lt (length b) 4) (caps_wanted (length b) (field 28 2 b) && not (caps_within (length b) (field 28 2 b) (field 24 4 b)))
    4 (length b) (field 24 4 b) (field 28 2 b) e

-- What no row refuses,
pub IsBodyOf-there : (cmd : Command) (response : Bool) (b : List ℕ) → AreBytes b → body_cause cmd response b ≡ None → IsBodyOf (carried response (body_in cmd response b)) (body_in cmd response b) b
IsBodyOf-there command.Nop response b bytes e = tt
IsBodyOf-there command.Hello response b bytes e = IsHello-there b bytes (hello-lawful b e)
IsBodyOf-there command.Cfg response b bytes e = IsCfg-there b bytes (short-none 5 b e)
IsBodyOf-there command.Read response b bytes e = IsBus-there response b bytes (bus-lawful response b e)
IsBodyOf-there command.Write response b bytes e = IsBus-there (not response) b bytes (bus-lawful (not response) b e)
IsBodyOf-there command.Interrupt response b bytes e = IsInterrupt-there b bytes (short-none 21 b e)
IsBodyOf-there command.Sync response b bytes e = IsSync-there b bytes (short-none 8 b e)

pub cmd_of-body_in : (cmd : Command) (response : Bool) (b : List ℕ) → cmd_of (body_in cmd response b) ≡ command_number cmd
cmd_of-body_in command.Nop response b = refl
cmd_of-body_in command.Hello response b = refl
cmd_of-body_in command.Cfg response b = refl
cmd_of-body_in command.Read response b = refl
cmd_of-body_in command.Write response b = refl
cmd_of-body_in command.Interrupt response b = refl
cmd_of-body_in command.Sync response b = refl

short-lawful : (least : ℕ) (b : List ℕ) → least ≤ length b → short_of least b ≡ None
short-lawful least b long = grind (arith, nat_tests)

-- and what a body means, is read in it.
pub record ReadsBody (response : Bool) (v : Body) (b : List ℕ) : Type 0 where
  pub lawful : body_cause (command_of (cmd_of v)) response b ≡ None
  pub value_is : body_in (command_of (cmd_of v)) response b ≡ v

pub IsBodyOf-read : (response : Bool) (v : Body) (b : List ℕ) → IsBodyOf (carried response v) v b → ReadsBody response v b
IsBodyOf-read response Nop b is = record { lawful = refl; value_is = refl }
IsBodyOf-read response (Hello major minor caps) b is =
    let read = IsHello-read major minor caps b is in
    record {
      lawful = ap control_cause read.lawful;
      value_is = ap (λ x. Hello x (field 22 2 b) (caps_in b)) read.major_is ∙ ap (λ x. Hello major x (caps_in b)) read.minor_is ∙ ap (λ x. Hello major minor x) read.caps_are;
    }
IsBodyOf-read response (Cfg opt set) b is =
    let read = IsCfg-read opt set b is in
    record {
      lawful = ap control_cause (short-lawful 5 b is.long);
      value_is = ap (λ x. Cfg x (field 24 1 b)) read.0 ∙ ap (λ x. Cfg opt x) read.1;
    }
IsBodyOf-read response (Read f) b is =
    let read = IsBus-read response f b is in
    record { lawful = ap bus_cause read.lawful; value_is = ap (λ x. Read x) read.fields_are }
IsBodyOf-read response (Write f) b is =
    let read = IsBus-read (not response) f b is in
    record { lawful = ap bus_cause read.lawful; value_is = ap (λ x. Write x) read.fields_are }
IsBodyOf-read response (Interrupt time vector line val) b is =
    let read = IsInterrupt-read time vector line val b is in
    record {
      lawful = ap control_cause (short-lawful 21 b is.long);
      value_is = ap (λ x. Interrupt x (field 28 8 b) (field 36 4 b) (field 40 1 b)) read.0 ∙ ap (λ x. Interrupt time x (field 36 4 b) (field 40 1 b)) read.1
          ∙ ap (λ x. Interrupt time vector x (field 40 1 b)) read.2 ∙ ap (λ x. Interrupt time vector line x) read.3;
    }
IsBodyOf-read response (Sync time) b is =
    record { lawful = ap control_cause (short-lawful 8 b is.long); value_is = ap (λ x. Sync x) (IsSync-read time b is) }
