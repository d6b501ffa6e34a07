-- The reads and writes that an end asks for can be written, in at most 208 bytes.
use Rattle.std.proofs.Common.{◌≡◌, ℕ, zero, suc, ◌+◌, ◌/◌, ◌^◌, ◌<◌, ◌≤◌, Bool, true, false, if◌then◌else◌, ◌&&◌, List, [], ◌∷◌, length, map, Option, None, refl, sym, ap, ◌∙◌, subst, arith}
use Rattle.cosim_model.specs.declared.values.Caps.{Caps}
use Rattle.cosim_model.specs.Values.{bits_of, all_on}
use Rattle.cosim_model.specs.Packets.{BusFields, FitsLayout, is_extended, enables_of, enables_if, enable_byte, bus_size}
use Rattle.ends_model.specs.DeviceTurn.{request_fields}
use Rattle.rp_busaccess.specs.declared.fault.WriteFault.{WriteFault}
use Rattle.rp_busaccess.specs.Writing.{write_fault}
use Rattle.rp_packet.specs.CodecLaws.{write-lawful}

pub length-bits : (v n : ℕ) → length (bits_of v n) ≡ n
length-bits v zero = refl
length-bits v (suc n) = ap suc (length-bits (v / 2) n)

length-bytes : (ons : List Bool) → length (map enable_byte ons) ≡ length ons
length-bytes [] = refl
length-bytes (b ∷ bs) = ap suc (length-bytes bs)

-- there is a byte for each lane at most, and none where capability 1 isn't common
few-enables : (ons : List Bool) (base enables posted all : Bool) → length (enables_of (record { base = base; enables = enables; posted = posted }) ons all) ≤ length ons
few-enables ons base enables posted true = omega arith
few-enables ons true true posted false = let e = length-bytes ons in omega (arith, e)
few-enables ons true false posted false = omega arith
few-enables ons false enables posted false = omega arith

no-enables : (ons : List Bool) (enables posted all : Bool) → enables_of (record { base = false; enables = enables; posted = posted }) ons all ≡ []
no-enables ons enables posted true = refl
no-enables ons enables posted false = refl

pub record Asks (carries : Bool) (f : BusFields) : Type 0 where
  pub lawful : write_fault carries f ≡ None
  pub few : bus_size (is_extended f) f ≤ 208

asks-by : (base enables posted carries : Bool) (time addr len : ℕ) (bytes : List ℕ) (ons : List Bool) → length bytes ≡ (if carries then len else 0) → length bytes ≤ 64 → length ons ≤ 64
    → Asks carries (request_fields (record { base = base; enables = enables; posted = posted }) time addr len bytes ons)
asks-by true enables posted carries time addr len bytes ons counted few lanes =
    let f = request_fields (record { base = true; enables = enables; posted = posted }) time addr len bytes ons in
    let more = few-enables ons true enables posted (all_on ons) in
    let fits : 60 + length bytes + length f.enables ≤ 65536 = omega (arith, more) in
    record { lawful = write-lawful carries f counted fits; few = omega (arith, more) }
asks-by false enables posted carries time addr len bytes ons counted few lanes =
    let f = request_fields (record { base = false; enables = enables; posted = posted }) time addr len bytes ons in
    let none = no-enables ons enables posted (all_on ons) in
    let fits : (0 < 2 ^ 16) × (f.enables ≡ []) × (38 + length bytes ≤ 65536) = (omega arith, none, omega arith) in
    record { lawful = write-lawful carries f counted fits; few = omega arith }

pub asks : (carries : Bool) (f : BusFields) (common : Caps) (time addr len : ℕ) (bytes : List ℕ) (ons : List Bool) → f ≡ request_fields common time addr len bytes ons
    → length bytes ≡ (if carries then len else 0) → length bytes ≤ 64 → length ons ≤ 64 → Asks carries f
asks carries f common time addr len bytes ons is counted few lanes =
    subst (λ g. Asks carries g) (sym is) (asks-by common.base common.enables common.posted carries time addr len bytes ons counted few lanes)

-- the fields with other data
abbrev pub with_payload : BusFields → List ℕ → BusFields
with_payload f bytes = record f { payload = bytes }
