-- Which bodies of hello, cfg, interrupt and sync packets are refused, and what stands in the others.
use Rattle.std.specs.Prelude.{◌≡◌, ℕ, zero, suc, ◌+◌, ◌*◌, ◌-◌, ◌/◌, ◌≤◌, Bool, not, ◌&&◌, nat_lt, nat_le, if◌then◌else◌, List, [], ◌∷◌, length, take, drop, Option, Some, None}
use Rattle.rp_header.specs.Numbers.{number, field}
use Rattle.rp_control.specs.declared.fault.BodyFault.{BodyFault}
use Rattle.rp_control.specs.declared.fault.BodyFault.TheVariants as fault
use Rattle.rp_control.specs.declared.fault.BodyFault.TheVariants.{Length, CapsRange, NoMemory}

-- a body of fewer bytes than its fields need
abbrev pub short_of : ℕ → List ℕ → Option BodyFault
short_of least body = if nat_lt (length body) least then Some (fault.Length least (length body)) else None

-- whether a hello of this size has so many capabilities, and whether they stand where they may
abbrev pub caps_wanted : ℕ → ℕ → Bool
caps_wanted size count = nat_le 12 size && nat_lt 0 count

abbrev pub caps_within : ℕ → ℕ → ℕ → Bool
caps_within size count offset = nat_le 32 offset && nat_le (offset + 4 * count) (20 + size)

abbrev pub refused_hello : ℕ → ℕ → ℕ → Option BodyFault
refused_hello size count offset =
    if nat_lt size 4 then Some (fault.Length 4 size)
    else (if caps_wanted size count && not (caps_within size count offset) then Some (fault.CapsRange offset count)
    else None)

abbrev pub hello_refusal : List ℕ → Option BodyFault
hello_refusal body = refused_hello (length body) (field 28 2 body) (field 24 4 body)

-- the first n numbers of four bytes
abbrev pub numbers_in : ℕ → List ℕ → List ℕ
numbers_in zero bytes = []
numbers_in (suc n) bytes = number 4 bytes ∷ numbers_in n (drop 4 bytes)

-- the capabilities of a hello that isn't refused, and the bytes from which they are read
abbrev pub caps_part : List ℕ → List ℕ
caps_part body = if caps_wanted (length body) (field 28 2 body)
    then take (4 * field 28 2 body) (drop (field 24 4 body - 20) body) else []

abbrev pub caps_in : List ℕ → List ℕ
caps_in body = numbers_in (length (caps_part body) / 4) (caps_part body)

-- what is read in a tight one
abbrev pub ReadsTight : List ℕ → Type 0
ReadsTight body = (12 ≤ length body) × (field 24 4 body ≡ 32) × (field 30 2 body ≡ 0)
    × (length body ≡ 12 + 4 * field 28 2 body)

-- a fault other than want of memory is the first that applies
abbrev pub IsRefusal : BodyFault → Option BodyFault → Type 0
IsRefusal (Length wanted got) refusal = refusal ≡ Some (fault.Length wanted got)
IsRefusal (CapsRange offset count) refusal = refusal ≡ Some (fault.CapsRange offset count)
IsRefusal NoMemory refusal = Unit {0}
