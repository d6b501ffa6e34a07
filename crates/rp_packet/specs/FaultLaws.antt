-- No row of the table stands for want of memory.
use Rattle.std.proofs.Common.{◌≡◌}
use Rattle.std.specs.Prelude.{ℕ, Bool, true, false, not, ◌&&◌, nat_lt, if◌then◌else◌, List, length, Some, None}
use Rattle.rp_control.specs.declared.fault.BodyFault.TheVariants as body_fault
use Rattle.rp_control.specs.Refusals.{hello_refusal, caps_wanted, caps_within}
use Rattle.cosim_model.specs.Values.{bit}
use Rattle.rp_header.specs.Numbers.{field}
use Rattle.rp_busaccess.specs.declared.fault.BusFault.TheVariants as bus_fault
use Rattle.rp_busaccess.specs.Refusals.{least, stands, apart, count_in, bus_refusal}

hello-row : (a b : Bool) (w g o n : ℕ) → (if a then Some (body_fault.Length w g) else (if b then Some (body_fault.CapsRange o n) else None)) ≡ Some body_fault.NoMemory → ⊥
hello-row true b w g o n e = absurd (cc e)
hello-row false true w g o n e = absurd (cc e)
hello-row false false w g o n e = absurd (cc e)

pub hello-memory : (b : List ℕ) → hello_refusal b ≡ Some body_fault.NoMemory → ⊥
hello-memory b e =
    hello-row (nat_lt (length b) 4) (caps_wanted (length b) (field 28 2 b) && not (caps_within (length b) (field 28 2 b) (field 24 4 b))) 4 (length b) (field 24 4 b) (field 28 2 b) e

bus-row : (a x d f : Bool) (w g o n p m : ℕ) →
    (if a then Some (bus_fault.Length w g) else (if x then (if d then Some (bus_fault.DataRange o n) else (if f then Some (bus_fault.EnableRange p m) else None)) else None)) ≡ Some bus_fault.NoMemory → ⊥
bus-row true x d f w g o n p m e = absurd (cc e)
bus-row false false d f w g o n p m e = absurd (cc e)
bus-row false true true f w g o n p m e = absurd (cc e)
bus-row false true false true w g o n p m e = absurd (cc e)
bus-row false true false false w g o n p m e = absurd (cc e)

pub bus-memory : (carries : Bool) (b : List ℕ) → bus_refusal carries b ≡ Some bus_fault.NoMemory → ⊥
bus-memory carries b e =
    let count : ℕ = count_in carries b in
    bus-row (nat_lt (length b) (least (length b) (bit (field 28 8 b) 2) count)) (bit (field 28 8 b) 2) (not (stands (length b) (field 64 4 b) count))
    (not (stands (length b) (field 72 4 b) (field 76 4 b) && apart (field 64 4 b) count (field 72 4 b) (field 76 4 b)))
    (least (length b) (bit (field 28 8 b) 2) count) (length b) (field 64 4 b) count (field 72 4 b) (field 76 4 b) e
