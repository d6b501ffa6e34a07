-- The request of a want has at most 208 bytes.
use Rattle.std.proofs.Common.{ℕ, zero, suc, ◌≤◌, Bool, true, false, ◌&&◌, List, [], ◌∷◌, length, take, arith}
use Rattle.std.proofs.lemmas.List.{length-map}
use Rattle.cosim_model.specs.declared.values.Caps.{Caps}
use Rattle.cosim_model.specs.declared.values.Want.{Want}
use Rattle.cosim_model.specs.declared.values.Want.TheVariants.{Fetch, Store, Line}
use Rattle.cosim_model.specs.Values.{bits_of, all_on}
use Rattle.cosim_model.specs.Parts.{IsWant}
use Rattle.cosim_model.specs.Packets.{BusFields, bus_size, body_size, is_extended, enable_byte, enables_if, enables_of}
use Rattle.ends_model.specs.DeviceTurn.{request_fields, want_body}
use Rattle.every_schedule.proofs.Bytes.{length_flags}

pub enables_short : (common : Caps) (ons : List Bool) (b : Bool) → length (enables_of common ons b) ≤ length ons
enables_short common ons true = omega arith
enables_short common ons false = go (common.base && common.enables)
  where
    go : (c : Bool) → length (enables_if ons c) ≤ length ons
    go true = let e = length-map ons enable_byte in omega arith
    go false = omega arith

take_short : (n : ℕ) (xs : List ℕ) → length (take n xs) ≤ n
take_short zero xs = omega arith
take_short (suc n) [] = omega arith
take_short (suc n) (x ∷ xs) = let e = take_short n xs in omega arith

bus_short : (f : BusFields) → length f.payload ≤ 64 → length f.enables ≤ 64 → (b : Bool) → bus_size b f ≤ 208
bus_short f p e true = omega arith
bus_short f p e false = omega arith

pub want_short : (offer needs : Caps) (due : ℕ) (v : Want) → IsWant needs v → body_size (want_body offer due v) ≤ 208
want_short offer needs due (Fetch addr size) w = bus_short (request_fields offer due addr size [] []) (omega arith) (let e = enables_short offer [] true in omega arith) (is_extended (request_fields offer due addr size [] []))
want_short offer needs due (Store addr size bytes mask) w =
    bus_short (request_fields offer due addr size (take size bytes) (bits_of mask size))
    (let a = take_short size bytes in let b = w.1 in omega arith)
    (let a = enables_short offer (bits_of mask size) (all_on (bits_of mask size)) in let b = length_flags size mask in let c = w.1 in omega arith)
    (is_extended (request_fields offer due addr size (take size bytes) (bits_of mask size)))
want_short offer needs due (Line number level) w = omega arith
