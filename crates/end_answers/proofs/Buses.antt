-- What is known of the reads and writes that were read from bytes.
use Rattle.std.proofs.Common.{◌≡◌, inl, inr, ℕ, ◌+◌, ◌-◌, ◌≤◌, Bool, true, false, List, length, take, drop, sym, ap}
use Rattle.std.proofs.Common.{◌∙◌, subst, arith}
use Rattle.std.specs.Prelude.{not}
use Rattle.std.proofs.lemmas.List.{length-take, length-drop}
use Rattle.cosim_model.specs.Packets.{Packet, Body, BusFields, is_extended, is_response, carried}
use Rattle.cosim_model.specs.Packets.Body.{Write}
use Rattle.end_packets.specs.Places.{IsNarrow}
use Rattle.rp_busaccess.specs.Buses.{IsBus, IsPart, data_count}
use Rattle.rp_packet.specs.Spelling.{IsBodyOf}
use Rattle.end_answers.specs.Packets.{IsRead}

front-size : (n m : ℕ) (body : List ℕ) → m + n ≤ length body → length (take n (drop m body)) ≡ n
front-size n m body within = omega (arith, length-take n (drop m body), length-drop m body)

part-size : (place count : ℕ) (part body : List ℕ) → IsPart place count part body → 60 ≤ length body
    → length part ≡ count
part-size place count part body (inl e) long = ap length e.1 ∙ sym e.0
part-size place count part body (inr e) long =
    let stands = e.1 in
    let behind = stands.behind in
    let within = stands.within in
    ap length stands.bytes ∙ front-size count (place - 20) body (omega arith)

-- As many data bytes as are carried, and a master of 16 bits in the old layout.
pub record IsSized (c : Bool) (f : BusFields) : Type 0 where
  pub narrow : IsNarrow f
  pub size : length f.payload ≡ data_count c f

wide : (f : BusFields) → is_extended f ≡ true → IsNarrow f
wide f is not = absurd (cc)

pub bus-sized : (c : Bool) (f : BusFields) (body : List ℕ) → IsBus c f body → IsSized c f
bus-sized c f body is =
    elim is.layout as (λ _. IsSized c f) [
      | inl old ↦ record {
        narrow = λ e. old.narrow;
        size =
            let within = old.within in
            ap length old.payload ∙ front-size (data_count c f) (58 - 20) body (omega arith);
      }
      | inr new ↦ record {
        narrow = wide f new.extended;
        size = part-size _ (data_count c f) f.payload body new.payload new.long;
      }
    ]

body-is : (p : Packet) (b : Body) → p.body ≡ b → IsRead p
    → (body : List ℕ) × IsBodyOf (carried (is_response p) b) b body
body-is p b is read =
    (read.1.body, subst (λ v. IsBodyOf (carried (is_response p) v) v read.1.body) is read.1.means)

pub write-sized : (p : Packet) (f : BusFields) → p.body ≡ Write f → IsRead p → IsSized (not (is_response p)) f
write-sized p f is read = let b = body-is p (Write f) is read in bus-sized (not (is_response p)) f b.0 b.1

-- a request carries all data of a write
pub asked-write : (p : Packet) (f : BusFields) → p.body ≡ Write f → is_response p ≡ false → IsRead p
    → IsNarrow f × (length f.payload ≡ f.len)
asked-write p f is asks read =
    let sized = write-sized p f is read in (sized.narrow, sized.size ∙ ap (λ c. data_count (not c) f) asks)
