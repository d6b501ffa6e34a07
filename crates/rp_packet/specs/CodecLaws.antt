-- The codec's laws: what is written is read back, whatever follows, and what is whole is decided by its own bytes.
use Rattle.std.proofs.Common.{◌≡◌, inl, inr, ℕ, suc, ◌+◌, ◌*◌, ◌^◌, ◌<◌, ◌≤◌, Bool, true, false, List, [], ◌∷◌, ◌++◌, length, slice_index, refl, sym, ap, ◌∙◌, arith, subst}
use Rattle.std.specs.Prelude.{min, not, ◌&&◌, nat_lt, nat_eq, if◌then◌else◌, Option, Some, None, All}
use Rattle.std.proofs.lemmas.List.{append-nil, length-append, get_or_past}
use Rattle.std.proofs.lemmas.Bool.Decides.{nat_tests, leb_tells}
use Rattle.cosim_model.specs.Packets.{Packet, Body, BusFields, Decoded, IsCodec, IsWritable, IsBody, FitsLayout, body_size, bus_size as model_bus_size, cmd_of, carries, is_extended}
use Rattle.cosim_model.specs.Packets.Body.{Nop, Hello, Cfg, Read, Write, Interrupt, Sync}
use Rattle.rp_header.specs.Numbers.{be}
use Rattle.rp_header.specs.NumberLaws.{length-be}
use Rattle.rp_control.specs.Controls.{AreWords}
use Rattle.rp_busaccess.specs.declared.fault.WriteFault.{WriteFault}
use Rattle.rp_busaccess.specs.declared.fault.WriteFault.TheVariants as fault
use Rattle.rp_busaccess.specs.Buses.{data_count, IsBus}
use Rattle.rp_busaccess.specs.Writing.{start_bytes, more_bytes, bus_bytes, bus_size, write_fault}
use Rattle.rp_packet.specs.declared.fault.Cause.{Cause}
use Rattle.rp_packet.specs.Spelling.{IsBodyOf, Spells, body_bytes, packet_bytes, body_fault, packet_fault, BusFits, BodyFits, Fits}
use Rattle.rp_packet.specs.Refusals.{first}
use Rattle.rp_packet.specs.WritingLaws.{length-hello_bytes, length-bus_bytes, length-packet}
use Rattle.rp_packet.specs.WrittenLaws.{sync-written, cfg-written, interrupt-written, hello-written, start-written, old-written, extended-written, IsWritten, is-written}
use Rattle.rp_packet.specs.StreamLaws.{first-decided, first-spelled}

laid-written : (x carries : Bool) (f : BusFields) → is_extended f ≡ x → BusFits f → IsWritten carries f →
    IsBus carries f (if x then start_bytes f ++ (more_bytes f ++ (f.payload ++ (f.enables ++ []))) else start_bytes f ++ (f.payload ++ []))
laid-written true carries f is fits written =
    let size : 60 + length f.payload + length f.enables ≤ 65536 = subst (λ (n : ℕ). n ≤ 65536) (ap (λ t. if t then 60 + length f.payload + length f.enables else 38 + length f.payload) is) written.size in
    record {
      start = start-written f (more_bytes f ++ (f.payload ++ (f.enables ++ []))) fits;
      layout = inr (extended-written carries f is fits written.counted size);
    }
laid-written false carries f is fits written = record {
  start = start-written f (f.payload ++ []) fits;
  layout = inl (old-written carries f is written);
}

bus-written : (carries : Bool) (f : BusFields) → BusFits f → write_fault carries f ≡ None → IsBus carries f (bus_bytes f)
bus-written carries f fits lawful = laid-written (is_extended f) carries f refl fits (is-written carries f lawful)

bus-small : (carries : Bool) (f : BusFields) → write_fault carries f ≡ None → length (bus_bytes f) ≤ 65536
bus-small carries f lawful = let written = is-written carries f lawful in omega (arith, written.size, length-bus_bytes f)

few-at : (t : Bool) (count : ℕ) (w : WriteFault) → nat_lt 16381 count ≡ t → (if t then Some w else None) ≡ None → count ≤ 16381
few-at true count w test e = absurd (cc (e))
few-at false count w test e = grind (arith, nat_tests)

few-caps : (count : ℕ) (w : WriteFault) → (if nat_lt 16381 count then Some w else None) ≡ None → count ≤ 16381
few-caps count w e = few-at (nat_lt 16381 count) count w refl e

-- What is written for a value that fits is its spelling.
pub body-written : (c : Bool) (v : Body) → BodyFits v → body_fault c v ≡ None → (length (body_bytes v) ≤ 65536) × IsBodyOf c v (body_bytes v)
body-written c Nop fits lawful = (omega arith, tt)
body-written c (Hello major minor caps) fits lawful =
    let few = few-caps (length caps) _ lawful in
    (omega (arith, few, length-hello_bytes major minor caps), hello-written major minor caps fits.0 fits.1 fits.2 few)
body-written c (Cfg opt set) fits lawful =
    (omega (arith, length-append (be opt 4) (be set 1 ++ []), length-append (be set 1) [], length-be opt 4, length-be set 1), cfg-written opt set fits.0 fits.1)
body-written c (Read f) fits lawful = (bus-small c f lawful, bus-written c f fits lawful)
body-written c (Write f) fits lawful = (bus-small c f lawful, bus-written c f fits lawful)
body-written c (Interrupt time vector line val) fits lawful =
    let end : List ℕ = be val 1 ++ [] in (
      omega (
        arith,
        length-append (be time 8) (be vector 8 ++ (be line 4 ++ end)),
        length-append (be vector 8) (be line 4 ++ end),
        length-append (be line 4) end,
        length-append (be val 1) [],
        length-be time 8,
        length-be vector 8,
        length-be line 4,
        length-be val 1,
      ),
      interrupt-written time vector line val fits.0 fits.1 fits.2 fits.3,
    )
body-written c (Sync time) fits lawful = (omega (arith, length-be time 8), sync-written time fits)

pub Spells-packet_bytes : (v : Packet) → Fits v → packet_fault v ≡ None → Spells v (packet_bytes v)
Spells-packet_bytes v fits lawful =
    let body = body-written (carries v) v.body fits.3 lawful in
    record { body = body_bytes v.body; whole = refl; most = body.0; id_fits = fits.0; flags_fit = fits.1; dev_fits = fits.2; means = body.1 }

less-test : (m n : ℕ) → n ≤ m → nat_lt m n ≡ false
less-test m n h = grind (arith, nat_tests)

equal-test : (m n : ℕ) → m ≡ n → not (nat_eq m n) ≡ false
equal-test m n h = grind (arith, nat_tests)

abbrev size-of : Option (Decoded Cause × ℕ) → ℕ
size-of None = 0
size-of (Some r) = r.1

nothing : (b : List ℕ) → length b ≡ 0 → b ≡ []
nothing [] e = refl
nothing (x ∷ xs) e = absurd (omega (arith, e))

-- No spelling is a proper prefix of another.
pub no-prefix : (v w : Packet) (b more : List ℕ) → Spells v b → Spells w (b ++ more) → more ≡ []
no-prefix v w b more is_v is_w =
    let short = first-spelled v b more is_v in
    let long = ap first (sym (append-nil (b ++ more))) ∙ first-spelled w (b ++ more) [] is_w in
    let same : length b ≡ length (b ++ more) = ap size-of (sym short ∙ long) in
    nothing more (omega (arith, same, length-append b more))

-- What the model asks of a value that is written.
words-of : (ns : List ℕ) → All (λ n. n < 2 ^ 32) ns → AreWords ns
words-of ns all = record {
  each = λ i.
      elim (leb_tells (suc i) (length ns)) as (λ _. slice_index ns i < 4294967296) [
        | inl inside ↦ all i 0 (omega (arith, inside.1))
        | inr outside ↦ let e = get_or_past ns i 0 (omega (arith, outside.1)) in omega (arith, e)
      ];
}

body-fits : (c : Bool) (v : Body) → IsBody c v → BodyFits v
body-fits c Nop is = tt
body-fits c (Hello major minor caps) is = (is.0, is.1, words-of caps is.2)
body-fits c (Cfg opt set) is = is
body-fits c (Read f) is = (is.0, is.1, is.2, is.3, is.4, is.5, is.6)
body-fits c (Write f) is = (is.0, is.1, is.2, is.3, is.4, is.5, is.6)
body-fits c (Interrupt time vector line val) is = is
body-fits c (Sync time) is = is

chain-none : (a b d g : Bool) (m w n l : WriteFault) → a ≡ false → b ≡ false → d ≡ false → g ≡ false →
    (if a then Some m else (if b then Some w else (if d then Some n else (if g then Some l else None)))) ≡ None
chain-none a b d g m w n l ea eb ed eg =
    ap (λ t. if t then Some m else (if b then Some w else (if d then Some n else (if g then Some l else None)))) ea
    ∙ ap (λ t. if t then Some w else (if d then Some n else (if g then Some l else None))) eb
    ∙ ap (λ t. if t then Some n else (if g then Some l else None)) ed ∙ ap (λ t. if t then Some l else None) eg

narrow-test : (x : Bool) (f : BusFields) → FitsLayout x f → (not x && nat_lt 65535 f.master) ≡ false
narrow-test true f fits = refl
narrow-test false f fits = let m = fits.0 in less-test 65535 f.master (omega (arith, m))

enables-test : (x : Bool) (f : BusFields) → FitsLayout x f → (not x && nat_lt 0 (length f.enables)) ≡ false
enables-test true f fits = refl
enables-test false f fits = let e = ap length fits.1 in less-test 0 (length f.enables) (omega (arith, e))

size-test : (x : Bool) (f : BusFields) → FitsLayout x f → nat_lt 65536 (if x then 60 + length f.payload + length f.enables else 38 + length f.payload) ≡ false
size-test true f fits = less-test 65536 (60 + length f.payload + length f.enables) (omega (arith, fits))
size-test false f fits = let s = fits.2 in less-test 65536 (38 + length f.payload) (omega (arith, s))

pub write-lawful : (carries : Bool) (f : BusFields) → length f.payload ≡ data_count carries f → FitsLayout (is_extended f) f → write_fault carries f ≡ None
write-lawful carries f counted fits =
    chain-none (not (is_extended f) && nat_lt 65535 f.master) (not (nat_eq (length f.payload) (data_count carries f))) (not (is_extended f) && nat_lt 0 (length f.enables)) (nat_lt 65536 (bus_size f))
    (fault.MasterTooWide f.master) (fault.DataCount (data_count carries f) (length f.payload)) (fault.EnablesInOld (length f.enables)) (fault.TooLong (bus_size f))
    (narrow-test (is_extended f) f fits) (equal-test (length f.payload) (data_count carries f) counted) (enables-test (is_extended f) f fits) (size-test (is_extended f) f fits)

body-lawful : (c : Bool) (v : Body) → IsBody c v → body_fault c v ≡ None
body-lawful c Nop is = refl
body-lawful c (Hello major minor caps) is = ap (λ t. if t then Some (fault.TooLong (min (12 + 4 * length caps) 18446744073709551615)) else None) (less-test 16381 (length caps) is.3)
body-lawful c (Cfg opt set) is = refl
body-lawful c (Read f) is = write-lawful c f is.7 is.10
body-lawful c (Write f) is = write-lawful c f is.7 is.10
body-lawful c (Interrupt time vector line val) is = refl
body-lawful c (Sync time) is = refl

pub Spells-writable : (v : Packet) → IsWritable v → Spells v (packet_bytes v)
Spells-writable v is = Spells-packet_bytes v (is.0, is.1, is.2, body-fits (carries v) v.body is.3) (body-lawful (carries v) v.body is.3)

size-laid : (x : Bool) (f : BusFields) → 20 + (if x then 60 + length f.payload + length f.enables else 38 + length f.payload) ≡ model_bus_size x f
size-laid true f = omega arith
size-laid false f = omega arith

size-body : (v : Body) → 20 + length (body_bytes v) ≡ body_size v
size-body Nop = refl
size-body (Hello major minor caps) = let e = length-hello_bytes major minor caps in omega (arith, e)
size-body (Cfg opt set) = omega (arith, length-append (be opt 4) (be set 1 ++ []), length-append (be set 1) [], length-be opt 4, length-be set 1)
size-body (Read f) = ap (λ n. 20 + n) (length-bus_bytes f) ∙ size-laid (is_extended f) f
size-body (Write f) = ap (λ n. 20 + n) (length-bus_bytes f) ∙ size-laid (is_extended f) f
size-body (Interrupt time vector line val) =
    let end : List ℕ = be val 1 ++ [] in
    omega (
      arith,
      length-append (be time 8) (be vector 8 ++ (be line 4 ++ end)),
      length-append (be vector 8) (be line 4 ++ end),
      length-append (be line 4) end,
      length-append (be val 1) [],
      length-be time 8,
      length-be vector 8,
      length-be line 4,
      length-be val 1,
    )
size-body (Sync time) = omega (arith, length-be time 8)

-- What is written for a value has as many bytes as its fields need.
pub length-packet_bytes : (v : Packet) → length (packet_bytes v) ≡ body_size v.body
length-packet_bytes v = length-packet (cmd_of v.body) (length (body_bytes v.body)) v.id v.flags v.dev (body_bytes v.body) ∙ size-body v.body

pub codec-laws : IsCodec (record { write = packet_bytes; first = first })
codec-laws = record {
  reads_back = λ v rest is. first-spelled v (packet_bytes v) rest (Spells-writable v is);
  sizes = λ v is. length-packet_bytes v;
  decided = first-decided;
}
