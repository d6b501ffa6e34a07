-- A canonical spelling is the bytes that are written for its value. Each value that fits and can be written has one, and what is
-- spelled fits and can be written.
use Rattle.std.proofs.Common.{◌≡◌, ◌⊎◌, inl, inr, ℕ, ◌+◌, ◌^◌, ◌<◌, ◌≤◌, Bool, true, false, List, ◌++◌, length, drop, refl, sym, ap, ◌∙◌, arith, subst}
use Rattle.std.specs.Prelude.{None, Result, Ok, Err, OnOk}
use Rattle.cos_base.specs.Octets.{Held}
use Rattle.cosim_model.specs.Packets.{Packet, Body, BusFields, FitsLayout, cmd_of, carries, is_extended}
use Rattle.cosim_model.specs.Packets.Body.{Nop, Hello, Cfg, Read, Write, Interrupt, Sync}
use Rattle.rp_header.specs.Numbers.{field, AreBytes}
use Rattle.rp_header.specs.Headers.{header_bytes}
use Rattle.rp_header.specs.NumberLaws.{AreBytes-drop, drop-behind}
use Rattle.rp_control.specs.Controls.{IsHello}
use Rattle.rp_busaccess.specs.declared.fault.WriteFault.{WriteFault}
use Rattle.rp_busaccess.specs.Buses.{data_count, IsPart, AreApart, IsBus}
use Rattle.rp_busaccess.specs.BusLaws.{IsPart-length, IsOld-length}
use Rattle.rp_busaccess.specs.Writing.{write_fault}
use Rattle.rp_packet.specs.Writing.{Writes}
use Rattle.rp_packet.specs.Spelling.{IsBodyOf, Spells, Canonical, body_bytes, packet_bytes, body_fault, packet_fault, Writable, BusFits, BodyFits, Fits}
use Rattle.rp_packet.specs.WritingLaws.{length-header, short-hello}
use Rattle.rp_packet.specs.CodecLaws.{write-lawful, body-written}
use Rattle.rp_packet.specs.TightLaws.{body-tight, body-laid}

-- the body of a spelling is what stands behind its header
pub body-is : (v : Packet) (b : List ℕ) (is : Spells v b) → drop 20 b ≡ is.body
body-is v b is =
    ap (drop 20) is.whole
    ∙ drop-behind (header_bytes (cmd_of v.body) (length is.body) v.id v.flags v.dev) 20 0 is.body (length-header (cmd_of v.body) (length is.body) v.id v.flags v.dev)

-- A canonical spelling is what is written,
pub Canonical-bytes : (v : Packet) (b : List ℕ) → AreBytes b → Canonical v b → b ≡ packet_bytes v
Canonical-bytes v b bytes is =
    let own : AreBytes is.spelled.body = subst AreBytes (body-is v b is.spelled) (AreBytes-drop 20 b bytes) in
    let body = body-tight (carries v) v.body is.spelled.body own is.spelled.means is.tight in
    is.spelled.whole ∙ ap (λ x. header_bytes (cmd_of v.body) (length x) v.id v.flags v.dev ++ x) body

-- and what is written is one.
pub Canonical-packet_bytes : (v : Packet) → Fits v → Writable v → Canonical v (packet_bytes v)
Canonical-packet_bytes v fits lawful =
    let body = body-written (carries v) v.body fits.3 lawful in
    record {
      spelled = record { body = body_bytes v.body; whole = refl; most = body.0; id_fits = fits.0; flags_fit = fits.1; dev_fits = fits.2; means = body.1 };
      tight = body-laid (carries v) v.body lawful;
    }

-- What is spelled fits, and can be written.
apart-size : (size place count enables enable_count : ℕ) → 60 ≤ size → (count ≡ 0) ⊎ ((80 ≤ place) × (place + count ≤ 20 + size)) → (enable_count ≡ 0) ⊎ ((80 ≤ enables) × (enables + enable_count ≤ 20 + size)) →
    AreApart place count enables enable_count → 60 + count + enable_count ≤ size
apart-size size place count enables enable_count long placed enabled apart = grind arith

part-within : (place count : ℕ) (p b : List ℕ) → IsPart place count p b → (count ≡ 0) ⊎ ((80 ≤ place) × (place + count ≤ 20 + length b))
part-within place count p b (inl none) = inl none.0
part-within place count p b (inr some) = inr (some.1.behind, some.1.within)

layout-fits : (x carries : Bool) (f : BusFields) (b : List ℕ) → is_extended f ≡ x → IsBus carries f b → length b ≤ 65536 → (length f.payload ≡ data_count carries f) × FitsLayout x f
layout-fits true carries f b x is most =
    elim is.layout as (λ _. (length f.payload ≡ data_count carries f) × FitsLayout true f) [
      | inl old ↦ absurd (cc (sym old.old ∙ x))
      | inr extended ↦
          let counted = IsPart-length (field 64 4 b) (data_count carries f) f.payload b extended.payload in
          let enabled = IsPart-length (field 72 4 b) (field 76 4 b) f.enables b extended.enabled in
          let size = apart-size (length b) (field 64 4 b) (data_count carries f) (field 72 4 b) (field 76 4 b) extended.long
          (part-within (field 64 4 b) (data_count carries f) f.payload b extended.payload) (part-within (field 72 4 b) (field 76 4 b) f.enables b extended.enabled) extended.apart in
          (counted, omega (arith, counted, enabled, size, most))
    ]
layout-fits false carries f b x is most =
    elim is.layout as (λ _. (length f.payload ≡ data_count carries f) × FitsLayout false f) [
      | inl old ↦
          let counted = IsOld-length carries f b old in
          let within = old.within in
          (counted, (old.narrow, old.none_enabled, omega (arith, counted, within, most)))
      | inr extended ↦ absurd (cc (sym extended.extended ∙ x))
    ]

bus-writable : (carries : Bool) (f : BusFields) (b : List ℕ) → IsBus carries f b → length b ≤ 65536 → write_fault carries f ≡ None
bus-writable carries f b is most = let fits = layout-fits (is_extended f) carries f b refl is most in write-lawful carries f fits.0 fits.1

hello-few : (major minor : ℕ) (caps b : List ℕ) → IsHello major minor caps b → length b ≤ 65536 → length caps ≤ 16381
hello-few major minor caps b is most =
    elim is.caps_at as (λ _. length caps ≤ 16381) [
      | inl short ↦ let none = ap length short.2 in omega (arith, none)
      | inr long ↦ elim long.2 as (λ _. length caps ≤ 16381) [
        | inl nothing ↦ let none = ap length nothing in omega (arith, none)
        | inr at ↦ let behind = at.behind in let within = at.within in omega (arith, behind, within, most)
      ]
    ]

body-writable : (c : Bool) (v : Body) (b : List ℕ) → IsBodyOf c v b → length b ≤ 65536 → body_fault c v ≡ None
body-writable c Nop b is most = refl
body-writable c (Hello major minor caps) b is most = short-hello (length caps) _ (hello-few major minor caps b is most)
body-writable c (Cfg opt set) b is most = refl
body-writable c (Read f) b is most = bus-writable c f b is most
body-writable c (Write f) b is most = bus-writable c f b is most
body-writable c (Interrupt time vector line val) b is most = refl
body-writable c (Sync time) b is most = refl

pub Writable-Spells : (v : Packet) (b : List ℕ) → Spells v b → Writable v
Writable-Spells v b is = body-writable (carries v) v.body is.body is.means is.most

bus-fits : (carries : Bool) (f : BusFields) (b : List ℕ) → IsBus carries f b → BusFits f
bus-fits carries f b is =
    let start = is.start in
    let master : f.master < 2 ^ 64 = elim is.layout as (λ _. f.master < 2 ^ 64) [ inl old ↦ let narrow = old.narrow in omega (arith, narrow) | inr extended ↦ extended.fits ] in
    (start.time_at.fits, start.attributes_at.fits, start.addr_at.fits, start.len_at.fits, start.width_at.fits, start.stream_width_at.fits, master)

body-fits : (c : Bool) (v : Body) (b : List ℕ) → IsBodyOf c v b → BodyFits v
body-fits c Nop b is = tt
body-fits c (Hello major minor caps) b is = (is.major_at.fits, is.minor_at.fits, is.words)
body-fits c (Cfg opt set) b is = (is.opt_at.fits, is.set_at.fits)
body-fits c (Read f) b is = bus-fits c f b is
body-fits c (Write f) b is = bus-fits c f b is
body-fits c (Interrupt time vector line val) b is = (is.time_at.fits, is.vector_at.fits, is.line_at.fits, is.val_at.fits)
body-fits c (Sync time) b is = is.time_at.fits

pub Fits-Spells : (v : Packet) (b : List ℕ) → Spells v b → Fits v
Fits-Spells v b is = (is.id_fits, is.flags_fit, is.dev_fits, body-fits (carries v) v.body is.body is.means)

-- So what was read from a canonical spelling is written back byte for byte.
pub written-back : (v : Packet) (b : List ℕ) (old new : Held) (r : Result Unit WriteFault) → AreBytes b → Canonical v b → Writes (packet_bytes v) (packet_fault v) old new r → OnOk r (new.bytes ≡ old.bytes ++ b)
written-back v b old new (Ok u) bytes canonical is = is.1 ∙ ap (λ x. old.bytes ++ x) (sym (Canonical-bytes v b bytes canonical))
written-back v b old new (Err e) bytes canonical is = tt
