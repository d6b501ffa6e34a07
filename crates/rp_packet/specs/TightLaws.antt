-- A tight body is the bytes that are written for what it means, and these are tight.
use Rattle.std.proofs.Common.{◌≡◌, ◌⊎◌, inl, inr, ℕ, ◌+◌, ◌*◌, ◌/◌, ◌%◌, ◌-◌, ◌≤◌, Bool, true, false, List, [], ◌∷◌, ◌++◌, length, take, drop, refl, sym, ap, ◌∙◌, arith, subst}
use Rattle.std.specs.Prelude.{nat_eq, if◌then◌else◌, None}
use Rattle.std.proofs.Math.Seq.{take-length}
use Rattle.std.proofs.lemmas.List.{length-append, length-drop, drop-drop}
use Rattle.std.proofs.lemmas.Bool.Decides.{nat_tests}
use Rattle.cosim_model.specs.Packets.{Body, BusFields, carries, is_extended}
use Rattle.cosim_model.specs.Packets.Body.{Nop, Hello, Cfg, Read, Write, Interrupt, Sync}
use Rattle.rp_header.specs.Numbers.{be, field, IsFieldAt, AreBytes}
use Rattle.rp_header.specs.NumberLaws.{length-be, number_at, be-number, AreBytes-drop, IsNumberAt-front, IsNumberAt-behind, take-add}
use Rattle.rp_control.specs.Controls.{AreCapsAt, IsHello, IsCfg, IsInterrupt, IsSync, IsTightHello, caps_bytes, hello_bytes, cfg_bytes, interrupt_bytes, sync_bytes}
use Rattle.rp_busaccess.specs.Buses.{data_count, IsStart, IsOld, IsExtended, IsBus}
use Rattle.rp_busaccess.specs.BusLaws.{IsPart-read, IsPart-length, IsOld-length}
use Rattle.rp_busaccess.specs.Refusals.{part_in}
use Rattle.rp_busaccess.specs.Writing.{start_bytes, more_bytes, bus_size, enables_place, IsTightBus}
use Rattle.rp_packet.specs.Spelling.{IsBodyOf, IsTight, body_bytes, body_fault}
use Rattle.rp_packet.specs.WritingLaws.{length-hello_bytes, length-start, length-more, length-bus_bytes}
use Rattle.rp_packet.specs.WrittenLaws.{more-behind, enables-place-lt, is-written}

-- bytes in pieces, one behind the other
part : (place k m : ℕ) (p q b : List ℕ) → take k (drop place b) ≡ p → take m (drop (place + k) b) ≡ q → take (k + m) (drop place b) ≡ p ++ q
part place k m p q b first rest =
    sym (take-add k m (drop place b)) ∙ ap (λ x. x ++ take m (drop k (drop place b))) first
    ∙ ap (λ x. p ++ take m x) (drop-drop k place b) ∙ ap (λ x. p ++ x) rest

all-of : (n : ℕ) (p b : List ℕ) → length b ≡ n → take n (drop 0 b) ≡ p → b ≡ p
all-of n p b size is = sym (take-length b) ∙ ap (λ m. take m b) size ∙ is

sync-tight : (time : ℕ) (b : List ℕ) → IsSync time b → length b ≡ 8 → b ≡ sync_bytes time
sync-tight time b is size = all-of 8 (sync_bytes time) b size is.time_at.bytes

cfg-tight : (opt set : ℕ) (b : List ℕ) → IsCfg opt set b → length b ≡ 5 → b ≡ cfg_bytes opt set
cfg-tight opt set b is size =
    all-of 5 (cfg_bytes opt set) b size (part 0 4 1 (be opt 4) (be set 1 ++ []) b is.opt_at.bytes (part 4 1 0 (be set 1) [] b is.set_at.bytes refl))

interrupt-tight : (time vector line val : ℕ) (b : List ℕ) → IsInterrupt time vector line val b → length b ≡ 21 → b ≡ interrupt_bytes time vector line val
interrupt-tight time vector line val b is size =
    let last : List ℕ = be val 1 ++ [] in
    let third : List ℕ = be line 4 ++ last in
    all-of 21 (interrupt_bytes time vector line val) b size (part 0 8 13 (be time 8) (be vector 8 ++ third) b is.time_at.bytes
    (part 8 8 5 (be vector 8) third b is.vector_at.bytes (part 16 4 1 (be line 4) last b is.line_at.bytes (part 20 1 0 (be val 1) [] b is.val_at.bytes refl))))

-- the capabilities of a hello stand right behind its fields
caps-behind : (caps b : List ℕ) → field 24 4 b ≡ 32 → (caps ≡ []) ⊎ AreCapsAt (field 24 4 b) caps b → take (4 * length caps) (drop 12 b) ≡ caps_bytes caps
caps-behind caps b place (inl none) =
    subst (λ (ns : List ℕ). take (4 * length ns) (drop 12 b) ≡ caps_bytes ns) (sym none) refl
caps-behind caps b place (inr at) = ap (λ n. take (4 * length caps) (drop (n - 20) b)) (sym place) ∙ at.bytes

hello-tight : (major minor : ℕ) (caps b : List ℕ) → IsHello major minor caps b → IsTightHello caps b → b ≡ hello_bytes major minor caps
hello-tight major minor caps b is (offset_at, reserved_at, size) =
    let body : b ≡ hello_bytes major minor caps = elim is.caps_at as (λ _. b ≡ hello_bytes major minor caps) [
      | inl short ↦ let less = short.1 in absurd (omega (arith, less, size))
      | inr long ↦
          let last : List ℕ = caps_bytes caps ++ [] in
          let fifth : List ℕ = be 0 2 ++ last in
          let fourth : List ℕ = be (length caps) 2 ++ fifth in
          let third : List ℕ = be 32 4 ++ fourth in
          let n : ℕ = 4 * length caps + 0 in
          let caps_at = caps-behind caps b (number_at 4 4 32 b offset_at) long.2 in
          all-of (2 + (2 + (4 + (2 + (2 + n))))) (hello_bytes major minor caps) b (omega (arith, size))
          (part 0 2 (2 + (4 + (2 + (2 + n)))) (be major 2) (be minor 2 ++ third) b is.major_at.bytes
          (part 2 2 (4 + (2 + (2 + n))) (be minor 2) third b is.minor_at.bytes
          (part 4 4 (2 + (2 + n)) (be 32 4) fourth b offset_at.bytes
          (part 8 2 (2 + n) (be (length caps) 2) fifth b long.1.bytes
          (part 10 2 n (be 0 2) last b reserved_at.bytes
          (part 12 (4 * length caps) 0 (caps_bytes caps) [] b caps_at refl))))))
    ] in body

-- the fields of both layouts
start-tight : (f : BusFields) (b : List ℕ) → IsStart f b → take 38 (drop 0 b) ≡ start_bytes f
start-tight f b is =
    let p7 : List ℕ = be (f.master % 65536) 2 ++ [] in
    let p6 : List ℕ = be f.stream_width 4 ++ p7 in
    let p5 : List ℕ = be f.width 4 ++ p6 in
    let p4 : List ℕ = be f.len 4 ++ p5 in
    let p3 : List ℕ = be f.addr 8 ++ p4 in
    part 0 8 30 (be f.time 8) (be f.attributes 8 ++ p3) b is.time_at.bytes (part 8 8 22 (be f.attributes 8) p3 b is.attributes_at.bytes
    (part 16 8 14 (be f.addr 8) p4 b is.addr_at.bytes (part 24 4 10 (be f.len 4) p5 b is.len_at.bytes (part 28 4 6 (be f.width 4) p6 b is.width_at.bytes
    (part 32 4 2 (be f.stream_width 4) p7 b is.stream_width_at.bytes (part 36 2 0 (be (f.master % 65536) 2) [] b is.low_at.bytes refl))))))

old-tight : (carries : Bool) (f : BusFields) (b : List ℕ) → IsStart f b → IsOld carries f b → length b ≡ 38 + length f.payload → b ≡ start_bytes f ++ (f.payload ++ [])
old-tight carries f b start is size =
    let counted = IsOld-length carries f b is in
    let n : ℕ = data_count carries f in
    all-of (38 + (n + 0)) _ b (omega (arith, size, counted))
    (part 0 38 (n + 0) (start_bytes f) (f.payload ++ []) b (start-tight f b start) (part 38 n 0 f.payload [] b (sym is.payload) refl))

-- the enables stand right behind the data
enables-behind : (place count : ℕ) (payload enables b : List ℕ) → place ≡ (if nat_eq (length enables) 0 then 0 else 80 + length payload) → count ≡ length enables → part_in place count b ≡ enables → take (length enables) (drop (60 + length payload) b) ≡ enables
enables-behind place count payload [] b at size is = refl
enables-behind place count payload (x ∷ xs) b at size is =
    let behind : place - 20 ≡ 60 + length payload = grind (arith, nat_tests, at) in
    ap (λ n. take (length (x ∷ xs)) (drop n b)) (sym behind) ∙ ap (λ n. take n (drop (place - 20) b)) (sym size) ∙ is

more-tight : (carries : Bool) (f : BusFields) (b : List ℕ) → AreBytes b → IsExtended carries f b → IsFieldAt 64 4 80 b → IsFieldAt 68 4 0 b → IsFieldAt 72 4 (enables_place f) b → take 22 (drop 38 b) ≡ more_bytes f
more-tight carries f b bytes is offset_at next_at place_at =
    let count : field 76 4 b ≡ length f.enables = sym (IsPart-length (field 72 4 b) (field 76 4 b) f.enables b is.enabled) in
    let long = is.long in
    let count_at : take 4 (drop 56 b) ≡ be (length f.enables) 4 =
    sym (be-number 4 (drop 56 b) (AreBytes-drop 56 b bytes) (omega (arith, long, length-drop 56 b))) ∙ ap (λ n. be n 4) count in
    let p6 : List ℕ = be (length f.enables) 4 ++ [] in
    let p5 : List ℕ = be (enables_place f) 4 ++ p6 in
    let p4 : List ℕ = be 0 4 ++ p5 in
    let p3 : List ℕ = be 80 4 ++ p4 in
    part 38 2 20 (be (f.master / 65536 % 65536) 2) (be (f.master / 4294967296) 4 ++ p3) b is.middle_at.bytes (part 40 4 16 (be (f.master / 4294967296) 4) p3 b is.high_at.bytes
    (part 44 4 12 (be 80 4) p4 b offset_at.bytes (part 48 4 8 (be 0 4) p5 b next_at.bytes (part 52 4 4 (be (enables_place f) 4) p6 b place_at.bytes
    (part 56 4 0 (be (length f.enables) 4) [] b count_at refl)))))

extended-tight : (carries : Bool) (f : BusFields) (b : List ℕ) → AreBytes b → IsStart f b → IsExtended carries f b → IsFieldAt 64 4 80 b → IsFieldAt 68 4 0 b → IsFieldAt 72 4 (enables_place f) b →
    length b ≡ 60 + length f.payload + length f.enables → b ≡ start_bytes f ++ (more_bytes f ++ (f.payload ++ (f.enables ++ [])))
extended-tight carries f b bytes start is offset_at next_at place_at size =
    let offset : field 64 4 b ≡ 80 = number_at 44 4 80 b offset_at in
    let place : field 72 4 b ≡ enables_place f = number_at 52 4 (enables_place f) b place_at in
    let counted : length f.payload ≡ data_count carries f = IsPart-length (field 64 4 b) (data_count carries f) f.payload b is.payload in
    let count : length f.enables ≡ field 76 4 b = IsPart-length (field 72 4 b) (field 76 4 b) f.enables b is.enabled in
    let payload : take (length f.payload) (drop 60 b) ≡ f.payload =
    ap (λ n. take n (drop 60 b)) counted ∙ ap (λ n. take (data_count carries f) (drop (n - 20) b)) (sym offset) ∙ (IsPart-read (field 64 4 b) (data_count carries f) f.payload b is.payload).1 in
    let enables : take (length f.enables) (drop (60 + length f.payload) b) ≡ f.enables =
    enables-behind (field 72 4 b) (field 76 4 b) f.payload f.enables b place (sym count) (IsPart-read (field 72 4 b) (field 76 4 b) f.enables b is.enabled).1 in
    let m : ℕ = length f.enables + 0 in
    let n : ℕ = length f.payload + m in
    let last : List ℕ = f.enables ++ [] in
    let rest : List ℕ = f.payload ++ last in
    all-of (38 + (22 + n)) _ b (omega (arith, size))
    (part 0 38 (22 + n) (start_bytes f) (more_bytes f ++ rest) b (start-tight f b start)
    (part 38 22 n (more_bytes f) rest b (more-tight carries f b bytes is offset_at next_at place_at)
    (part 60 (length f.payload) m f.payload last b payload
    (part (60 + length f.payload) (length f.enables) 0 f.enables [] b enables refl))))

bus-tight : (x carries : Bool) (f : BusFields) (b : List ℕ) → is_extended f ≡ x → AreBytes b → IsBus carries f b → IsTightBus x f b →
    b ≡ (if x then start_bytes f ++ (more_bytes f ++ (f.payload ++ (f.enables ++ []))) else start_bytes f ++ (f.payload ++ []))
bus-tight true carries f b x bytes is tight =
    elim is.layout as (λ _. b ≡ start_bytes f ++ (more_bytes f ++ (f.payload ++ (f.enables ++ [])))) [
      | inl old ↦ absurd (cc (sym old.old ∙ x))
      | inr extended ↦ extended-tight carries f b bytes is.start extended tight.0 tight.1 tight.2
          (tight.3 ∙ ap (λ t. if t then 60 + length f.payload + length f.enables else 38 + length f.payload) x)
    ]
bus-tight false carries f b x bytes is tight =
    elim is.layout as (λ _. b ≡ start_bytes f ++ (f.payload ++ [])) [
      | inl old ↦ old-tight carries f b is.start old (tight ∙ ap (λ t. if t then 60 + length f.payload + length f.enables else 38 + length f.payload) x)
      | inr extended ↦ absurd (cc (sym extended.extended ∙ x))
    ]

pub body-tight : (c : Bool) (v : Body) (b : List ℕ) → AreBytes b → IsBodyOf c v b → IsTight v b → b ≡ body_bytes v
body-tight c Nop b bytes is tight = tight
body-tight c (Hello major minor caps) b bytes is tight = hello-tight major minor caps b is tight
body-tight c (Cfg opt set) b bytes is tight = cfg-tight opt set b is tight
body-tight c (Read f) b bytes is tight = bus-tight (is_extended f) c f b refl bytes is tight
body-tight c (Write f) b bytes is tight = bus-tight (is_extended f) c f b refl bytes is tight
body-tight c (Interrupt time vector line val) b bytes is tight = interrupt-tight time vector line val b is tight
body-tight c (Sync time) b bytes is tight = sync-tight time b is tight

-- What is written is tight.
hello-laid : (major minor : ℕ) (caps : List ℕ) → IsTightHello caps (hello_bytes major minor caps)
hello-laid major minor caps =
    let last : List ℕ = caps_bytes caps ++ [] in
    let fifth : List ℕ = be 0 2 ++ last in
    let fourth : List ℕ = be (length caps) 2 ++ fifth in
    let third : List ℕ = be 32 4 ++ fourth in
    let second : List ℕ = be minor 2 ++ third in (
      IsNumberAt-behind (be major 2) 2 2 4 32 second (length-be major 2) (IsNumberAt-behind (be minor 2) 2 0 4 32 third (length-be minor 2) (IsNumberAt-front 4 32 fourth (omega arith))),
      IsNumberAt-behind (be major 2) 2 8 2 0 second (length-be major 2) (IsNumberAt-behind (be minor 2) 2 6 2 0 third (length-be minor 2)
          (IsNumberAt-behind (be 32 4) 4 2 2 0 fourth (length-be 32 4) (IsNumberAt-behind (be (length caps) 2) 2 0 2 0 fifth (length-be (length caps) 2) (IsNumberAt-front 2 0 last (omega arith))))),
      length-hello_bytes major minor caps,
    )

extended-laid : (f : BusFields) → 60 + length f.payload + length f.enables ≤ 65536 → (rest : List ℕ) →
    IsFieldAt 64 4 80 (start_bytes f ++ (more_bytes f ++ rest)) × IsFieldAt 68 4 0 (start_bytes f ++ (more_bytes f ++ rest)) × IsFieldAt 72 4 (enables_place f) (start_bytes f ++ (more_bytes f ++ rest))
extended-laid f size rest =
    let middle : ℕ = f.master / 65536 % 65536 in
    let high : ℕ = f.master / 4294967296 in
    let place : ℕ = enables_place f in
    let p6 : List ℕ = be (length f.enables) 4 ++ [] in
    let p5 : List ℕ = be place 4 ++ p6 in
    let p4 : List ℕ = be 0 4 ++ p5 in
    let p3 : List ℕ = be 80 4 ++ p4 in
    let p2 : List ℕ = be high 4 ++ p3 in
    let more : List ℕ = more_bytes f in
    let more_size = length-more f in
    let start_size = length-start f in
    let skip1 = length-be middle 2 in let skip2 = length-be high 4 in let skip3 = length-be 80 4 in let skip4 = length-be 0 4 in
    let offset_in = IsNumberAt-behind (be middle 2) 2 4 4 80 p2 skip1 (IsNumberAt-behind (be high 4) 4 0 4 80 p3 skip2 (IsNumberAt-front 4 80 p4 (omega arith))) in
    let next_in = IsNumberAt-behind (be middle 2) 2 8 4 0 p2 skip1 (IsNumberAt-behind (be high 4) 4 4 4 0 p3 skip2 (IsNumberAt-behind (be 80 4) 4 0 4 0 p4 skip3 (IsNumberAt-front 4 0 p5 (omega arith)))) in
    let place_in = IsNumberAt-behind (be middle 2) 2 12 4 place p2 skip1 (IsNumberAt-behind (be high 4) 4 8 4 place p3 skip2 (IsNumberAt-behind (be 80 4) 4 4 4 place p4 skip3
    (IsNumberAt-behind (be 0 4) 4 0 4 place p5 skip4 (IsNumberAt-front 4 place p6 (enables-place-lt f size))))) in (
      IsNumberAt-behind (start_bytes f) 38 6 4 80 (more ++ rest) start_size (more-behind 6 4 80 more rest (omega (arith, more_size)) offset_in),
      IsNumberAt-behind (start_bytes f) 38 10 4 0 (more ++ rest) start_size (more-behind 10 4 0 more rest (omega (arith, more_size)) next_in),
      IsNumberAt-behind (start_bytes f) 38 14 4 place (more ++ rest) start_size (more-behind 14 4 place more rest (omega (arith, more_size)) place_in),
    )

bus-laid : (x : Bool) (f : BusFields) → is_extended f ≡ x → bus_size f ≤ 65536 →
    IsTightBus x f (if x then start_bytes f ++ (more_bytes f ++ (f.payload ++ (f.enables ++ []))) else start_bytes f ++ (f.payload ++ []))
bus-laid true f x small =
    let layout : Bool → ℕ = λ t. if t then 60 + length f.payload + length f.enables else 38 + length f.payload in
    let size : bus_size f ≡ 60 + length f.payload + length f.enables = ap layout x in
    let fields = extended-laid f (omega (arith, size, small)) (f.payload ++ (f.enables ++ [])) in
    let whole = ap (λ t. length (if t then start_bytes f ++ (more_bytes f ++ (f.payload ++ (f.enables ++ []))) else start_bytes f ++ (f.payload ++ []))) x in
    (fields.0, fields.1, fields.2, sym whole ∙ length-bus_bytes f)
bus-laid false f x small =
    let whole = ap (λ t. length (if t then start_bytes f ++ (more_bytes f ++ (f.payload ++ (f.enables ++ []))) else start_bytes f ++ (f.payload ++ []))) x in
    sym whole ∙ length-bus_bytes f

pub body-laid : (c : Bool) (v : Body) → body_fault c v ≡ None → IsTight v (body_bytes v)
body-laid c Nop lawful = refl
body-laid c (Hello major minor caps) lawful = hello-laid major minor caps
body-laid c (Cfg opt set) lawful = omega (arith, length-append (be opt 4) (be set 1 ++ []), length-append (be set 1) [], length-be opt 4, length-be set 1)
body-laid c (Read f) lawful = bus-laid (is_extended f) f refl (is-written c f lawful).size
body-laid c (Write f) lawful = bus-laid (is_extended f) f refl (is-written c f lawful).size
body-laid c (Interrupt time vector line val) lawful =
    let end : List ℕ = be val 1 ++ [] in
    omega (
      arith,
      length-append (be time 8) (be vector 8 ++ (be line 4 ++ end)),
      length-append (be vector 8) (be line 4 ++ end),
      length-append (be line 4) end,
      length-append (be val 1) [],
      length-be time 8,
      length-be vector 8,
      length-be line 4,
      length-be val 1,
    )
body-laid c (Sync time) lawful = length-be time 8
