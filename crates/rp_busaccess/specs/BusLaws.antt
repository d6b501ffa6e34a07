-- A body that isn't refused means one thing: what is read in it.
use Rattle.std.proofs.Common.{◌≡◌, ◌⊎◌, inl, inr, subst, ℕ, ◌+◌, ◌*◌, ◌/◌, ◌%◌, ◌-◌, ◌^◌, ◌<◌, ◌≤◌, Bool, true, false, List, length, take, drop, refl, sym, ap, ◌∙◌, arith}
use Rattle.std.specs.Prelude.{◌↔◌, nat_eq, None, if◌then◌else◌}
use Rattle.std.proofs.lemmas.List.{length-take, length-drop}
use Rattle.std.proofs.lemmas.Bool.Decides.{nat_tests}
use Rattle.cosim_model.specs.Values.{bit}
use Rattle.cosim_model.specs.Packets.{BusFields, is_extended}
use Rattle.rp_header.specs.Numbers.{number, field, IsFieldAt, IsNumberAt, AreBytes}
use Rattle.rp_header.specs.NumberLaws.{number-lt, number_at, IsNumberAt-number, AreBytes-drop}
use Rattle.rp_busaccess.specs.Buses.{data_count, IsStart, IsOld, IsPart, AreApart, IsExtended, IsBus}
use Rattle.rp_busaccess.specs.Refusals.{stands, apart, refused_bus, count_in, bus_refusal, part_in, master_in, fields_in, ReadsTight}
use Rattle.rp_busaccess.specs.Writing.{enables_place, bus_size, IsTightBus}

-- what a body that isn't refused has
old-within : (size count payload enables enable_count : ℕ) → refused_bus size false count payload enables enable_count ≡ None → 38 + count ≤ size
old-within size count payload enables enable_count lawful = grind (arith, nat_tests)

long-enough : (size count payload enables enable_count : ℕ) → refused_bus size true count payload enables enable_count ≡ None → 60 ≤ size
long-enough size count payload enables enable_count lawful = grind (arith, nat_tests)

data-stands : (size count payload enables enable_count : ℕ) → refused_bus size true count payload enables enable_count ≡ None → stands size payload count ≡ true
data-stands size count payload enables enable_count lawful = grind (arith, nat_tests)

enables-stand : (size count payload enables enable_count : ℕ) → refused_bus size true count payload enables enable_count ≡ None → (stands size enables enable_count ≡ true) × (apart payload count enables enable_count ≡ true)
enables-stand size count payload enables enable_count lawful = grind (arith, nat_tests)

stands-cases : (size place count : ℕ) → stands size place count ≡ true → (count ≡ 0) ⊎ ((0 < count) × (80 ≤ place) × (place + count ≤ 20 + size))
stands-cases size place count test = grind (arith, nat_tests)

apart-cases : (payload count enables enable_count : ℕ) → apart payload count enables enable_count ≡ true → AreApart payload count enables enable_count
apart-cases payload count enables enable_count test = grind (arith, nat_tests)

-- and which body isn't refused
old-lawful : (size count payload enables enable_count : ℕ) → 38 + count ≤ size → refused_bus size false count payload enables enable_count ≡ None
old-lawful size count payload enables enable_count within = grind (arith, nat_tests)

extended-lawful : (size count payload enables enable_count : ℕ) → 60 ≤ size → stands size payload count ≡ true → stands size enables enable_count ≡ true → apart payload count enables enable_count ≡ true → refused_bus size true count payload enables enable_count ≡ None
extended-lawful size count payload enables enable_count long s t u = grind (arith, nat_tests)

stands-none : (size place count : ℕ) → count ≡ 0 → stands size place count ≡ true
stands-none size place count none = grind (arith, nat_tests)

stands-within : (size place count : ℕ) → 80 ≤ place → place + count ≤ 20 + size → stands size place count ≡ true
stands-within size place count behind within = grind (arith, nat_tests)

apart-test : (payload count enables enable_count : ℕ) → AreApart payload count enables enable_count → apart payload count enables enable_count ≡ true
apart-test payload count enables enable_count are = grind (arith, nat_tests)

IsPart-there : (place count : ℕ) (body : List ℕ) → stands (length body) place count ≡ true → IsPart place count (part_in place count body) body
IsPart-there place count body test =
    elim (stands-cases (length body) place count test) as (λ _. IsPart place count (part_in place count body) body) [
      | inl none ↦ inl (none, ap (λ n. take n (drop (place - 20) body)) none)
      | inr some ↦ inr (some.0, record { behind = some.1; within = some.2; bytes = refl })
    ]

pub IsPart-read : (place count : ℕ) (part body : List ℕ) → IsPart place count part body → (stands (length body) place count ≡ true) × (part_in place count body ≡ part)
IsPart-read place count part body is =
    elim is as (λ _. (stands (length body) place count ≡ true) × (part_in place count body ≡ part)) [
      | inl none ↦ (stands-none (length body) place count none.0, ap (λ n. take n (drop (place - 20) body)) none.0 ∙ sym none.1)
      | inr some ↦ (stands-within (length body) place count some.1.behind some.1.within, sym some.1.bytes)
    ]

-- the parts of a master
low-of : (low middle high : ℕ) → low < 65536 → middle < 65536 → (low + 65536 * middle + 4294967296 * high) % 65536 ≡ low
low-of low middle high l m = omega arith

middle-of : (low middle high : ℕ) → low < 65536 → middle < 65536 → (low + 65536 * middle + 4294967296 * high) / 65536 % 65536 ≡ middle
middle-of low middle high l m = omega arith

high-of : (low middle high : ℕ) → low < 65536 → middle < 65536 → (low + 65536 * middle + 4294967296 * high) / 4294967296 ≡ high
high-of low middle high l m = omega arith

wide-fits : (low middle high : ℕ) → low < 65536 → middle < 65536 → high < 2 ^ 32 → low + 65536 * middle + 4294967296 * high < 2 ^ 64
wide-fits low middle high l m h = omega arith

whole-of : (m : ℕ) → m % 65536 + 65536 * (m / 65536 % 65536) + 4294967296 * (m / 4294967296) ≡ m
whole-of m = omega arith

field-lt : (place k : ℕ) (body : List ℕ) → AreBytes body → field place k body < 256 ^ k
field-lt place k body bytes = number-lt k (drop (place - 20) body) (AreBytes-drop (place - 20) body bytes)

at-field : (place k n : ℕ) (body : List ℕ) → n ≡ field place k body → IsFieldAt place k (field place k body) body → IsFieldAt place k n body
at-field place k n body e is = subst (λ (m : ℕ). IsFieldAt place k m body) (sym e) is

low-there : (x : Bool) (body : List ℕ) → AreBytes body → 38 ≤ length body → IsFieldAt 56 2 (master_in x body % 65536) body
low-there true body bytes long =
    at-field 56 2 _ body (low-of (field 56 2 body) (field 58 2 body) (field 60 4 body) (field-lt 56 2 body bytes) (field-lt 58 2 body bytes)) (IsNumberAt-number 36 2 body bytes (omega arith))
low-there false body bytes long =
    let low = field-lt 56 2 body bytes in
    let same : field 56 2 body % 65536 ≡ field 56 2 body = omega (arith, low) in
    at-field 56 2 _ body same (IsNumberAt-number 36 2 body bytes (omega arith))

start-there : (x carries : Bool) (body : List ℕ) → AreBytes body → 38 ≤ length body → IsStart (fields_in x carries body) body
start-there x carries body bytes long = record {
  time_at = IsNumberAt-number 0 8 body bytes (omega arith);
  attributes_at = IsNumberAt-number 8 8 body bytes (omega arith);
  addr_at = IsNumberAt-number 16 8 body bytes (omega arith);
  len_at = IsNumberAt-number 24 4 body bytes (omega arith);
  width_at = IsNumberAt-number 28 4 body bytes (omega arith);
  stream_width_at = IsNumberAt-number 32 4 body bytes (omega arith);
  low_at = low-there x body bytes long;
}

layout-there : (x carries : Bool) (body : List ℕ) → AreBytes body → bit (field 28 8 body) 2 ≡ x → refused_bus (length body) x (count_in carries body) (field 64 4 body) (field 72 4 body) (field 76 4 body) ≡ None → IsBus carries (fields_in x carries body) body
layout-there false carries body bytes is lawful =
    let within = old-within (length body) (count_in carries body) (field 64 4 body) (field 72 4 body) (field 76 4 body) lawful in
    let low = field-lt 56 2 body bytes in
    record {
      start = start-there false carries body bytes (omega arith);
      layout = inl (record { old = is; narrow = omega (arith, low); none_enabled = refl; within = within; payload = refl });
    }
layout-there true carries body bytes is lawful =
    let long = long-enough (length body) (count_in carries body) (field 64 4 body) (field 72 4 body) (field 76 4 body) lawful in
    let payload = data-stands (length body) (count_in carries body) (field 64 4 body) (field 72 4 body) (field 76 4 body) lawful in
    let enables = enables-stand (length body) (count_in carries body) (field 64 4 body) (field 72 4 body) (field 76 4 body) lawful in
    let low = field-lt 56 2 body bytes in
    let middle = field-lt 58 2 body bytes in
    record {
      start = start-there true carries body bytes (omega arith);
      layout = inr (record {
        extended = is;
        fits = wide-fits (field 56 2 body) (field 58 2 body) (field 60 4 body) low middle (field-lt 60 4 body bytes);
        long = long;
        middle_at = at-field 58 2 _ body (middle-of (field 56 2 body) (field 58 2 body) (field 60 4 body) low middle) (IsNumberAt-number 38 2 body bytes (omega arith));
        high_at = at-field 60 4 _ body (high-of (field 56 2 body) (field 58 2 body) (field 60 4 body) low middle) (IsNumberAt-number 40 4 body bytes (omega arith));
        payload = IsPart-there (field 64 4 body) (count_in carries body) body payload;
        enabled = IsPart-there (field 72 4 body) (field 76 4 body) body enables.0;
        apart = apart-cases (field 64 4 body) (count_in carries body) (field 72 4 body) (field 76 4 body) enables.1;
      });
    }

-- A body that isn't refused
pub IsBus-there : (carries : Bool) (body : List ℕ) → AreBytes body → bus_refusal carries body ≡ None → IsBus carries (fields_in (bit (field 28 8 body) 2) carries body) body
IsBus-there carries body bytes lawful = layout-there (bit (field 28 8 body) 2) carries body bytes refl lawful

pub same-fields : (f g : BusFields) → f.time ≡ g.time → f.attributes ≡ g.attributes → f.addr ≡ g.addr → f.len ≡ g.len → f.width ≡ g.width → f.stream_width ≡ g.stream_width → f.master ≡ g.master → f.payload ≡ g.payload → f.enables ≡ g.enables → f ≡ g
same-fields f g t a d l w s m p e =
    ap (λ x. record { time = x; attributes = f.attributes; addr = f.addr; len = f.len; width = f.width; stream_width = f.stream_width; master = f.master; payload = f.payload; enables = f.enables }) t
    ∙ ap (λ x. record { time = g.time; attributes = x; addr = f.addr; len = f.len; width = f.width; stream_width = f.stream_width; master = f.master; payload = f.payload; enables = f.enables }) a
    ∙ ap (λ x. record { time = g.time; attributes = g.attributes; addr = x; len = f.len; width = f.width; stream_width = f.stream_width; master = f.master; payload = f.payload; enables = f.enables }) d
    ∙ ap (λ x. record { time = g.time; attributes = g.attributes; addr = g.addr; len = x; width = f.width; stream_width = f.stream_width; master = f.master; payload = f.payload; enables = f.enables }) l
    ∙ ap (λ x. record { time = g.time; attributes = g.attributes; addr = g.addr; len = g.len; width = x; stream_width = f.stream_width; master = f.master; payload = f.payload; enables = f.enables }) w
    ∙ ap (λ x. record { time = g.time; attributes = g.attributes; addr = g.addr; len = g.len; width = g.width; stream_width = x; master = f.master; payload = f.payload; enables = f.enables }) s
    ∙ ap (λ x. record { time = g.time; attributes = g.attributes; addr = g.addr; len = g.len; width = g.width; stream_width = g.stream_width; master = x; payload = f.payload; enables = f.enables }) m
    ∙ ap (λ x. record { time = g.time; attributes = g.attributes; addr = g.addr; len = g.len; width = g.width; stream_width = g.stream_width; master = g.master; payload = x; enables = f.enables }) p
    ∙ ap (λ x. record { time = g.time; attributes = g.attributes; addr = g.addr; len = g.len; width = g.width; stream_width = g.stream_width; master = g.master; payload = g.payload; enables = x }) e

-- is what is read.
pub record ReadsBus (carries : Bool) (f : BusFields) (body : List ℕ) : Type 0 where
  pub lawful : bus_refusal carries body ≡ None
  pub fields_are : fields_in (bit (field 28 8 body) 2) carries body ≡ f

count-is : (carries : Bool) (f : BusFields) (body : List ℕ) → field 44 4 body ≡ f.len → count_in carries body ≡ data_count carries f
count-is true f body is = is
count-is false f body is = refl

old-read : (carries : Bool) (f : BusFields) (body : List ℕ) → IsStart f body → IsOld carries f body → ReadsBus carries f body
old-read carries f body start is =
    let attributes = number_at 8 8 f.attributes body start.attributes_at in
    let len = number_at 24 4 f.len body start.len_at in
    let low = number_at 36 2 (f.master % 65536) body start.low_at in
    let x : bit (field 28 8 body) 2 ≡ false = ap (λ a. bit a 2) attributes ∙ is.old in
    let count = count-is carries f body len in
    let narrow : f.master % 65536 ≡ f.master = omega (arith, is.narrow) in
    record {
      lawful = ap (λ b. refused_bus (length body) b (count_in carries body) (field 64 4 body) (field 72 4 body) (field 76 4 body)) x
          ∙ ap (λ n. refused_bus (length body) false n (field 64 4 body) (field 72 4 body) (field 76 4 body)) count
          ∙ old-lawful (length body) (data_count carries f) (field 64 4 body) (field 72 4 body) (field 76 4 body) is.within;
      fields_are = ap (λ b. fields_in b carries body) x ∙ same-fields (fields_in false carries body) f
          (number_at 0 8 f.time body start.time_at) attributes (number_at 16 8 f.addr body start.addr_at) len
          (number_at 28 4 f.width body start.width_at) (number_at 32 4 f.stream_width body start.stream_width_at)
          (low ∙ narrow) (ap (λ n. take n (drop 38 body)) count ∙ sym is.payload) (sym is.none_enabled);
    }

extended-read : (carries : Bool) (f : BusFields) (body : List ℕ) → IsStart f body → IsExtended carries f body → ReadsBus carries f body
extended-read carries f body start is =
    let attributes = number_at 8 8 f.attributes body start.attributes_at in
    let len = number_at 24 4 f.len body start.len_at in
    let low = number_at 36 2 (f.master % 65536) body start.low_at in
    let middle = number_at 38 2 (f.master / 65536 % 65536) body is.middle_at in
    let high = number_at 40 4 (f.master / 4294967296) body is.high_at in
    let x : bit (field 28 8 body) 2 ≡ true = ap (λ a. bit a 2) attributes ∙ is.extended in
    let count = count-is carries f body len in
    let payload = IsPart-read (field 64 4 body) (data_count carries f) f.payload body is.payload in
    let enables = IsPart-read (field 72 4 body) (field 76 4 body) f.enables body is.enabled in
    record {
      lawful = ap (λ b. refused_bus (length body) b (count_in carries body) (field 64 4 body) (field 72 4 body) (field 76 4 body)) x
          ∙ ap (λ n. refused_bus (length body) true n (field 64 4 body) (field 72 4 body) (field 76 4 body)) count
          ∙ extended-lawful (length body) (data_count carries f) (field 64 4 body) (field 72 4 body) (field 76 4 body) is.long payload.0 enables.0
          (apart-test (field 64 4 body) (data_count carries f) (field 72 4 body) (field 76 4 body) is.apart);
      fields_are = ap (λ b. fields_in b carries body) x ∙ same-fields (fields_in true carries body) f
          (number_at 0 8 f.time body start.time_at) attributes (number_at 16 8 f.addr body start.addr_at) len
          (number_at 28 4 f.width body start.width_at) (number_at 32 4 f.stream_width body start.stream_width_at)
          (ap (λ n. n + 65536 * field 58 2 body + 4294967296 * field 60 4 body) low
          ∙ ap (λ n. f.master % 65536 + 65536 * n + 4294967296 * field 60 4 body) middle
          ∙ ap (λ n. f.master % 65536 + 65536 * (f.master / 65536 % 65536) + 4294967296 * n) high ∙ whole-of f.master)
          (ap (λ n. take n (drop (field 64 4 body - 20) body)) count ∙ payload.1) enables.1;
    }

pub IsBus-read : (carries : Bool) (f : BusFields) (body : List ℕ) → IsBus carries f body → ReadsBus carries f body
IsBus-read carries f body is =
    elim is.layout as (λ _. ReadsBus carries f body) [
      | inl old ↦ old-read carries f body is.start old
      | inr extended ↦ extended-read carries f body is.start extended
    ]

-- how many bytes are carried
pub IsPart-length : (place count : ℕ) (part body : List ℕ) → IsPart place count part body → length part ≡ count
IsPart-length place count part body (inl none) = ap length none.1 ∙ sym none.0
IsPart-length place count part body (inr some) =
    let at = some.1 in
    let behind = at.behind in
    let within = at.within in
    let size = ap length at.bytes in
    omega (arith, size, behind, within, length-take count (drop (place - 20) body), length-drop (place - 20) body)

pub IsOld-length : (carries : Bool) (f : BusFields) (body : List ℕ) → IsOld carries f body → length f.payload ≡ data_count carries f
IsOld-length carries f body is =
    let within = is.within in
    let size = ap length is.payload in
    omega (arith, size, within, length-take (data_count carries f) (drop 38 body), length-drop 38 body)

-- A body is tight where it is read so.
abbrev layout_size : BusFields → Bool → ℕ
layout_size f x = if x then 60 + length f.payload + length f.enables else 38 + length f.payload

old-looks : (carries : Bool) (f : BusFields) (body : List ℕ) → IsStart f body → IsOld carries f body → ReadsTight false carries body ↔ IsTightBus false f body
old-looks carries f body start is =
    let size : bus_size f ≡ 38 + length f.payload = ap (layout_size f) is.old in
    let counted = IsOld-length carries f body is in
    let count = count-is carries f body (number_at 24 4 f.len body start.len_at) in
    (λ reads. omega (arith, size, counted, count, reads), λ tight. omega (arith, size, counted, count, tight))

at-place : (place n : ℕ) (body : List ℕ) → AreBytes body → 60 ≤ length body → place ≤ 56 → number 4 (drop place body) ≡ n → IsNumberAt place 4 n body
at-place place n body bytes long low is = subst (λ (m : ℕ). IsNumberAt place 4 m body) is (IsNumberAt-number place 4 body bytes (omega (arith, long, low)))

extended-looks : (carries : Bool) (f : BusFields) (body : List ℕ) → AreBytes body → IsStart f body → IsExtended carries f body → ReadsTight true carries body ↔ IsTightBus true f body
extended-looks carries f body bytes start is =
    let size : bus_size f ≡ 60 + length f.payload + length f.enables = ap (layout_size f) is.extended in
    let carried = IsPart-length (field 64 4 body) (data_count carries f) f.payload body is.payload in
    let count = count-is carries f body (number_at 24 4 f.len body start.len_at) in
    let counted : count_in carries body ≡ length f.payload = count ∙ sym carried in
    let enabled : field 76 4 body ≡ length f.enables = sym (IsPart-length (field 72 4 body) (field 76 4 body) f.enables body is.enabled) in
    let place : (if nat_eq (field 76 4 body) 0 then 0 else 80 + count_in carries body) ≡ enables_place f =
    ap (λ n. if nat_eq n 0 then 0 else 80 + count_in carries body) enabled ∙ ap (λ n. if nat_eq (length f.enables) 0 then 0 else 80 + n) counted in (
      λ reads. let length_is = reads.3 in (
        at-place 44 80 body bytes is.long (omega arith) reads.0,
        at-place 48 0 body bytes is.long (omega arith) reads.1,
        at-place 52 (enables_place f) body bytes is.long (omega arith) (reads.2 ∙ place),
        omega (arith, size, counted, enabled, length_is),
      ),
      λ tight. let length_is = tight.3 in (
        number_at 44 4 80 body tight.0,
        number_at 48 4 0 body tight.1,
        number_at 52 4 (enables_place f) body tight.2 ∙ sym place,
        omega (arith, size, counted, enabled, length_is),
      ),
    )

both-layouts : (x y : Bool) (carries : Bool) (f : BusFields) (body : List ℕ) → x ≡ y → is_extended f ≡ y → ReadsTight y carries body ↔ IsTightBus y f body → ReadsTight x carries body ↔ IsTightBus (is_extended f) f body
both-layouts x y carries f body is_x is_f iff =
    subst (λ (t : Bool). ReadsTight t carries body ↔ IsTightBus (is_extended f) f body) (sym is_x)
    (subst (λ (t : Bool). ReadsTight y carries body ↔ IsTightBus t f body) (sym is_f) iff)

pub tight-bus : (carries : Bool) (f : BusFields) (body : List ℕ) → AreBytes body → IsBus carries f body → ReadsTight (bit (field 28 8 body) 2) carries body ↔ IsTightBus (is_extended f) f body
tight-bus carries f body bytes is =
    let x : bit (field 28 8 body) 2 ≡ is_extended f = ap (λ a. bit a 2) (number_at 8 8 f.attributes body is.start.attributes_at) in
    elim is.layout as (λ _. ReadsTight (bit (field 28 8 body) 2) carries body ↔ IsTightBus (is_extended f) f body) [
      | inl old ↦ both-layouts (bit (field 28 8 body) 2) false carries f body (x ∙ old.old) old.old (old-looks carries f body is.start old)
      | inr extended ↦ both-layouts (bit (field 28 8 body) 2) true carries f body (x ∙ extended.extended) extended.extended (extended-looks carries f body bytes is.start extended)
    ]
