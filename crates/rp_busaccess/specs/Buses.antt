-- What the body of a bus packet means, in the old and in the extended layout. Places are counted from the packet's
-- first byte.
use Rattle.std.specs.Prelude.{◌≡◌, ◌⊎◌, ℕ, ◌+◌, ◌-◌, ◌/◌, ◌%◌, ◌^◌, ◌<◌, ◌≤◌, Bool, true, false, if◌then◌else◌, List, [], length, take, drop}
use Rattle.cosim_model.specs.Packets.{BusFields, is_extended}
use Rattle.rp_header.specs.Numbers.{field, IsFieldAt}

-- how many data bytes are carried
abbrev pub data_count : Bool → BusFields → ℕ
data_count carries f = if carries then f.len else 0

-- The fields of both layouts. The old one has the low 16 bits of the master alone.
pub record IsStart (f : BusFields) (body : List ℕ) : Type 0 where
  pub time_at : IsFieldAt 20 8 f.time body
  pub attributes_at : IsFieldAt 28 8 f.attributes body
  pub addr_at : IsFieldAt 36 8 f.addr body
  pub len_at : IsFieldAt 44 4 f.len body
  pub width_at : IsFieldAt 48 4 f.width body
  pub stream_width_at : IsFieldAt 52 4 f.stream_width body
  pub low_at : IsFieldAt 56 2 (f.master % 65536) body

pub record IsOld (carries : Bool) (f : BusFields) (body : List ℕ) : Type 0 where
  pub old : is_extended f ≡ false
  pub narrow : f.master < 65536
  pub none_enabled : f.enables ≡ []
  pub within : 38 + data_count carries f ≤ length body
  pub payload : f.payload ≡ take (data_count carries f) (drop (58 - 20) body)

-- A part of so many bytes is those at a place behind the fields, within the packet; the place of an empty part isn't
-- read.
pub record StandsAt (place count : ℕ) (part body : List ℕ) : Type 0 where
  pub behind : 80 ≤ place
  pub within : place + count ≤ 20 + length body
  pub bytes : part ≡ take count (drop (place - 20) body)

abbrev pub IsPart : ℕ → ℕ → List ℕ → List ℕ → Type 0
IsPart place count part body = ((count ≡ 0) × (part ≡ [])) ⊎ ((0 < count) × StandsAt place count part body)

-- two parts share no byte
abbrev pub AreApart : ℕ → ℕ → ℕ → ℕ → Type 0
AreApart payload count enables enable_count = (count ≡ 0) ⊎ (enable_count ≡ 0) ⊎ (payload + count ≤ enables)
    ⊎ (enables + enable_count ≤ payload)

pub record IsExtended (carries : Bool) (f : BusFields) (body : List ℕ) : Type 0 where
  pub extended : is_extended f ≡ true
  pub fits : f.master < 2 ^ 64
  pub long : 60 ≤ length body
  pub middle_at : IsFieldAt 58 2 (f.master / 65536 % 65536) body
  pub high_at : IsFieldAt 60 4 (f.master / 4294967296) body
  pub payload : IsPart (field 64 4 body) (data_count carries f) f.payload body
  pub enabled : IsPart (field 72 4 body) (field 76 4 body) f.enables body
  pub apart : AreApart (field 64 4 body) (data_count carries f) (field 72 4 body) (field 76 4 body)

pub record IsBus (carries : Bool) (f : BusFields) (body : List ℕ) : Type 0 where
  pub start : IsStart f body
  pub layout : IsOld carries f body ⊎ IsExtended carries f body
