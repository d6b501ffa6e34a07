-- Which bodies of bus packets are refused, and what stands in the others.
use Rattle.std.specs.Prelude.{◌≡◌, ℕ, ◌+◌, ◌*◌, ◌-◌, Bool, true, false, not, ◌&&◌, ◌||◌, nat_lt, nat_le, nat_eq, if◌then◌else◌, List, [], length, take, drop, Option, Some, None}
use Rattle.cosim_model.specs.Values.{bit}
use Rattle.cosim_model.specs.Packets.{BusFields}
use Rattle.rp_header.specs.Numbers.{field}
use Rattle.rp_busaccess.specs.declared.fault.BusFault.{BusFault}
use Rattle.rp_busaccess.specs.declared.fault.BusFault.TheVariants.{Length, DataRange, EnableRange, NoMemory}

-- the least body of a layout; before 38 bytes are there, the attributes can't be read
abbrev pub least : ℕ → Bool → ℕ → ℕ
least size extended count = if nat_lt size 38 then 38 else (if extended then 60 else 38 + count)

-- whether a part of so many bytes stands where it may
abbrev pub stands : ℕ → ℕ → ℕ → Bool
stands size place count = nat_eq count 0 || (nat_le 80 place && nat_le (place + count) (20 + size))

abbrev pub apart : ℕ → ℕ → ℕ → ℕ → Bool
apart payload count enables enable_count = nat_eq count 0 || nat_eq enable_count 0 || nat_le (payload + count) enables
    || nat_le (enables + enable_count) payload

-- the first fault: the body is too short, its data don't stand within it, its enables don't, or do so on the data
abbrev pub refused_extended : ℕ → ℕ → ℕ → ℕ → ℕ → Option BusFault
refused_extended size payload count enables enable_count =
    if not (stands size payload count) then Some (DataRange payload count)
    else (if not (stands size enables enable_count && apart payload count enables enable_count)
    then Some (EnableRange enables enable_count)
    else None)

abbrev pub refused_bus : ℕ → Bool → ℕ → ℕ → ℕ → ℕ → Option BusFault
refused_bus size extended count payload enables enable_count =
    if nat_lt size (least size extended count) then Some (Length (least size extended count) size)
    else (if extended then refused_extended size payload count enables enable_count
    else None)

abbrev pub count_in : Bool → List ℕ → ℕ
count_in carries body = if carries then field 44 4 body else 0

abbrev pub bus_refusal : Bool → List ℕ → Option BusFault
bus_refusal carries body =
    refused_bus (length body) (bit (field 28 8 body) 2) (count_in carries body) (field 64 4 body) (field 72 4 body)
    (field 76 4 body)

-- a fault other than want of memory is the first that applies
abbrev pub IsRefusal : BusFault → Option BusFault → Type 0
IsRefusal (Length wanted got) refusal = refusal ≡ Some (Length wanted got)
IsRefusal (DataRange offset len) refusal = refusal ≡ Some (DataRange offset len)
IsRefusal (EnableRange offset len) refusal = refusal ≡ Some (EnableRange offset len)
IsRefusal NoMemory refusal = Unit {0}

-- what stands in a body
abbrev pub part_in : ℕ → ℕ → List ℕ → List ℕ
part_in place count body = take count (drop (place - 20) body)

abbrev pub data_in : Bool → Bool → List ℕ → List ℕ
data_in extended carries body = part_in (if extended then field 64 4 body else 58) (count_in carries body) body

abbrev pub enables_in : Bool → List ℕ → List ℕ
enables_in extended body = if extended then part_in (field 72 4 body) (field 76 4 body) body else []

abbrev pub master_in : Bool → List ℕ → ℕ
master_in extended body = if extended then field 56 2 body + 65536 * field 58 2 body + 4294967296
    * field 60 4 body else field 56 2 body

abbrev pub fields_in : Bool → Bool → List ℕ → BusFields
fields_in extended carries body = record {
  time = field 20 8 body;
  attributes = field 28 8 body;
  addr = field 36 8 body;
  len = field 44 4 body;
  width = field 48 4 body;
  stream_width = field 52 4 body;
  master = master_in extended body;
  payload = data_in extended carries body;
  enables = enables_in extended body;
}

-- what is read in a tight body
abbrev pub ReadsTight : Bool → Bool → List ℕ → Type 0
ReadsTight true carries body = (field 64 4 body ≡ 80) × (field 68 4 body ≡ 0)
    × (field 72 4 body ≡ (if nat_eq (field 76 4 body) 0 then 0 else 80 + count_in carries body))
    × (length body ≡ 60 + count_in carries body + field 76 4 body)
ReadsTight false carries body = length body ≡ 38 + count_in carries body
