-- The canonical bytes of a bus packet's body, and which values have none.
use Rattle.std.specs.Prelude.{◌≡◌, ℕ, ◌+◌, ◌/◌, ◌%◌, Bool, true, false, not, ◌&&◌, nat_lt, nat_eq, if◌then◌else◌, List, [], ◌∷◌, length, Option, Some, None}
use Rattle.cosim_model.specs.Packets.{BusFields, is_extended}
use Rattle.std.specs.List.{concat}
use Rattle.rp_header.specs.Numbers.{be, IsFieldAt}
use Rattle.rp_busaccess.specs.Buses.{data_count}
use Rattle.rp_busaccess.specs.declared.fault.WriteFault.{WriteFault}
use Rattle.rp_busaccess.specs.declared.fault.WriteFault.TheVariants.{MasterTooWide, DataCount, EnablesInOld, TooLong, NoMemory}

-- the data, then the enables; the place of the enables is 0 where there are none
abbrev pub enables_place : BusFields → ℕ
enables_place f = if nat_eq (length f.enables) 0 then 0 else 80 + length f.payload

abbrev pub start_bytes : BusFields → List ℕ
start_bytes f =
    concat (be f.time 8 ∷ be f.attributes 8 ∷ be f.addr 8 ∷ be f.len 4 ∷ be f.width 4 ∷ be f.stream_width 4
    ∷ be (f.master % 65536) 2 ∷ [])

abbrev pub more_bytes : BusFields → List ℕ
more_bytes f =
    concat (be (f.master / 65536 % 65536) 2 ∷ be (f.master / 4294967296) 4 ∷ be 80 4 ∷ be 0 4 ∷ be (enables_place f) 4
    ∷ be (length f.enables) 4 ∷ [])

abbrev pub bus_bytes : BusFields → List ℕ
bus_bytes f = if is_extended f then concat (start_bytes f ∷ more_bytes f ∷ f.payload ∷ f.enables ∷ [])
    else concat (start_bytes f ∷ f.payload ∷ [])

abbrev pub bus_size : BusFields → ℕ
bus_size f = if is_extended f then 60 + length f.payload + length f.enables else 38 + length f.payload

-- A tight body has its data and enables in this order right behind its fields, nothing behind them, and zeros in the
-- fields that mean nothing. The Boolean is the layout.
abbrev pub IsTightBus : Bool → BusFields → List ℕ → Type 0
IsTightBus true f body = IsFieldAt 64 4 80 body × IsFieldAt 68 4 0 body × IsFieldAt 72 4 (enables_place f) body
    × (length body ≡ bus_size f)
IsTightBus false f body = length body ≡ bus_size f

-- the first reason for which a value isn't written: an old layout has no room for a wide master, the data aren't as
-- many as are carried, an old layout has no enables, the body would be too long
abbrev pub write_fault : Bool → BusFields → Option WriteFault
write_fault carries f =
    if not (is_extended f) && nat_lt 65535 f.master then Some (MasterTooWide f.master)
    else (if not (nat_eq (length f.payload) (data_count carries f))
    then Some (DataCount (data_count carries f) (length f.payload))
    else (if not (is_extended f) && nat_lt 0 (length f.enables) then Some (EnablesInOld (length f.enables))
    else (if nat_lt 65536 (bus_size f) then Some (TooLong (bus_size f))
    else None)))

-- a fault other than want of memory is the first that applies
abbrev pub IsWriteFault : WriteFault → Option WriteFault → Type 0
IsWriteFault (MasterTooWide master) first = first ≡ Some (MasterTooWide master)
IsWriteFault (DataCount wanted got) first = first ≡ Some (DataCount wanted got)
IsWriteFault (EnablesInOld count) first = first ≡ Some (EnablesInOld count)
IsWriteFault (TooLong len) first = first ≡ Some (TooLong len)
IsWriteFault NoMemory first = Unit {0}
