-- The address map: its parts, and the first fault that keeps windows from being one.
use Rattle.std.specs.Prelude.{◌≡◌, ℕ, ◌+◌, ◌%◌, Bool, ◌&&◌, ◌||◌, not, nat_le, nat_eq, if◌then◌else◌, List, [], ◌∷◌, Option, Some, None, Result, Ok, Err, option_map}
use Rattle.sys_bus.specs.declared.map.Window.{Window}
use Rattle.cos_map.specs.declared.parts.Part.{Part}
use Rattle.cos_map.specs.Parts.{overlap_found, with_windows}
use Rattle.sys_bus.specs.declared.map.MapFault.{MapFault}
use Rattle.sys_bus.specs.declared.map.MapFault.TheVariants.{Misaligned, Overlap, NoMemory}

-- A map: its windows by port, and the size of RAM that it was made with.
pub record MapState : Type 0 where
  pub windows : List Window
  pub ram : ℕ

abbrev pub or_else : Option MapFault → Option MapFault → Option MapFault
or_else None other = other
or_else (Some fault) other = Some fault

-- A window begins and ends at multiples of 4,096, and has a byte.
abbrev pub misaligned : Window → Bool
misaligned w = not (nat_eq (w.base % 4096) 0) || not (nat_eq (w.size % 4096) 0) || nat_eq w.size 0

-- the first misaligned one of the windows from number k on
abbrev pub misaligned_found : ℕ → List Window → Option MapFault
misaligned_found k [] = None
misaligned_found k (w ∷ ws) = if misaligned w then Some (Misaligned k) else misaligned_found (k + 1) ws

abbrev pub window_parts : List Window → List Part
window_parts [] = []
window_parts (w ∷ ws) = record { base = w.base; size = w.size } ∷ window_parts ws

abbrev pub parts_of : List Window → ℕ → List Part
parts_of windows ram = with_windows ram (window_parts windows)

abbrev pub overlap_fault : ℕ × ℕ → MapFault
overlap_fault p = Overlap p.0 p.1

-- The first fault of windows beside RAM of a size.
abbrev pub fault_found : List Window → ℕ → Option MapFault
fault_found windows ram =
    or_else (misaligned_found 0 windows) (option_map overlap_fault (overlap_found 0 (parts_of windows ram)))

-- What making a map answers.
abbrev pub Maps : List Window → ℕ → Result MapState MapFault → Type 0
Maps windows ram (Ok m) = (fault_found windows ram ≡ None) × (m ≡ record { windows = windows; ram = ram })
Maps windows ram (Err NoMemory) = Unit
Maps windows ram (Err (Misaligned window)) = fault_found windows ram ≡ Some (Misaligned window)
Maps windows ram (Err (Overlap a b)) = fault_found windows ram ≡ Some (Overlap a b)

-- The first window from port `port` on that holds all n bytes from an address on.
abbrev pub holds : Window → ℕ → ℕ → Bool
holds w addr n = nat_le w.base addr && nat_le (addr + n) (w.base + w.size)

abbrev pub window_from : ℕ → List Window → ℕ → ℕ → Option (ℕ × Window)
window_from port [] addr n = None
window_from port (w ∷ ws) addr n = if holds w addr n then Some (port, w) else window_from (port + 1) ws addr n
