-- What the bodies of hello, cfg, interrupt and sync packets mean, and their canonical bytes. Places are counted from
-- the packet's first byte.
use Rattle.std.specs.Prelude.{◌≡◌, ◌⊎◌, ℕ, ◌+◌, ◌*◌, ◌-◌, ◌^◌, ◌<◌, ◌≤◌, List, [], ◌∷◌, length, take, drop, slice_index}
use Rattle.std.specs.List.{flat_map}
use Rattle.std.specs.List.{concat}
use Rattle.rp_header.specs.Numbers.{be, field, IsFieldAt}

-- each item is a number of four bytes
pub record AreWords (ns : List ℕ) : Type 0 where
  pub each : (i : ℕ) → slice_index ns i < 2 ^ 32

abbrev pub caps_bytes : List ℕ → List ℕ
caps_bytes caps = flat_map (λ n. be n 4) caps

-- Capabilities at a place stand behind the fields of a hello, and end within the packet.
pub record AreCapsAt (place : ℕ) (caps body : List ℕ) : Type 0 where
  pub behind : 32 ≤ place
  pub within : place + 4 * length caps ≤ 20 + length body
  pub bytes : take (4 * length caps) (drop (place - 20) body) ≡ caps_bytes caps

-- A hello of 4 to 11 bytes has no capabilities. A longer one has their number at 28, and at 24 the place where they
-- stand; where there are none, that place isn't read.
abbrev pub IsShort : List ℕ → List ℕ → Type 0
IsShort caps body = (4 ≤ length body) × (length body < 12) × (caps ≡ [])

abbrev pub IsLong : List ℕ → List ℕ → Type 0
IsLong caps body = (12 ≤ length body) × IsFieldAt 28 2 (length caps) body
    × ((caps ≡ []) ⊎ AreCapsAt (field 24 4 body) caps body)

pub record IsHello (major minor : ℕ) (caps body : List ℕ) : Type 0 where
  pub major_at : IsFieldAt 20 2 major body
  pub minor_at : IsFieldAt 22 2 minor body
  pub words : AreWords caps
  pub caps_at : IsShort caps body ⊎ IsLong caps body

pub record IsCfg (opt set : ℕ) (body : List ℕ) : Type 0 where
  pub long : 5 ≤ length body
  pub opt_at : IsFieldAt 20 4 opt body
  pub set_at : IsFieldAt 24 1 set body

pub record IsInterrupt (time vector line val : ℕ) (body : List ℕ) : Type 0 where
  pub long : 21 ≤ length body
  pub time_at : IsFieldAt 20 8 time body
  pub vector_at : IsFieldAt 28 8 vector body
  pub line_at : IsFieldAt 36 4 line body
  pub val_at : IsFieldAt 40 1 val body

pub record IsSync (time : ℕ) (body : List ℕ) : Type 0 where
  pub long : 8 ≤ length body
  pub time_at : IsFieldAt 20 8 time body

-- A tight body of a hello has its capabilities right behind its fields and nothing behind them, and 0 in the reserved
-- field.
abbrev pub IsTightHello : List ℕ → List ℕ → Type 0
IsTightHello caps body = IsFieldAt 24 4 32 body × IsFieldAt 30 2 0 body × (length body ≡ 12 + 4 * length caps)

-- the canonical bytes: the capabilities stand right behind the fields, and nothing behind them
abbrev pub hello_bytes : ℕ → ℕ → List ℕ → List ℕ
hello_bytes major minor caps =
    concat (be major 2 ∷ be minor 2 ∷ be 32 4 ∷ be (length caps) 2 ∷ be 0 2 ∷ caps_bytes caps ∷ [])

abbrev pub cfg_bytes : ℕ → ℕ → List ℕ
cfg_bytes opt set = concat (be opt 4 ∷ be set 1 ∷ [])

abbrev pub interrupt_bytes : ℕ → ℕ → ℕ → ℕ → List ℕ
interrupt_bytes time vector line val = concat (be time 8 ∷ be vector 8 ∷ be line 4 ∷ be val 1 ∷ [])

abbrev pub sync_bytes : ℕ → List ℕ
sync_bytes time = be time 8
