-- Parts of the address space, which has 2 ^ 32 addresses.
use Rattle.std.specs.Prelude.{ℕ, ◌+◌, ◌<◌, ◌≤◌, Bool, ◌&&◌, nat_lt, if◌then◌else◌, List, [], ◌∷◌, Option, Some, None, length, slice_index_or}
use Rattle.cos_map.specs.declared.parts.Part.{Part}

abbrev pub passes_end : Part → Bool
passes_end x = nat_lt 4294967296 (x.base + x.size)

abbrev pub share_an_address : Part → Part → Bool
share_an_address x y = nat_lt x.base (y.base + y.size) && nat_lt y.base (x.base + x.size)

abbrev pub or_else : Option (ℕ × ℕ) → Option (ℕ × ℕ) → Option (ℕ × ℕ)
or_else None later = later
or_else (Some found) later = Some found

-- the first of the later parts, of which the first has number b, that shares an address with part a
abbrev pub shared_found : ℕ → Part → ℕ → List Part → Option (ℕ × ℕ)
shared_found a x b [] = None
shared_found a x b (y ∷ ys) = if share_an_address x y then Some (a, b) else shared_found a x (b + 1) ys

-- The first two parts that share an address, of which the first has number a; or twice the same, where that part passes
-- the end.
abbrev pub overlap_found : ℕ → List Part → Option (ℕ × ℕ)
overlap_found a [] = None
overlap_found a (x ∷ xs) =
    or_else (if passes_end x then Some (a, a) else None)
    (or_else (shared_found a x (a + 1) xs) (overlap_found (a + 1) xs))

-- RAM begins at 0x80000000; the system block is one page at 0x00100000; behind them the windows by port.
abbrev pub with_windows : ℕ → List Part → List Part
with_windows ram windows = record { base = 2147483648; size = ram } ∷ record { base = 1048576; size = 4096 } ∷ windows

-- No address is in two parts.
abbrev pub part_at : List Part → ℕ → Part
part_at ps k = slice_index_or ps k (record { base = 0; size = 0 })

abbrev pub IsIn : Part → ℕ → Type 0
IsIn x addr = (x.base ≤ addr) × (addr < x.base + x.size)

abbrev pub AreApart : List Part → Type 0
AreApart ps = (i j : ℕ) → i < j → j < length ps → (addr : ℕ) → IsIn (part_at ps i) addr → IsIn (part_at ps j) addr → ⊥
