-- A mask as bytes, and the wants that fit 64 bytes.
use Rattle.std.specs.Prelude.{ℕ, zero, suc, ◌/◌, ◌%◌, ◌<◌, ◌≤◌, List, [], ◌∷◌}
use Rattle.cosim_model.specs.declared.values.Want.{Want}
use Rattle.cosim_model.specs.declared.values.Want.TheVariants.{Fetch, Store, Line}

-- One byte for each of the n low bits of a mask, the lowest first.
abbrev pub bit_bytes : ℕ → ℕ → List ℕ
bit_bytes mask zero = []
bit_bytes mask (suc n) = mask % 2 ∷ bit_bytes (mask / 2) n

abbrev pub HasSize : Want → Type 0
HasSize (Fetch addr size) = size ≤ 64
HasSize (Store addr size bytes mask) = (0 < size) × (size ≤ 64)
HasSize (Line number level) = Unit {0}
