-- What RAM is to the parts of a machine: a list of bytes from an address on, which is read and written by ranges of
-- addresses.
use Rattle.std.specs.Prelude.{ℕ, ◌+◌, ◌-◌, ◌%◌, Bool, true, false, ◌&&◌, nat_le, if◌then◌else◌, List, [], ◌∷◌, length, take, drop, replicate, map, Option, Some, None}
use Rattle.cos_base.specs.Octets.{overwritten}
use Rattle.cosim_model.specs.Values.{bytes_of, le}

-- The address of the first byte.
abbrev pub ram_base : ℕ
ram_base = 0x80000000

-- Where in RAM of a size the n bytes from an address on stand, where the whole range is in RAM. Sums don't wrap.
abbrev pub place_of : ℕ → ℕ → ℕ → Option ℕ
place_of size addr n = if nat_le ram_base addr && nat_le (addr + n) (ram_base + size) then Some (addr - ram_base)
    else None

-- The n bytes from a place on.
abbrev pub part_of : List ℕ → ℕ → ℕ → List ℕ
part_of bytes at n = take n (drop at bytes)

-- A byte is read as itself. No memory holds another number, but a model of a master has an answer for each list.
abbrev pub as_byte : ℕ → ℕ
as_byte b = b % 256

-- A read: its code, and as many bytes as it asks for.
abbrev pub read_at : List ℕ → ℕ → Option ℕ → ℕ × List ℕ
read_at bytes n None = (2, replicate n 0)
read_at bytes n (Some at) = (0, map as_byte (part_of bytes at n))

abbrev pub read_of : List ℕ → ℕ → ℕ → ℕ × List ℕ
read_of bytes addr n = read_at bytes n (place_of (length bytes) addr n)

-- The enabled ones of some bytes in place of the old ones.
abbrev pub merged : List Bool → List ℕ → List ℕ → List ℕ
merged [] bytes old = old
merged (on ∷ ons) [] old = old
merged (on ∷ ons) (b ∷ bytes) [] = []
merged (on ∷ ons) (b ∷ bytes) (o ∷ old) = (if on then b else o) ∷ merged ons bytes old

-- A write: the memory after it, and its code.
abbrev pub write_at : List ℕ → List ℕ → List Bool → Option ℕ → List ℕ × ℕ
write_at bytes new ons None = (bytes, 2)
write_at bytes new ons (Some at) = (overwritten bytes at (merged ons new (part_of bytes at (length new))), 0)

abbrev pub write_of : List ℕ → ℕ → List ℕ → List Bool → List ℕ × ℕ
write_of bytes addr new ons = write_at bytes new ons (place_of (length bytes) addr (length new))

-- The number of a few bytes from an address on, the least significant first, where they are in RAM.
abbrev pub number_at : List ℕ → ℕ → Option ℕ → Option ℕ
number_at bytes n None = None
number_at bytes n (Some at) = Some (le (part_of bytes at n))

abbrev pub number_of : List ℕ → ℕ → ℕ → Option ℕ
number_of bytes addr n = number_at bytes n (place_of (length bytes) addr n)

-- The memory after a few bytes of a number were stored from an address on, and whether they are in RAM.
abbrev pub store_at : List ℕ → ℕ → ℕ → Option ℕ → List ℕ × Bool
store_at bytes n value None = (bytes, false)
store_at bytes n value (Some at) = (overwritten bytes at (bytes_of value n), true)

abbrev pub store_of : List ℕ → ℕ → ℕ → ℕ → List ℕ × Bool
store_of bytes addr n value = store_at bytes n value (place_of (length bytes) addr n)
