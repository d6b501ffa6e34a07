-- How a number stands in a list of bytes: unsigned, the most significant byte first.
use Rattle.std.specs.Prelude.{◌≡◌, ℕ, ◌-◌, ◌^◌, ◌<◌, List, take, drop, slice_index}
use Rattle.byteorder.specs.Endian.{big_bytes, big_number}

-- the k bytes of n
unfoldable pub be : ℕ → ℕ → List ℕ
be n k = big_bytes k n

-- the number in the first k bytes
unfoldable pub number : ℕ → List ℕ → ℕ
number k b = big_number k b

-- n is a number of k bytes, and these stand at a place
pub record IsNumberAt (place k n : ℕ) (b : List ℕ) : Type 0 where
  pub fits : n < 256 ^ k
  pub bytes : take k (drop place b) ≡ be n k

-- Places are counted from a packet's first byte. Its header takes 20, so what stands at a place of the packet stands 20
-- bytes earlier in its body.
abbrev pub IsFieldAt : ℕ → ℕ → ℕ → List ℕ → Type 0
IsFieldAt place k n body = IsNumberAt (place - 20) k n body

abbrev pub field : ℕ → ℕ → List ℕ → ℕ
field place k body = number k (drop (place - 20) body)

-- each item is a byte
pub record AreBytes (b : List ℕ) : Type 0 where
  pub each : (i : ℕ) → slice_index b i < 256
