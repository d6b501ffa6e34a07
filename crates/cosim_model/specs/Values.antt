-- Numbers as bytes and bits, and what a bus hands back for an access.
use Rattle.std.specs.Prelude.{ℕ, zero, suc, ◌+◌, ◌*◌, ◌/◌, ◌%◌, ◌^◌, Bool, true, false, ◌&&◌, if◌then◌else◌, nat_eq, nat_le, List, [], ◌∷◌, ◌++◌, take, replicate}
use Rattle.cosim_model.specs.declared.values.Access.{Access}
use Rattle.cosim_model.specs.declared.values.Answer.{Answer}
use Rattle.cosim_model.specs.declared.values.Caps.{Caps}

abbrev pub all_caps : Caps
all_caps = record { base = true; enables = true; posted = true }

abbrev pub no_caps : Caps
no_caps = record { base = false; enables = false; posted = false }

-- Numbers as bytes and bits, the least significant first.

-- The k low bytes of v.
abbrev pub bytes_of : ℕ → ℕ → List ℕ
bytes_of v zero = []
bytes_of v (suc k) = v % 256 ∷ bytes_of (v / 256) k

abbrev pub le : List ℕ → ℕ
le [] = 0
le (b ∷ bs) = b + 256 * le bs

-- The k low bits of v.
abbrev pub bits_of : ℕ → ℕ → List Bool
bits_of v zero = []
bits_of v (suc k) = nat_eq (v % 2) 1 ∷ bits_of (v / 2) k

abbrev pub from_bits : List Bool → ℕ
from_bits [] = 0
from_bits (b ∷ bs) = (if b then 1 else 0) + 2 * from_bits bs

abbrev pub bit : ℕ → ℕ → Bool
bit v i = nat_eq ((v / 2 ^ i) % 2) 1

abbrev pub all_on : List Bool → Bool
all_on [] = true
all_on (b ∷ bs) = b && all_on bs

-- The bytes, with 0 in place of each that is not on.
abbrev pub masked : List Bool → List ℕ → List ℕ
masked [] bs = []
masked (on ∷ ons) [] = []
masked (on ∷ ons) (b ∷ bs) = (if on then b else 0) ∷ masked ons bs

-- 64 bytes: these, then zeros.
abbrev pub padded : List ℕ → List ℕ
padded bs = take 64 (bs ++ replicate 64 0)

abbrev pub no_bytes : List ℕ
no_bytes = replicate 64 0

-- `plain a x` is what a bus hands back for the access a that a device answered by x: a code above 15 becomes 1, the
-- value is 0 for a write or where the code is not 0, and otherwise disabled bytes and bytes past the size are 0. For a
-- posted write it is code 0, value 0.

abbrev pub plain_code : ℕ → ℕ
plain_code code = if nat_le code 15 then code else 1

abbrev pub plain_read : Access → ℕ → ℕ → Answer
plain_read a zero value = record { code = 0; value = le (masked (bits_of a.lanes a.size) (bytes_of value a.size)) }
plain_read a (suc code) value = record { code = suc code; value = 0 }

abbrev pub plain_of : Access → Bool → Bool → Answer → Answer
plain_of a true true x = record { code = 0; value = 0 }
plain_of a true false x = record { code = plain_code x.code; value = 0 }
plain_of a false posted x = plain_read a (plain_code x.code) x.value

abbrev pub plain : Access → Answer → Answer
plain a x = plain_of a a.write a.posted x
