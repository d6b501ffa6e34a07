-- RAM as pages of 4,096 bytes. A page that isn't there is a page of zeros.
use Rattle.std.specs.Prelude.{◌≡◌, ℕ, ◌+◌, ◌*◌, ◌/◌, ◌<◌, ◌≤◌, map, true, List, [], ◌∷◌, ◌++◌, length, replicate, slice_index_or, All, Option, Some, None, is_some}
use Rattle.cos_base.specs.Octets.{overwritten}
use Rattle.cosim_model.specs.Packets.{is_enabled, count_from}
use Rattle.sys_ram.specs.Memory.{part_of, merged}

unfoldable pub zero_page : List ℕ
zero_page = replicate 4096 0

abbrev pub page_bytes : Option (List ℕ) → List ℕ
page_bytes None = zero_page
page_bytes (Some bytes) = bytes

-- The bytes of the pages, one page after the other.
abbrev pub memory_of : List (Option (List ℕ)) → List ℕ
memory_of [] = []
memory_of (p ∷ ps) = page_bytes p ++ memory_of ps

abbrev pub IsPage : Option (List ℕ) → Type 0
IsPage p = length (page_bytes p) ≡ 4096

abbrev pub ArePages : List (Option (List ℕ)) → Type 0
ArePages ps = All IsPage ps

abbrev pub page_at : List (Option (List ℕ)) → ℕ → Option (List ℕ)
page_at ps k = slice_index_or ps k None

-- Each page is there that holds one of the n bytes from a place on.
abbrev pub AreThere : List (Option (List ℕ)) → ℕ → ℕ → Type 0
AreThere ps at n = (k : ℕ) → at / 4096 ≤ k → 4096 * k < at + n → is_some (page_at ps k) ≡ true

-- The memory after some bytes were written from a place on. `first` is the number of the first of them, by which
-- enables tell whether it is enabled.
abbrev pub written_from : List ℕ → ℕ → List ℕ → List ℕ → ℕ → List ℕ
written_from bytes at new enables first =
    overwritten bytes at
    (merged (map (is_enabled enables) (count_from first (length new))) new (part_of bytes at (length new)))
