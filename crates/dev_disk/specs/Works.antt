-- How work of COUNT sectors is cut into chunks of 64 bytes, eight a sector.
use Rattle.std.specs.Prelude.{◌≡◌, ℕ, ◌+◌, ◌-◌, ◌*◌, ◌/◌, ◌<◌, ◌≤◌, Bool, true, false, nat_eq, min, List, length, take, drop}
use Rattle.std.specs.List.{list_any}
use Rattle.cos_base.specs.Octets.{overwritten}
use Rattle.dev_disk.specs.declared.engine.Engine.{Engine}
use Rattle.dev_disk.specs.declared.engine.Engine.TheVariants.{Idle, Busy}

-- The place in the work of the chunk that `after` others come after.
abbrev pub place_of : ℕ → ℕ → ℕ
place_of count after = 64 * (8 * min count 128 - 1 - after)

-- The sector that this chunk is in.
abbrev pub sector_at : (sector count after : ℕ) → ℕ
sector_at sector count after = sector + place_of count after / 512

-- Its place on the disk.
abbrev pub disk_place : (sector count after : ℕ) → ℕ
disk_place sector count after = 512 * sector + place_of count after

abbrev pub is_bad : List ℕ → ℕ → Bool
is_bad bad sector = list_any (λ b. nat_eq b sector) bad

-- The bytes of a sector.
abbrev pub sector_of : List ℕ → ℕ → List ℕ
sector_of sectors sector = take 512 (drop (512 * sector) sectors)

-- What a reply brings goes onto the disk where the work is in that direction.
abbrev pub taken_in : Bool → List ℕ → ℕ → List ℕ → List ℕ
taken_in true sectors at bytes = overwritten sectors at bytes
taken_in false sectors at bytes = sectors

-- Work has 1 to 128 sectors that are on the disk, and no more chunks left than it has.
pub record IsChunk (sector count after : ℕ) (sectors : List ℕ) : Type 0 where
  pub some : 1 ≤ count
  pub most : count ≤ 128
  pub few : after < 8 * count
  pub within : 512 * (sector + count) ≤ length sectors

-- The present chunk of work that runs is in no bad sector.
abbrev pub IsRunning : (sector count : ℕ) → Engine → (sectors bad : List ℕ) → Type 0
IsRunning sector count Idle sectors bad = Unit {0}
IsRunning sector count (Busy after) sectors bad = IsChunk sector count after sectors
    × (is_bad bad (sector_at sector count after) ≡ false)
