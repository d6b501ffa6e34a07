-- How a copy of LEN bytes is cut into chunks of 64 bytes, the last one shorter.
use Rattle.std.specs.Prelude.{◌≡◌, ℕ, zero, suc, ◌+◌, ◌-◌, ◌*◌, ◌/◌, ◌%◌, ◌^◌, ◌<◌, ◌≤◌, min}
use Rattle.dev_dma.specs.declared.engine.Engine.{Engine}
use Rattle.dev_dma.specs.declared.engine.Engine.TheVariants.{Idle, Fetching, Storing}

-- How many chunks come after the first one.
abbrev pub after_first : ℕ → ℕ
after_first len = (len - 1) / 64

-- The place of the chunk that `after` others come after.
abbrev pub place_of : ℕ → ℕ → ℕ
place_of len after = 64 * (after_first (min len 65536) - after)

-- Its size, 64 but for the last chunk.
abbrev pub size_of : ℕ → ℕ → ℕ
size_of len zero = (len - 1) % 64 + 1
size_of len (suc after) = 64

-- Byte j of the copy is enabled where bit j modulo 32 of the mask is 1. A chunk's place is a multiple of 64, so its
-- bits are the mask twice, cut to its size.
abbrev pub mask_of : ℕ → ℕ → ℕ
mask_of mask size = (mask + mask * 2 ^ 32) % 2 ^ size

-- A copy that runs has 1 to 65,536 bytes, and no more chunks left than it has.
abbrev pub IsChunk : ℕ → ℕ → Type 0
IsChunk len after = (1 ≤ len) × (len ≤ 65536) × (after ≤ after_first len)

abbrev pub IsRunning : ℕ → Engine → Type 0
IsRunning len Idle = Unit {0}
IsRunning len (Fetching after) = IsChunk len after
IsRunning len (Storing after bytes) = IsChunk len after
