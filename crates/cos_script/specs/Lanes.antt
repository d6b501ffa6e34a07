-- The lanes of an access.
use Rattle.std.specs.Prelude.{ℕ, ◌-◌, ◌^◌}

-- Every lane of an access of so many bytes.
abbrev pub all_lanes : ℕ → ℕ
all_lanes size = 2 ^ size - 1
