-- Which held request comes first.
use Rattle.std.specs.Prelude.{ℕ, nat_lt, if◌then◌else◌, Option, Some, None}

-- Of a port, with the time of the request that it holds, and one found behind it: the one whose time is least, and the
-- former among equals.
abbrev pub earlier_of : ℕ → Option ℕ → Option (ℕ × ℕ) → Option (ℕ × ℕ)
earlier_of port None found = found
earlier_of port (Some time) None = Some (port, time)
earlier_of port (Some time) (Some r) = if nat_lt r.1 time then Some r else Some (port, time)
