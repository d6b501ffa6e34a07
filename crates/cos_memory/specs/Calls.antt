-- Which calls of a value in memory fail: those whose numbers stand in its list, counted from 0.
use Rattle.std.specs.Prelude.{ℕ, ◌<◌, List, All}

-- no number of the list is that of the next call or of a later one
abbrev pub FailsNoMore : ℕ → List ℕ → Type 0
FailsNoMore next failing = All (λ n. n < next) failing
