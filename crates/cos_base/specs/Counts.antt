-- What a count of faults does in a call of an object of the outside.
use Rattle.std.specs.Prelude.{◌≡◌, ℕ, ◌+◌, ◌≤◌, min, MatchResult}
use Rattle.std.specs.declared.result.Result.{Result}

-- The count rose: it is greater than before, or stands at the last number of its type.
abbrev pub Rose : ℕ → ℕ → Type 0
Rose before now = min (before + 1) 18446744073709551615 ≤ now

-- What a call that failed did to the count: it rose, and didn't fall.
abbrev pub Rises : ℕ → ℕ → Type 0
Rises before now = (before ≤ now) × Rose before now

-- What a call did to the count whose one fault is a failure.
abbrev pub Counts : {T E : Type 0} → ℕ → ℕ → Result T E → Type 0
Counts before now result = MatchResult result (λ _. now ≡ before) (λ _. Rises before now)
