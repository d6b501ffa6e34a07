-- Two sides that talk: each is a function that gives all that it sends for any bytes received.
use Rattle.std.specs.Prelude.{◌≡◌, ℕ, zero, suc, List, []}

-- What this side has received after so many exchanges, where it sends `out x` for received bytes x, and the other side
-- gives `said y` for sent bytes y.
abbrev pub talk : (List ℕ → List ℕ) → (List ℕ → List ℕ) → ℕ → List ℕ
talk said out zero = said []
talk said out (suc k) = said (out (talk said out k))

-- Talk goes no further than these bytes.
abbrev pub IsTalk : (List ℕ → List ℕ) → (List ℕ → List ℕ) → List ℕ → Type 0
IsTalk said out x = (k : ℕ) × (talk said out k ≡ x) × (talk said out (suc k) ≡ x)
