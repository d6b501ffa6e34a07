-- When a reader of messages is one: a whole message has bytes, and is decided by its own bytes.
use Rattle.std.specs.Prelude.{◌≡◌, ℕ, ◌<◌, ◌≤◌, List, ◌++◌, length, Option, Some}

-- `first xs` is the message that xs begins with and its number of bytes, where it is whole.
abbrev pub IsDecided : {M : Type 0} → (List ℕ → Option (M × ℕ)) → Type 0
IsDecided {M} first =
    (xs ys : List ℕ) (r : M × ℕ) → first xs ≡ Some r → (0 < r.1) × (r.1 ≤ length xs)
    × (first (xs ++ ys) ≡ Some r)
