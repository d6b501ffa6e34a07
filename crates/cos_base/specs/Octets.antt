-- What a byte list with room is: its bytes, and how many more it takes without asking for memory.
use Rattle.std.specs.Prelude.{ℕ, ◌+◌, List, ◌++◌, length, take, drop}

pub record Held : Type 0 where
  pub bytes : List ℕ
  pub spare : ℕ

-- The bytes from a place on are replaced by as many others.
abbrev pub overwritten : List ℕ → ℕ → List ℕ → List ℕ
overwritten bytes at others = take at bytes ++ others ++ drop (at + length others) bytes
