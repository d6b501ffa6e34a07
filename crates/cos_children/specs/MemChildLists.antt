-- What a spawner in memory tells, by the lists that it keeps.
use Rattle.std.specs.Prelude.{ℕ, List, map, string_bytes}
use Rattle.cos_children.specs.declared.mem_children.MemChild.{MemChild}
use Rattle.cos_children.specs.Children.{Children}

-- what it tells of a child that it started
abbrev pub told_child : MemChild → List (List ℕ) × ℕ
told_child m = (map string_bytes m.words.items, m.number)

abbrev pub told_of : List MemChild → List (ℕ × ℕ) → List ℕ → Children
told_of started ended running = record { started = map told_child started; ended = ended; running = running }
