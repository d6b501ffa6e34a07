-- The children of a spawner in memory, and the status that each of them ends with.
use Rattle.std.specs.Prelude.{ℕ, List, slice_index_or}
use Rattle.cos_children.specs.declared.mem_children.MemChildren.{MemChildren}
use Rattle.cos_children.specs.Children.{Children}
use Rattle.cos_children.specs.MemChildLists.{told_of}

abbrev pub children_of : MemChildren → Children
children_of m = told_of m.started.items m.ended.items m.running.items

-- the status at a child's place, counted from 0, or 0 where there is none
abbrev pub status_at : List ℕ → ℕ → ℕ
status_at statuses child = slice_index_or statuses child 0
