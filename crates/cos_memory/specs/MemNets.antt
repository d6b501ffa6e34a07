-- When the links that a network in memory keeps are sound.
use Rattle.std.specs.Prelude.{List, All}
use Rattle.cos_memory.specs.Calls.{FailsNoMore}
use Rattle.cos_memory.specs.declared.mem_link.MemLink.{MemLink}

-- no link of the list fails from here on
abbrev pub AllSound : {P : Type 0} {t : _} → List (MemLink P t) → Type 0
AllSound links = All (λ l. FailsNoMore l.calls.next l.calls.failing) links
