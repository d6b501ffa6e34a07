-- The lines of the links of a run, and of its steps.
use Rattle.std.specs.Prelude.{ℕ, ◌+◌, List, [], ◌∷◌, ◌++◌, codes, decimal}
use Rattle.std.specs.List.{concat}
use Rattle.link_lines.specs.declared.lines.LinkCounts.{LinkCounts}

-- of a port's link the packets and bytes to the device end, and those back
abbrev pub link_line : ℕ → LinkCounts → List ℕ
link_line port l = concat (
    codes "link p" ∷ decimal port
    ∷ codes " out " ∷ decimal l.out_packets ∷ codes " " ∷ decimal l.out_bytes
    ∷ codes " back " ∷ decimal l.back_packets ∷ codes " " ∷ decimal l.back_bytes ∷ codes "\n" ∷ [])

-- a line for each link, of this port and those behind it
abbrev pub links_text : ℕ → List LinkCounts → List ℕ
links_text port [] = []
links_text port (l ∷ ls) = link_line port l ++ links_text (port + 1) ls

-- how many steps were effective
abbrev pub steps_line : ℕ → List ℕ
steps_line steps = concat (codes "steps " ∷ decimal steps ∷ codes "\n" ∷ [])

-- The links by port, and the steps.
abbrev pub traffic_text : List LinkCounts → ℕ → List ℕ
traffic_text links steps = links_text 0 links ++ steps_line steps
