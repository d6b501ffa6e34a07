use Rattle.std.proofs.Common.{◌≡◌, ◌+◌, ◌*◌, ◌≤◌, ◌++◌, drop}
use Rattle.link_lines.specs.LinkLines.{links_text}
use Rattle.link_lines.proofs.lines.push_links.Given as goal

abbrev pub invariant-loop-port : goal.invariant-loop-port
invariant-loop-port l =
    (l.out.bytes ++ links_text l.port (drop l.port l.links) ≡ l.fn.out.bytes ++ links_text 0 l.links)
    × (l.fn.out.spare ≤ l.out.spare + 120 * l.port)
