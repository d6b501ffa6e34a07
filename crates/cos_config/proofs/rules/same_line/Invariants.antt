use Rattle.std.proofs.Common.{◌≡◌, ◌+◌, drop}
use Rattle.cos_config.specs.Rules.{line_found}
use Rattle.cos_config.proofs.rules.same_line.Given as goal

abbrev pub invariant-loop-b : goal.invariant-loop-b
invariant-loop-b l = line_found l.a l.line (l.a + 1) (drop (l.a + 1) l.ports) ≡ line_found l.a l.line l.b (drop l.b l.ports)
