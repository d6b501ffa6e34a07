use Rattle.std.proofs.Common.{◌≡◌, drop}
use Rattle.cos_config.specs.Rules.{lines_found}
use Rattle.cos_config.proofs.rules.line_twice.Given as goal

abbrev pub invariant-loop-a : goal.invariant-loop-a
invariant-loop-a l = lines_found 0 l.ports ≡ lines_found l.a (drop l.a l.ports)
