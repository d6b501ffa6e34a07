use Rattle.std.proofs.Common.{◌≡◌, drop}
use Rattle.cos_config.specs.Rules.{needs_found}
use Rattle.cos_config.proofs.rules.lacking.Given as goal

abbrev pub invariant-loop-number : goal.invariant-loop-number
invariant-loop-number l = needs_found 0 l.ports ≡ needs_found l.number (drop l.number l.ports)
