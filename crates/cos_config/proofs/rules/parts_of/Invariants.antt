use Rattle.std.proofs.Common.{◌≡◌, ◌++◌, drop}
use Rattle.cos_config.specs.Rules.{parts, windows}
use Rattle.cos_config.proofs.rules.parts_of.Given as goal

abbrev pub invariant-loop-port : goal.invariant-loop-port
invariant-loop-port l = parts l.config ≡ l.all.items ++ windows (drop l.port-index l.port-items)
