use Rattle.std.proofs.Common.{◌≡◌, ◌+◌, ◌++◌, drop}
use Rattle.run_texts.specs.Texts.{uarts_from}
use Rattle.run_texts.proofs.ending.uarts_of.Given as goal

abbrev pub invariant-loop-port : goal.invariant-loop-port
invariant-loop-port l = (l.number ≡ l.port-index) × (l.uarts ++ uarts_from l.number (drop l.port-index l.ports) ≡ uarts_from 0 l.ports)
