use Rattle.std.proofs.Common.{◌≡◌, ◌+◌, drop}
use Rattle.histories.specs.Histories.{calls_before}
use Rattle.histories.proofs.merging.calls_before.Given as goal

abbrev pub invariant-calls : goal.invariant-calls
invariant-calls l = calls_before l.tick l.calls ≡ l.count + calls_before l.tick (drop l.count l.calls)
