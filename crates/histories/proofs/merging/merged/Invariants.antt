use Rattle.std.proofs.Common.{◌-◌}
use Rattle.histories.proofs.Loops.{Merging}
use Rattle.histories.proofs.merging.merged.Given as goal

abbrev pub invariant-boundaries : goal.invariant-boundaries
invariant-boundaries l = Merging l.plan l.ticks l.calls.calls l.tick l.moments l.rest

abbrev pub decreases-boundaries : goal.decreases-boundaries
decreases-boundaries l = l.ticks - l.tick
