use Rattle.std.proofs.Common.{◌-◌, ◌<◌, All, IfOk, ◌≡◌, ℕ, ◌+◌, ◌*◌, ◌≤◌, length}
use Rattle.failing_runs.proofs.rows.running.Given as goal

abbrev pub invariant-children : goal.invariant-children
invariant-children g l = l.running ≤ l.child

-- proposed from the loop's first test
abbrev pub decreases-children : goal.decreases-children
decreases-children g l = l.count - l.child
