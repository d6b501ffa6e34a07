use Rattle.std.proofs.Common.{◌≡◌, ◌-◌, ◌≤◌, ◌++◌, length, drop}
use Rattle.cosim_local.specs.Steps.{counts_from}
use Rattle.cosim_local.proofs.finished.all_counts.Given as goal

abbrev pub invariant-ports : goal.invariant-ports
invariant-ports l =
    (l.port ≤ length l.fn.world.start.ports)
    × (l.links.items ++ counts_from l.fn.world.now l.port (drop l.port l.fn.world.start.ports)
    ≡ counts_from l.fn.world.now 0 l.fn.world.start.ports)

abbrev pub decreases-ports : goal.decreases-ports
decreases-ports l = length l.fn.world.start.ports - l.port
