use Rattle.std.proofs.Common.{◌≡◌, ◌≤◌, drop, map, length}
use Rattle.cosim_model.specs.Order.{least}
use Rattle.ends_model.specs.MachineTurn.{held_time}
use Rattle.machine_core.proofs.Scanning.{placed}
use Rattle.machine_core.proofs.ports.first_held.Given as goal

abbrev pub invariant-ports : goal.invariant-ports
invariant-ports l = record {
  within : l.port ≤ length l.ports;
  first : l.first ≡ placed l.port (least (map held_time (drop l.port l.ports)));
}

abbrev pub decreases-ports : goal.decreases-ports
decreases-ports l = l.port
