use Rattle.std.proofs.Common.{◌≡◌, ◌≤◌, drop, map, length}
use Rattle.cosim_model.specs.Order.{least}
use Rattle.direct_machine.specs.Wants.{wanted_at}
use Rattle.direct_machine.proofs.Firsts.{placed}
use Rattle.direct_machine.proofs.wants.first_wanting.Given as goal

abbrev pub invariant-ports : goal.invariant-ports
invariant-ports g l = record {
  within : l.port ≤ length l.devices;
  first : l.first ≡ placed l.port (least (map (wanted_at g.D.Device.model) (drop l.port l.devices)));
}

abbrev pub decreases-ports : goal.decreases-ports
decreases-ports g l = l.port
