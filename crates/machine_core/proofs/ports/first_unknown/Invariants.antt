use Rattle.std.proofs.Common.{◌≡◌, drop, map}
use Rattle.ends_model.specs.MachineTurn.{first_true, is_unknown}
use Rattle.machine_core.proofs.Scanning.{moved}
use Rattle.machine_core.proofs.ports.first_unknown.Given as goal

abbrev pub invariant-ports : goal.invariant-ports
invariant-ports l =
    first_true (map is_unknown l.ports) ≡ moved l.port (first_true (map is_unknown (drop l.port l.ports)))
