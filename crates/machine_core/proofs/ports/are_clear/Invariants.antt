use Rattle.std.proofs.Common.{◌≡◌, drop, map}
use Rattle.cosim_model.specs.Values.{all_on}
use Rattle.ends_model.specs.MachineTurn.{is_clear}
use Rattle.machine_core.proofs.ports.are_clear.Given as goal

abbrev pub invariant-ports : goal.invariant-ports
invariant-ports l = all_on (map is_clear l.ports) ≡ all_on (map is_clear (drop l.port l.ports))
