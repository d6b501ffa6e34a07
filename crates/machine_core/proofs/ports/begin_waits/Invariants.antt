use Rattle.std.proofs.Common.{◌≡◌}
use Rattle.ends_model.specs.MachineTurn.{with_wait}
use Rattle.machine_core.proofs.Scanning.{changed}
use Rattle.machine_core.proofs.ports.begin_waits.Given as goal

abbrev pub invariant-ports : goal.invariant-ports
invariant-ports l = l.ports ≡ changed with_wait l.port-index l.fn.ports
