use Rattle.machine_core.proofs.EnabledBytes.{IsCleared}
use Rattle.machine_core.proofs.lanes.clear_disabled.Given as goal

abbrev pub invariant-loop-at : goal.invariant-loop-at
invariant-loop-at l = IsCleared l.bus.enables.bytes l.bus.len l.fn.bytes l.at l.bytes
