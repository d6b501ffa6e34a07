use Rattle.std.proofs.Common.{◌≡◌}
use Rattle.std.specs.Prelude.{replicate, None, []}
use Rattle.machine_turns.proofs.framers.fresh_framers.Given as goal

abbrev pub invariant-framers : goal.invariant-framers
invariant-framers l = l.framers.items ≡ replicate l._port (record { held = []; taken = 0; room = 0; kept = None })
