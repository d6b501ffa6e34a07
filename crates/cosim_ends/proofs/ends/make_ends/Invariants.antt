use Rattle.std.proofs.Common.{◌≡◌, map}
use Rattle.cosim_ends.specs.Sides.{port_side, end_of}
use Rattle.cosim_ends.proofs.ends.make_ends.Given as goal

abbrev pub invariant-ports : goal.invariant-ports
invariant-ports l = l.ends.items ≡ map (λ y. end_of (port_side (y.0.now, y.1))) l.yielded
