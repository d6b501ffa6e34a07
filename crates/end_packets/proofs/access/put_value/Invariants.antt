use Rattle.std.proofs.Common.{◌≡◌, ◌-◌, ◌++◌, length, take}
use Rattle.cosim_model.specs.Values.{bytes_of}
use Rattle.end_packets.proofs.access.put_value.Given as goal

abbrev pub invariant-loop-at : goal.invariant-loop-at
invariant-loop-at l = take l.at l.out ++ bytes_of l.left (length l.out - l.at) ≡ bytes_of l.fn.value (length l.fn.out)
