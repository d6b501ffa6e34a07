use Rattle.std.proofs.Common.{◌≡◌, ◌-◌, ◌++◌, length, take}
use Rattle.end_packets.proofs.LaneBytes.{enables}
use Rattle.end_packets.proofs.lanes.put_enables.Given as goal

abbrev pub invariant-loop-at : goal.invariant-loop-at
invariant-loop-at l = take l.at l.out ++ enables l.left (length l.out - l.at) ≡ enables l.fn.mask (length l.fn.out)
