use Rattle.std.proofs.Common.{◌<◌, ◌≡◌, ◌%◌, length, arith, nat_eq}
use Rattle.cosim_model.specs.Packets.{enable_byte}
use Rattle.end_packets.proofs.LaneBytes.{enables-more, byte-on, byte-off}
use Rattle.end_packets.proofs.lanes.put_enables.Goals as goal
use Rattle.end_packets.proofs.lanes.put_enables.Goals.{then-left-eq1, else-left-eq1}

pub loop-at-preserved : goal.loop-at-preserved
loop-at-preserved c =
    let within : c.loop-at.at < length c.loop-at.out = omega arith in
    let byte : c.if-left-eq1.out ≡ enable_byte (nat_eq (c.loop-at.left % 2) 1) =
    elim c.if-left-eq1.branch [ then-left-eq1 w ↦ byte-on c.loop-at.left _ w.if-left-eq1.true w.out-is | else-left-eq1 w ↦ byte-off c.loop-at.left _ w.if-left-eq1.false w.out-is ] in
    enables-more _ c.loop-at.out c.loop-at.left c.loop-at.at _ within byte c.loop-at.invariant
