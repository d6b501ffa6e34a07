use Rattle.std.proofs.Common.{◌<◌, length, arith, refl}
use Rattle.end_packets.proofs.Values.{bytes-more}
use Rattle.end_packets.proofs.access.put_value.Goals as goal

pub loop-at-preserved : goal.loop-at-preserved
loop-at-preserved c =
    let within : c.loop-at.at < length c.loop-at.out = omega arith in
    bytes-more _ c.loop-at.out c.loop-at.left c.loop-at.at _ within refl c.loop-at.invariant
