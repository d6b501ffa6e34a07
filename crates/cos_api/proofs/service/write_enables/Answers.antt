use Rattle.std.proofs.Common.{refl, ◌<◌, length, arith}
use Rattle.cos_api.proofs.Lanes.{bits-more}
use Rattle.cos_api.proofs.service.write_enables.Goals as goal

pub loop-at-preserved : goal.loop-at-preserved
loop-at-preserved c = let within : c.loop-at.at < length c.loop-at.out = omega arith in bits-more _ c.loop-at.out c.loop-at.left c.loop-at.at _ within refl c.loop-at.invariant
