use Rattle.std.proofs.Common.{length, ap, arith}
use Rattle.rp_framing.specs.FrontLaws.{first-few}
use Rattle.rp_framing.specs.CutLaws.{waits}
use Rattle.rp_framing.proofs.receiver.pull.Goals as goal

pub read-requires : goal.read-requires
read-requires g c =
    let few = first-few c.args.framer.now.held (waits c.args.framer.now c.requires).1 in
    let held = ap length c.in_ok-reserve.ensures.held in
    omega (arith, few, held, c.in_ok-reserve.ensures.ok, c.room.ensures, c.min-most.ensures, c.split_at_mut-into.ensures.front_len)
