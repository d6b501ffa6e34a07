use Rattle.std.proofs.Common.{◌+◌, length, arith}
use Rattle.rp_header.specs.Headers.{command_number}
use Rattle.rp_packet.specs.WritingLaws.{length-packet, no-room}
use Rattle.rp_packet.proofs.encode.put_small.Goals as goal

pub returns-in-Err : goal.returns-in-Err
returns-in-Err c =
    let room = no-room (20 + length c.args.body.now) c.args.out.now.spare c.in-Err.ensures.fits in
    let size = length-packet (command_number c.args.cmd) (length c.args.body.now) c.args.tag.id c.args.tag.flags c.args.tag.dev c.args.body.now in
    (c.in-Err.ensures.err, omega (arith, room, size))
