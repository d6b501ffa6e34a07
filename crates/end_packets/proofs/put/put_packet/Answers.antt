use Rattle.rp_packet.specs.Values.{value_of}
use Rattle.end_packets.proofs.Puts.{never-fails, leaves-room}
use Rattle.end_packets.proofs.put.put_packet.Goals as goal

pub unreachable-requires : goal.unreachable-requires
unreachable-requires c = never-fails (value_of c.args.packet.now) _ _ _ c.requires.lawful c.requires.room c.in-Err.ensures

pub returns-clause-spare : goal.returns-clause-spare
returns-clause-spare c = leaves-room (value_of c.args.packet.now) _ _ c.requires.room c.in-Ok.ensures
