use Rattle.cosim_model.specs.Packets.Body.{Read}
use Rattle.rp_busaccess.specs.Bits.{fields_of}
use Rattle.rp_packet.specs.Values.{tagged}
use Rattle.end_packets.proofs.Puts.{never-fails, leaves-room}
use Rattle.end_packets.proofs.put.put_read.Goals as goal

pub unreachable-requires : goal.unreachable-requires
unreachable-requires c = never-fails (tagged c.args.tag (Read (fields_of c.args.access.now))) _ _ _ c.requires.lawful c.requires.room c.in-Err.ensures

pub returns-clause-spare : goal.returns-clause-spare
returns-clause-spare c = leaves-room (tagged c.args.tag (Read (fields_of c.args.access.now))) _ _ c.requires.room c.in-Ok.ensures
