use Rattle.rp_packet.specs.CodecLaws.{Spells-packet_bytes}
use Rattle.rp_packet.proofs.laws.one_writing.Goals as goal

pub returns : goal.returns
returns c = Spells-packet_bytes
