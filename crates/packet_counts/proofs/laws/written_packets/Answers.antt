use Rattle.rp_packet.specs.CodecLaws.{codec-laws}
use Rattle.rp_packet.specs.Streams.{packet_codec}
use Rattle.every_schedule.proofs.Bounded.{packets_written}
use Rattle.packet_counts.proofs.Written.{each-writable}
use Rattle.packet_counts.proofs.laws.written_packets.Goals as goal

pub returns : goal.returns
returns c ps all = packets_written packet_codec codec-laws ps (each-writable ps all)
