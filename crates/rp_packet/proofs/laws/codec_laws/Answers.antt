use Rattle.rp_packet.specs.CodecLaws.{codec-laws}
use Rattle.rp_packet.proofs.laws.codec_laws.Goals as goal

pub returns : goal.returns
returns c = codec-laws
