use Rattle.rp_packet.specs.ReadingLaws.{one-value}
use Rattle.rp_packet.specs.CodecLaws.{no-prefix}
use Rattle.rp_packet.proofs.laws.one_reading.Goals as goal

pub returns-clause-one_value : goal.returns-clause-one_value
returns-clause-one_value c = one-value

pub returns-clause-no_prefix : goal.returns-clause-no_prefix
returns-clause-no_prefix c = no-prefix
