use Rattle.rp_packet.specs.CanonicalLaws.{Canonical-packet_bytes, Canonical-bytes, written-back, Fits-Spells, Writable-Spells}
use Rattle.rp_packet.proofs.laws.one_canonical_spelling.Goals as goal

pub returns-clause-written : goal.returns-clause-written
returns-clause-written c = Canonical-packet_bytes

pub returns-clause-one : goal.returns-clause-one
returns-clause-one c = Canonical-bytes

pub returns-clause-back : goal.returns-clause-back
returns-clause-back c = written-back

pub returns-clause-fits : goal.returns-clause-fits
returns-clause-fits c = Fits-Spells

pub returns-clause-writable : goal.returns-clause-writable
returns-clause-writable c = Writable-Spells
