use Rattle.rp_packet.proofs.Places.{malformed-faulty, faulty-malformed}
use Rattle.rp_packet.proofs.laws.malformed_is_faulty.Goals as goal

pub returns-clause-faulty : goal.returns-clause-faulty
returns-clause-faulty c = malformed-faulty

pub returns-clause-malformed : goal.returns-clause-malformed
returns-clause-malformed c = faulty-malformed
