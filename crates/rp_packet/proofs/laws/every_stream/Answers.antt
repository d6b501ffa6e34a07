use Rattle.rp_packet.specs.WalkLaws.{every-list, never-both, one-stream, one-faulty}
use Rattle.rp_packet.proofs.laws.every_stream.Goals as goal

pub returns-clause-either : goal.returns-clause-either
returns-clause-either c = every-list

pub returns-clause-never_both : goal.returns-clause-never_both
returns-clause-never_both c = never-both

pub returns-clause-one_stream : goal.returns-clause-one_stream
returns-clause-one_stream c = one-stream

pub returns-clause-one_fault : goal.returns-clause-one_fault
returns-clause-one_fault c = one-faulty
