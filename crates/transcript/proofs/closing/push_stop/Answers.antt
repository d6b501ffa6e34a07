use Rattle.transcript.proofs.closing.push_stop.Goals as goal

pub returns-in-Some-clause-bytes : goal.returns-in-Some-clause-bytes
returns-in-Some-clause-bytes c = rw c.in-Some.is (cc c.push_all.ensures.bytes)
