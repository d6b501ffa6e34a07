use Rattle.process_network.proofs.Rounds.{effective_changes, rounds_end}
use Rattle.process_network.proofs.rounds_end.Goals as goal

pub returns-clause-changes : goal.returns-clause-changes
returns-clause-changes g c hub leaves most bound steps s effective same = effective_changes g.H.Hub.star hub leaves most bound steps s effective same

pub returns-clause-ends : goal.returns-clause-ends
returns-clause-ends g c hub leaves most bound lists each = rounds_end g.H.Hub.star g.met.H.Hub.monotone hub leaves lists each most bound
