use Rattle.machine_core.proofs.lanes.+are_on.Given as goal

abbrev pub decreases-are_on : goal.decreases-are_on
decreases-are_on l = l.count
