use Rattle.end_packets.proofs.lanes.+are_all_on.Given as goal

abbrev pub decreases-are_all_on : goal.decreases-are_all_on
decreases-are_all_on l = l.lanes
