use Rattle.end_packets.proofs.access.+lanes_from.Given as goal

abbrev pub decreases-lanes_from : goal.decreases-lanes_from
decreases-lanes_from l = l.count
