use Rattle.std.proofs.Common.{length, ◌-◌}
use Rattle.cosim_packets.proofs.ListLaws.{ListedTo}
use Rattle.cosim_packets.proofs.listing.list.Given as goal

abbrev pub invariant-packets : goal.invariant-packets
invariant-packets l = ListedTo l.bytes l.at l.text.bytes

abbrev pub decreases-packets : goal.decreases-packets
decreases-packets l = length l.bytes - l.at
