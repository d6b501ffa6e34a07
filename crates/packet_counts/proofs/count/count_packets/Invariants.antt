use Rattle.std.proofs.Common.{length}
use Rattle.packet_counts.proofs.Counting.{Counting}
use Rattle.packet_counts.proofs.count.count_packets.Given as goal

abbrev pub invariant-packets : goal.invariant-packets
invariant-packets l = Counting l.fn.bytes l.rest l.count

abbrev pub decreases-packets : goal.decreases-packets
decreases-packets l = length l.rest
