use Rattle.device_peer.specs.Speaking.{Continues}
use Rattle.device_peer.specs.TurnLaws.{left}
use Rattle.device_peer.proofs.turns.take_turns.Given as goal

abbrev pub invariant-turns : goal.invariant-turns
invariant-turns g l = Continues g.D.Device.model l.fn.end l.end l.fn.said.bytes l.said.bytes

abbrev pub decreases-turns : goal.decreases-turns
decreases-turns g l = left g.D.Device.model l.end
