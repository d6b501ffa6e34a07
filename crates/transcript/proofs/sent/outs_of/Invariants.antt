use Rattle.std.proofs.Common.{take}
use Rattle.transcript.specs.Sent.{AreSent}
use Rattle.transcript.proofs.sent.outs_of.Given as goal

abbrev pub invariant-loop-port : goal.invariant-loop-port
invariant-loop-port l = AreSent l.calls.calls (take l.port-index l.ports) l.outs
