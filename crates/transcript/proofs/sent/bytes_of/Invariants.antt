use Rattle.std.proofs.Common.{◌≡◌, take}
use Rattle.transcript.specs.Sent.{sent_by}
use Rattle.transcript.proofs.sent.bytes_of.Given as goal

abbrev pub invariant-loop-call : goal.invariant-loop-call
invariant-loop-call l = l.bytes.bytes ≡ sent_by (take l.call-index l.calls) l.port
