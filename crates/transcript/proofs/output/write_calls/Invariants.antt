use Rattle.std.proofs.Common.{Ok, take}
use Rattle.std.specs.List.{flat_map}
use Rattle.transcript.specs.CallLines.{call_text}
use Rattle.transcript.specs.Moves.{IsPiece, Moved}
use Rattle.transcript.proofs.output.write_calls.Given as goal

abbrev pub invariant-loop-call : goal.invariant-loop-call
invariant-loop-call g l =
    IsPiece l.piece
    × Moved g.K.Sink.told g.K.Sink.count g.K.Sink.room g.K.Sink.sound l.fn.out l.out l.fn.piece.bytes l.piece.bytes (flat_map call_text (take l.call-index l.calls)) (Ok tt)
