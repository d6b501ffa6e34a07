use Rattle.std.proofs.Common.{Ok, take}
use Rattle.std.specs.List.{flat_map}
use Rattle.transcript.specs.ClosingLines.{out_line}
use Rattle.transcript.specs.Moves.{IsPiece, Moved}
use Rattle.transcript.proofs.output.write_outs.Given as goal

abbrev pub invariant-loop-uart : goal.invariant-loop-uart
invariant-loop-uart g l =
    IsPiece l.piece
    × Moved g.K.Sink.told g.K.Sink.count g.K.Sink.room g.K.Sink.sound l.fn.out l.out l.fn.piece.bytes l.piece.bytes (flat_map out_line (take l.uart-index l.uarts)) (Ok tt)
