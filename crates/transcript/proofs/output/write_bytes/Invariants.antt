use Rattle.std.proofs.Common.{◌≡◌, List, ℕ, ◌++◌, length, Ok}
use Rattle.hex.specs.Hex.{encode_lower}
use Rattle.transcript.specs.Moves.{IsPiece, Moved}
use Rattle.transcript.proofs.output.write_bytes.Given as goal

abbrev pub invariant-chunks : goal.invariant-chunks
invariant-chunks g l =
    IsPiece l.piece
    × ((done : List ℕ) × (encode_lower l.bytes ≡ done ++ encode_lower l.rest)
    × Moved g.K.Sink.told g.K.Sink.count g.K.Sink.room g.K.Sink.sound l.fn.out l.out l.fn.piece.bytes l.piece.bytes done (Ok tt))

abbrev pub decreases-chunks : goal.decreases-chunks
decreases-chunks g l = length l.rest
