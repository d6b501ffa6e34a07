use Rattle.std.proofs.Common.{◌≡◌, ◌+◌, ◌≤◌, ◌++◌, length, take}
use Rattle.transcript.specs.Pieces.{pieces_text, pieces_room}
use Rattle.transcript.proofs.pieces.Piece.push_all.Given as goal

abbrev pub invariant-loop-piece : goal.invariant-loop-piece
invariant-loop-piece l =
    (l.out.bytes ≡ l.fn.out.bytes ++ pieces_text (take l.piece-index l.pieces))
    × (l.fn.out.spare ≤ l.out.spare + pieces_room (take l.piece-index l.pieces))
    × (length l.out.bytes + l.out.spare ≡ length l.fn.out.bytes + l.fn.out.spare)
