use Rattle.std.proofs.Common.{◌≡◌, ◌+◌, length, take}
use Rattle.statuses.specs.Lines.{texts}
use Rattle.statuses.proofs.Putting.{PutsAll}
use Rattle.statuses.proofs.lines.put_pieces.Given as goal

abbrev pub invariant-pieces : goal.invariant-pieces
invariant-pieces g l =
    (g.E.Sink.count l.err ≡ g.E.Sink.count l.fn.err)
    × PutsAll (g.E.Sink.told l.fn.err) (g.E.Sink.told l.err) (texts (take l.piece-index l.pieces))
    × (g.E.Sink.sound l.fn.err → g.E.Sink.sound l.err × (g.E.Sink.room l.err + length (texts (take l.piece-index l.pieces)) ≡ g.E.Sink.room l.fn.err))
