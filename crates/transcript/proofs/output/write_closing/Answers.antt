use Rattle.std.proofs.Common.{[], ◌++◌, refl, ap, sym}
use Rattle.std.specs.List.{flat_map}
use Rattle.transcript.specs.ClosingLines.{head_text, out_line, closing_text}
use Rattle.transcript.proofs.Moving.{moved-nothing, moved-pushed, moved-rest}
use Rattle.transcript.proofs.output.write_closing.Goals as goal

pub returns-clause-moved : goal.returns-clause-moved
returns-clause-moved g c =
    let head = moved-pushed g.K.Sink.told g.K.Sink.count g.K.Sink.room g.K.Sink.sound _ _ _ _ _ _ _ [] (head_text c.args.end.now) (head_text c.args.end.now)
    (moved-nothing g.K.Sink.told g.K.Sink.count g.K.Sink.room g.K.Sink.sound c.args.out.now c.args.piece.now.bytes)
    c.in_ok-make_room.ensures.moved c.push_head.ensures.bytes refl in
    moved-rest g.K.Sink.told g.K.Sink.count g.K.Sink.room g.K.Sink.sound g.met.K.Sink.sound_tells _ _ _ _ _ _ _ _ (closing_text c.args.end.now) _
    head c.write_outs.ensures.moved (ap (λ l. head_text c.args.end.now ++ flat_map out_line l) (sym c.as_slice.ensures))
