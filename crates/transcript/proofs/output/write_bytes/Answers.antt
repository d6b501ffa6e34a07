use Rattle.std.proofs.Common.{[], ◌++◌, refl, sym, ◌∙◌, arith}
use Rattle.hex.specs.Hex.{encode_lower}
use Rattle.cos_text.proofs.Puts.{put-chunk, put-done}
use Rattle.transcript.proofs.Moving.{moved-fails, moved-nothing, moved-pushed, moved-stops, moved-text}
use Rattle.transcript.proofs.output.write_bytes.Goals as goal

pub chunks-init : goal.chunks-init
chunks-init g c =
    (c.requires, ([], refl, moved-nothing g.K.Sink.told g.K.Sink.count g.K.Sink.room g.K.Sink.sound _ _))

pub chunks-preserved : goal.chunks-preserved
chunks-preserved g c =
    let inv = c.chunks.invariant.1 in (
      record { short = omega (arith, c.in_ok-make_room.ensures.room, c.in_ok-make_room.ensures.piece); room = omega (arith, c.in_ok-make_room.ensures.piece) },
      (
        inv.0 ++ encode_lower c.split_at.result.0.now,
        inv.1 ∙ sym (put-chunk inv.0 _ c.split_at.result.0.now c.split_at.result.1.now c.chunks.rest.now _ c.split_at.ensures.front c.split_at.ensures.back refl),
        moved-pushed g.K.Sink.told g.K.Sink.count g.K.Sink.room g.K.Sink.sound _ _ _ _ _ _ _ _ _ _
            inv.2 c.in_ok-make_room.ensures.moved c.push_bytes.ensures.bytes refl,
      ),
    )

pub returns-in_err-make_room-clause-moved : goal.returns-in_err-make_room-clause-moved
returns-in_err-make_room-clause-moved g c =
    let inv = c.chunks.invariant.1 in
    moved-fails g.K.Sink.told g.K.Sink.count g.K.Sink.room g.K.Sink.sound _ _ _ _ _ _
    (moved-stops g.K.Sink.told g.K.Sink.count g.K.Sink.room g.K.Sink.sound g.met.K.Sink.sound_tells _ _ _ _ _ _ _ _ _ _ _ _
    inv.2 c.in_err-make_room.ensures.moved inv.1)
    c.from_residual.ensures.0

pub returns-clause-moved : goal.returns-clause-moved
returns-clause-moved g c =
    let inv = c.chunks.invariant.1 in
    moved-text g.K.Sink.told g.K.Sink.count g.K.Sink.room g.K.Sink.sound _ _ _ _ _ _ _
    (put-done inv.0 c.chunks.rest.now _ (omega (arith, c.chunks-test.false)) (sym inv.1)) inv.2
