use Rattle.std.proofs.Common.{arith}
use Rattle.transcript.specs.CallLines.{call_text}
use Rattle.transcript.proofs.Moving.{moved-fails, moved-pushed, moved-stops, flat_map-split, flat_map-next}
use Rattle.transcript.proofs.output.write_calls.Goals as goal

pub returns-in_err-make_room-clause-moved : goal.returns-in_err-make_room-clause-moved
returns-in_err-make_room-clause-moved g c =
    let i = c.loop-call.call-index in
    moved-fails g.K.Sink.told g.K.Sink.count g.K.Sink.room g.K.Sink.sound _ _ _ _ _ _
    (moved-stops g.K.Sink.told g.K.Sink.count g.K.Sink.room g.K.Sink.sound g.met.K.Sink.sound_tells _ _ _ _ _ _ _ _ _ _ _ _
    c.loop-call.invariant.1 c.in_err-make_room.ensures.moved (flat_map-split call_text i c.args.calls.now))
    c.from_residual.ensures.0

pub loop-call-preserved : goal.loop-call-preserved
loop-call-preserved g c =
    let i = c.loop-call.call-index in (
      record { short = omega (arith, c.in_ok-make_room.ensures.room, c.in_ok-make_room.ensures.piece); room = omega (arith, c.in_ok-make_room.ensures.piece) },
      moved-pushed g.K.Sink.told g.K.Sink.count g.K.Sink.room g.K.Sink.sound _ _ _ _ _ _ _ _ _ _
          c.loop-call.invariant.1 c.in_ok-make_room.ensures.moved c.push_call.ensures.bytes (flat_map-next call_text i c.args.calls.now _ c.loop-call-test.true),
    )
