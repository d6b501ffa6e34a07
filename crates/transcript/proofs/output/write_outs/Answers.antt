use Rattle.transcript.specs.ClosingLines.{out_line}
use Rattle.transcript.proofs.Moving.{moved-fails, moved-then, moved-stops, flat_map-rest-item, flat_map-next-item}
use Rattle.transcript.proofs.output.write_outs.Goals as goal

pub returns-in_err-write_out-clause-moved : goal.returns-in_err-write_out-clause-moved
returns-in_err-write_out-clause-moved g c =
    let i = c.loop-uart.uart-index in
    moved-fails g.K.Sink.told g.K.Sink.count g.K.Sink.room g.K.Sink.sound _ _ _ _ _ _
    (moved-stops g.K.Sink.told g.K.Sink.count g.K.Sink.room g.K.Sink.sound g.met.K.Sink.sound_tells _ _ _ _ _ _ _ _ _ _ _ _
    c.loop-uart.invariant.1 c.in_err-write_out.ensures.moved (flat_map-rest-item out_line i c.args.uarts.now c.uart-item.result c.loop-uart-test.true c.uart-item.is))
    c.from_residual.ensures.0

pub loop-uart-preserved : goal.loop-uart-preserved
loop-uart-preserved g c =
    let i = c.loop-uart.uart-index in (
      c.in_ok-write_out.ensures.piece,
      moved-then g.K.Sink.told g.K.Sink.count g.K.Sink.room g.K.Sink.sound _ _ _ _ _ _ _ _ _
          c.loop-uart.invariant.1 c.in_ok-write_out.ensures.moved (flat_map-next-item out_line i c.args.uarts.now c.uart-item.result c.loop-uart-test.true c.uart-item.is),
    )
