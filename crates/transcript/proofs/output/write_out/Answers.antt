use Rattle.std.proofs.Common.{[], ◌∷◌, ◌++◌, refl, append_assoc, ap, sym}
use Rattle.hex.specs.Hex.{encode_lower}
use Rattle.transcript.specs.ClosingLines.{uart_head, out_line}
use Rattle.transcript.proofs.Moving.{moved-fails, moved-nothing, moved-pushed, moved-then, moved-stops}
use Rattle.transcript.proofs.output.write_out.Goals as goal

pub returns-in_err-write_bytes-clause-moved : goal.returns-in_err-write_bytes-clause-moved
returns-in_err-write_bytes-clause-moved g c =
    let head = moved-pushed g.K.Sink.told g.K.Sink.count g.K.Sink.room g.K.Sink.sound _ _ _ _ _ _ _ [] (uart_head c.args.uart.now.port c.args.uart.now.bytes.bytes) (uart_head c.args.uart.now.port c.args.uart.now.bytes.bytes)
    (moved-nothing g.K.Sink.told g.K.Sink.count g.K.Sink.room g.K.Sink.sound c.args.out.now c.args.piece.now.bytes)
    c.in_ok-make_room.ensures.moved c.push_out_head.ensures.bytes refl in
    moved-fails g.K.Sink.told g.K.Sink.count g.K.Sink.room g.K.Sink.sound _ _ _ _ _ _
    (moved-stops g.K.Sink.told g.K.Sink.count g.K.Sink.room g.K.Sink.sound g.met.K.Sink.sound_tells _ _ _ _ _ _ _ _ _ (10 ∷ []) (out_line c.args.uart.now) _
    head c.in_err-write_bytes.ensures.moved (ap (λ l. uart_head c.args.uart.now.port c.args.uart.now.bytes.bytes ++ (encode_lower l ++ 10 ∷ [])) (sym c.as_slice.ensures)))
    c.from_residual-in_err-write_bytes.ensures.0

pub returns-in_err-make_room-2-clause-moved : goal.returns-in_err-make_room-2-clause-moved
returns-in_err-make_room-2-clause-moved g c =
    let head = moved-pushed g.K.Sink.told g.K.Sink.count g.K.Sink.room g.K.Sink.sound _ _ _ _ _ _ _ [] (uart_head c.args.uart.now.port c.args.uart.now.bytes.bytes) (uart_head c.args.uart.now.port c.args.uart.now.bytes.bytes)
    (moved-nothing g.K.Sink.told g.K.Sink.count g.K.Sink.room g.K.Sink.sound c.args.out.now c.args.piece.now.bytes)
    c.in_ok-make_room.ensures.moved c.push_out_head.ensures.bytes refl in
    let bytes = moved-then g.K.Sink.told g.K.Sink.count g.K.Sink.room g.K.Sink.sound _ _ _ _ _ _ _ _ (uart_head c.args.uart.now.port c.args.uart.now.bytes.bytes ++ encode_lower c.args.uart.now.bytes.bytes)
    head c.in_ok-write_bytes.ensures.moved (ap (λ l. uart_head c.args.uart.now.port c.args.uart.now.bytes.bytes ++ encode_lower l) (sym c.as_slice.ensures)) in
    moved-fails g.K.Sink.told g.K.Sink.count g.K.Sink.room g.K.Sink.sound _ _ _ _ _ _
    (moved-stops g.K.Sink.told g.K.Sink.count g.K.Sink.room g.K.Sink.sound g.met.K.Sink.sound_tells _ _ _ _ _ _ _ _ [] (10 ∷ []) (out_line c.args.uart.now) _
    bytes c.in_err-make_room-2.ensures.moved (sym (append_assoc (uart_head c.args.uart.now.port c.args.uart.now.bytes.bytes) (encode_lower c.args.uart.now.bytes.bytes) (10 ∷ []))))
    c.from_residual-in_err-make_room-2.ensures.0

pub returns-clause-moved : goal.returns-clause-moved
returns-clause-moved g c =
    let head = moved-pushed g.K.Sink.told g.K.Sink.count g.K.Sink.room g.K.Sink.sound _ _ _ _ _ _ _ [] (uart_head c.args.uart.now.port c.args.uart.now.bytes.bytes) (uart_head c.args.uart.now.port c.args.uart.now.bytes.bytes)
    (moved-nothing g.K.Sink.told g.K.Sink.count g.K.Sink.room g.K.Sink.sound c.args.out.now c.args.piece.now.bytes)
    c.in_ok-make_room.ensures.moved c.push_out_head.ensures.bytes refl in
    let bytes = moved-then g.K.Sink.told g.K.Sink.count g.K.Sink.room g.K.Sink.sound _ _ _ _ _ _ _ _ (uart_head c.args.uart.now.port c.args.uart.now.bytes.bytes ++ encode_lower c.args.uart.now.bytes.bytes)
    head c.in_ok-write_bytes.ensures.moved (ap (λ l. uart_head c.args.uart.now.port c.args.uart.now.bytes.bytes ++ encode_lower l) (sym c.as_slice.ensures)) in
    moved-pushed g.K.Sink.told g.K.Sink.count g.K.Sink.room g.K.Sink.sound _ _ _ _ _ _ _ _ (10 ∷ []) (out_line c.args.uart.now)
    bytes c.in_ok-make_room-2.ensures.moved c.push_spare.ensures.bytes (sym (append_assoc (uart_head c.args.uart.now.port c.args.uart.now.bytes.bytes) (encode_lower c.args.uart.now.bytes.bytes) (10 ∷ [])))
