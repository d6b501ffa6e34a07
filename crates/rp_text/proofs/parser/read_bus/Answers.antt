use Rattle.rp_text.proofs.Bodies.{takes-bus}
use Rattle.rp_text.proofs.parser.read_bus.Goals as goal

pub returns : goal.returns
returns c = takes-bus c.args.words.now c.read_decimal-time.new.self c.read_hexadecimal-attributes.new.self c.read_hexadecimal-addr.new.self c.read_u32-len.new.self c.read_u32-width.new.self c.read_u32-stream_width.new.self c.read_decimal-master.new.self c.bytes.new.self c.bytes-2.new.self _
    c.read_decimal-time.ensures c.read_hexadecimal-attributes.ensures c.read_hexadecimal-addr.ensures c.read_u32-len.ensures c.read_u32-width.ensures c.read_u32-stream_width.ensures c.read_decimal-master.ensures c.in_ok-payload.ensures c.in_ok-enables.ensures
