use Rattle.rp_text.proofs.Bodies.{takes-interrupt}
use Rattle.rp_text.proofs.parser.read_interrupt.Goals as goal

pub returns : goal.returns
returns c = takes-interrupt c.args.words.now c.read_decimal.new.self c.read_decimal-2.new.self c.read_u32.new.self c.read_u8.new.self c.read_decimal.result c.read_decimal-2.result c.read_u32.result c.read_u8.result c.read_decimal.ensures c.read_decimal-2.ensures c.read_u32.ensures c.read_u8.ensures
