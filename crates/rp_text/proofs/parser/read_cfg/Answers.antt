use Rattle.rp_text.proofs.Bodies.{takes-cfg}
use Rattle.rp_text.proofs.parser.read_cfg.Goals as goal

pub returns : goal.returns
returns c = takes-cfg c.args.words.now c.read_u32.new.self c.read_u8.new.self c.read_u32.result c.read_u8.result c.read_u32.ensures c.read_u8.ensures
