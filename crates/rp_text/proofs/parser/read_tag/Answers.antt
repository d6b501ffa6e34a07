use Rattle.rp_text.proofs.Bodies.{takes-tag}
use Rattle.rp_text.proofs.parser.read_tag.Goals as goal

pub returns : goal.returns
returns c = takes-tag c.args.words.now c.read_u32.new.self c.read_u32-2.new.self c.read_u32-3.new.self _ c.read_u32.ensures c.read_u32-2.ensures c.read_u32-3.ensures
