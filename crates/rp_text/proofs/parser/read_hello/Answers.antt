use Rattle.rp_text.proofs.Bodies.{takes-hello}
use Rattle.rp_text.proofs.parser.read_hello.Goals as goal

pub returns : goal.returns
returns c = takes-hello c.args.words.now c.read_u16-major.new.self c.read_u16-minor.new.self c.read_capabilities.new.self c.read_u16-major.result c.read_u16-minor.result c.in_ok-caps.caps c.read_u16-major.ensures c.read_u16-minor.ensures c.in_ok-caps.ensures
