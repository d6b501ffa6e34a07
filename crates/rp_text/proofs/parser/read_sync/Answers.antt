use Rattle.rp_text.proofs.Bodies.{takes-sync}
use Rattle.rp_text.proofs.parser.read_sync.Goals as goal

pub returns : goal.returns
returns c = takes-sync c.args.words.now c.read_decimal.new.self c.read_decimal.result c.read_decimal.ensures
