use Rattle.rv_table.proofs.Back.{back}
use Rattle.rv_table.proofs.laws.decode_of_encode.Goals as goal

pub returns : goal.returns
returns c = back c.args.instr c.requires c.decode.result (rw c.encode.ensures at c.decode.ensures)
