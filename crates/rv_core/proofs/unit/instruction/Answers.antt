use Rattle.rv_table.proofs.Decoding.{decoded_is}
use Rattle.rv_core.proofs.unit.instruction.Goals as goal

pub returns-clause-value : goal.returns-clause-value
returns-clause-value c = decoded_is c.args.word c.decode.result c.decode.ensures
