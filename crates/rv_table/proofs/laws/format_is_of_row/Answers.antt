use Rattle.rv_table.proofs.Back.{format_own}
use Rattle.rv_table.proofs.laws.format_is_of_row.Goals as goal

pub returns : goal.returns
returns c = format_own c.args.instr
