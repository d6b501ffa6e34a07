use Rattle.rv_table.specs.declared.table.TheConstants.{TABLE}
use Rattle.rv_table.proofs.Apart.{at_most_one, table_apart}
use Rattle.rv_table.proofs.laws.rows_are_apart.Goals as goal

pub returns : goal.returns
returns c = at_most_one TABLE.rows c.args.word c.args.first c.args.second table_apart c.requires.order c.requires.within
