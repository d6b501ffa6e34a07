use Rattle.std.proofs.Common.{◌≡◌, drop}
use Rattle.rv_table.specs.Named.{first_named}
use Rattle.rv_table.proofs.words.find.Given as goal

abbrev pub invariant-loop-row : goal.invariant-loop-row
invariant-loop-row l = first_named l.mnemonic l.rows ≡ first_named l.mnemonic (drop l.row-index l.rows)
