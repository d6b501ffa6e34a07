use Rattle.rv_table.specs.Named.{row_named}
use Rattle.rv_table.proofs.Room.{named_has_room}
use Rattle.rv_table.proofs.words.row_named.Goals as goal

pub returns-clause-row : goal.returns-clause-row
unfolding row_named
returns-clause-row c = c.find.ensures

pub returns-clause-room : goal.returns-clause-room
returns-clause-room c = named_has_room c.args.mnemonic.now c.find.result c.find.ensures
