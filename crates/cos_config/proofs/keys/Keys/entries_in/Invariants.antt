use Rattle.std.proofs.Common.{drop}
use Rattle.toml.specs.View.{items_view}
use Rattle.cos_config.proofs.Entries.{Entering}
use Rattle.cos_config.proofs.keys.Keys.entries_in.Given as goal

abbrev pub invariant-loop-entry : goal.invariant-loop-entry
invariant-loop-entry l = Entering l.self.name l.key l.low l.high (items_view l.entries.items) l.least l.numbers (items_view (drop l.entry-index l.entry-items))
