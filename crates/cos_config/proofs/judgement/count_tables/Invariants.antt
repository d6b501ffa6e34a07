use Rattle.std.proofs.Common.{◌≡◌, ◌+◌, ◌≤◌, length, drop}
use Rattle.toml.specs.View.{items_view}
use Rattle.cos_config.specs.Settings.{tables_of}
use Rattle.cos_config.proofs.judgement.count_tables.Given as goal

abbrev pub invariant-loop-entry : goal.invariant-loop-entry
invariant-loop-entry l = (l.count ≤ l.entry-index) × (length (tables_of (items_view l.entries.items)) ≡ l.count + length (tables_of (items_view (drop l.entry-index l.entry-items))))
