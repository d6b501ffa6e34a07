use Rattle.std.proofs.Common.{◌≡◌, drop}
use Rattle.toml.specs.View.{items_view}
use Rattle.cos_config.specs.Rules.{are_tables}
use Rattle.cos_config.proofs.judgement.has_tables_alone.Given as goal

abbrev pub invariant-loop-entry : goal.invariant-loop-entry
invariant-loop-entry l = are_tables (items_view l.entries.items) ≡ are_tables (items_view (drop l.entry-index l.entry-items))
