use Rattle.std.proofs.Common.{◌≡◌, map}
use Rattle.std.specs.BTreeMap.{keys}
use Rattle.cos_config.proofs.Members.{first_unknown}
use Rattle.cos_config.proofs.keys.Keys.only.Given as goal

abbrev pub invariant-loop-key : goal.invariant-loop-key
invariant-loop-key l =
    (goal.iterator-loop-key).can_next l.key-iterator ×
    (goal.iterator-loop-key).is_finite l.key-iterator ×
    (first_unknown l.self.name (map (λ s. s.now) l.names) (keys l.self.table.now) ≡ first_unknown l.self.name (map (λ s. s.now) l.names) l.key-iterator)
