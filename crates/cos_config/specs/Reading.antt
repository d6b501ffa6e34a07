-- What a reader of a part of a configuration answers.
use Rattle.std.specs.Prelude.{◌≡◌, None, Result, Ok, Err}
use Rattle.cos_config.specs.declared.fault.ConfigFault.{ConfigFault}
use Rattle.cos_config.specs.First.{Found, Refuses}

-- The value where the rules find nothing, otherwise what they find.
abbrev pub Reads : (V : Type 0) → Found → V → Result V ConfigFault → Type 0
Reads V found value (Ok v) = (found ≡ None) × (v ≡ value)
Reads V found value (Err f) = Refuses found f
