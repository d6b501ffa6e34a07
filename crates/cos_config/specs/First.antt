-- The first of some rules that is broken.
use Rattle.std.specs.Prelude.{◌≡◌, ◌⊎◌, List, [], ◌∷◌, Option, Some, None}
use Rattle.cos_config.specs.declared.fault.ConfigFault.{ConfigFault}
use Rattle.cos_config.specs.declared.fault.ConfigFault.TheVariants.{NoMemory}

-- What a rule finds: its fault, or nothing where it is kept.
abbrev pub Found : Type 0
Found = Option ConfigFault

abbrev pub or_else : Found → Found → Found
or_else None later = later
or_else (Some f) later = Some f

abbrev pub first_of : List Found → Found
first_of [] = None
first_of (found ∷ later) = or_else found (first_of later)

-- The fault that a reader answers is what the rules find, or there was no memory.
abbrev pub Refuses : Found → ConfigFault → Type 0
Refuses found f = (f ≡ NoMemory) ⊎ (found ≡ Some f)
