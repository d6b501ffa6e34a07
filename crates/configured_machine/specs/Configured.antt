-- A configuration with its machine, by what files hold.
use Rattle.std.specs.Prelude.{◌≡◌, ℕ, ◌≤◌, List, [], ◌∷◌, length, All, IfSome, Result, Ok, Err}
use Rattle.std.specs.declared.option.Option.{Option}
use Rattle.std.specs.declared.option.Option.TheVariants.{Some, None}
use Rattle.cos_base.specs.Stores.{Store}
use Rattle.cos_config.specs.declared.config.Config.{Config as Settings}
use Rattle.cos_config.specs.declared.config.Sockets.{Sockets}
use Rattle.cos_config.specs.declared.fault.ConfigFault.{ConfigFault}
use Rattle.cos_config.specs.Plans.{plan_of}
use Rattle.cos_parts.specs.AnyDevices as devices
use Rattle.cos_parts.specs.AnyMasters as masters
use Rattle.cosim_ends.specs.Sides.{sides_of}
use Rattle.cosim_inputs.specs.declared.refusals.InputsRefusal.{InputsRefusal}
use Rattle.cosim_inputs.specs.declared.refusals.InputsRefusal.TheVariants.{Config}
use Rattle.cosim_inputs.specs.Fresh.{master_of, devices_of}
use Rattle.cosim_inputs.specs.Inputs.{trouble, machine_files, names_read}
use Rattle.cosim_inputs.specs.Judging.{judged}
use Rattle.ends_model.specs.World.{Fit}
use Rattle.outcomes.specs.Outcomes.{Outcome, Lacks, Refuses}
use Rattle.outcomes.specs.Seen.{Seen}
use Rattle.outcomes.specs.Steps.{IsStanding}
use Rattle.configured_machine.specs.declared.parts.Parts.{Parts}

-- The settings of a configuration, or what stands against it and the files that it names.

abbrev pub Found : Type 0
Found = Result Settings (Outcome InputsRefusal)

abbrev pub or_stands : Settings → Option (Outcome InputsRefusal) → Found
or_stands c None = Ok c
or_stands c (Some stands) = Err stands

abbrev pub judged_to : Store → Result Settings ConfigFault → Found
judged_to m (Ok c) = or_stands c (trouble m (machine_files c))
judged_to m (Err f) = Err (Refuses (Config f) [])

abbrev pub found_to : Sockets → Store → List ℕ → Option (List ℕ) → Found
found_to sockets m name None = Err (Lacks name)
found_to sockets m name (Some bytes) = judged_to m (judged sockets bytes)

abbrev pub found : Sockets → Store → List ℕ → Found
found sockets m name = found_to sockets m name (m name)

-- this stands against having the configuration's machine
abbrev pub StandsAgainst : Sockets → Option Store → List ℕ → Outcome InputsRefusal → Type 0
StandsAgainst sockets held name o = IfSome held (λ m. found sockets m name ≡ Err o)

-- The names that are asked for: the configuration's, and behind it those of the files that it names, up to the first
-- that something stands against.

abbrev pub names_judged : Store → Result Settings ConfigFault → List (List ℕ)
names_judged m (Ok c) = names_read (machine_files c) m
names_judged m (Err f) = []

abbrev pub names_found : Sockets → Store → Option (List ℕ) → List (List ℕ)
names_found sockets m None = []
names_found sockets m (Some bytes) = names_judged m (judged sockets bytes)

abbrev pub machine_names : Sockets → List ℕ → Store → List (List ℕ)
machine_names sockets name m = name ∷ names_found sockets m (m name)

-- The settings are those of the configuration, and the machine is that of what the files hold.
pub record ArePartsOf (sockets : Sockets) (m : Store) (name : List ℕ) (p : Parts) : Type 0 where
  pub config : found sockets m name ≡ Ok p.config
  pub master : p.machine.master ≡ master_of m p.config
  pub devices : p.machine.devices.items ≡ devices_of m p.config.ports

pub record AreParts (sockets : Sockets) (f : Seen Store) (name : List ℕ) (p : Parts) : Type 0 where
  pub stands : IsStanding f
  pub are : IfSome f.old (λ m. ArePartsOf sockets m name p)

-- The parts may be run, whatever the files tell.
pub record MayRun (p : Parts) : Type 0 where
  pub few : length p.config.ports ≤ 16
  pub each : length p.machine.devices.items ≡ length p.config.ports
  pub fresh : All (λ d. devices.any_seen d ≡ 0) p.machine.devices.items
  pub fit :
      Fit masters.any_model devices.any_model (plan_of p.config) p.machine.master
      (sides_of p.config.ports p.machine.devices.items)
