-- What the command `direct` comes to, by its configuration and the files that this names.
use Rattle.std.specs.Prelude.{◌≡◌, ℕ, List, [], ◌∷◌, Result, Ok, Err}
use Rattle.cos_config.specs.Plans.{plan_of}
use Rattle.std.specs.declared.option.Option.{Option}
use Rattle.std.specs.declared.option.Option.TheVariants.{Some, None}
use Rattle.cos_base.specs.Stores.{Store}
use Rattle.cos_config.specs.declared.config.Config.{Config as Settings}
use Rattle.cos_config.specs.declared.config.Sockets.TheVariants.{Unneeded}
use Rattle.cos_config.specs.declared.fault.ConfigFault.{ConfigFault}
use Rattle.cosim_model.specs.declared.values.Plan.{Plan}
use Rattle.cosim_model.specs.Direct.{Direct, direct}
use Rattle.cos_parts.specs.declared.any_master.AnyMaster.{AnyMaster}
use Rattle.cos_parts.specs.declared.any_device.AnyDevice.{AnyDevice}
use Rattle.cos_parts.specs.AnyMasters as masters
use Rattle.cos_parts.specs.AnyDevices as devices
use Rattle.outcomes.specs.Outcomes.{Outcome, Lacks, Refuses, Works}
use Rattle.cosim_inputs.specs.declared.refusals.InputsRefusal.{InputsRefusal}
use Rattle.cosim_inputs.specs.declared.refusals.InputsRefusal.TheVariants.{Config}
use Rattle.cosim_inputs.specs.Fresh.{master_of, devices_of}
use Rattle.cosim_inputs.specs.Inputs.{trouble, machine_files, names_read}
use Rattle.cosim_inputs.specs.Judging.{judged}
use Rattle.run_texts.specs.Texts.{run_lines}

-- the direct machine of the master and the devices at reset, with what the files hold
abbrev pub machine_of : Store → Settings → Direct AnyMaster AnyDevice
machine_of m c = direct masters.any_model devices.any_model (plan_of c) (master_of m c) (devices_of m c.ports)

abbrev pub or_printed : Option (Outcome InputsRefusal) → List ℕ → Outcome InputsRefusal
or_printed (Some stands) text = stands
or_printed None text = Works [] text

-- A configuration's files are read, and the text of the run is printed; or the configuration is refused.
abbrev pub judged_to : Store → Result Settings ConfigFault → Outcome InputsRefusal
judged_to m (Ok c) = or_printed (trouble m (machine_files c)) (run_lines (machine_of m c) c.ports)
judged_to m (Err f) = Refuses (Config f) []

abbrev pub found_to : Store → List ℕ → Option (List ℕ) → Outcome InputsRefusal
found_to m name None = Lacks name
found_to m name (Some bytes) = judged_to m (judged Unneeded bytes)

-- Over files that tell nothing it may come to anything.
abbrev pub DirectComes : Option Store → List ℕ → Outcome InputsRefusal → Type 0
DirectComes None name o = Unit {0}
DirectComes (Some m) name o = o ≡ found_to m name (m name)

-- The names that it asks for: its configuration's, and behind it those of the files that this names, up to the first
-- that something stands against.

abbrev pub names_judged : Store → Result Settings ConfigFault → List (List ℕ)
names_judged m (Ok c) = names_read (machine_files c) m
names_judged m (Err f) = []

abbrev pub names_found : Store → Option (List ℕ) → List (List ℕ)
names_found m None = []
names_found m (Some bytes) = names_judged m (judged Unneeded bytes)

abbrev pub direct_names : List ℕ → Store → List (List ℕ)
direct_names name m = name ∷ names_found m (m name)
