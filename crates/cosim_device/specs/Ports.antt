-- The one port of a configuration whose device is served: its settings, or what stands against making its device.
use Rattle.std.specs.Prelude.{ℕ, List, [], ◌∷◌, codes, slice_get, Option, Some, None, Result, Ok, Err}
use Rattle.cos_base.specs.Stores.{Store}
use Rattle.cosim_model.specs.declared.session.Role.TheVariants.{Device}
use Rattle.cosim_model.specs.Sessions.{fresh_session}
use Rattle.ends_model.specs.DeviceTurn.{DeviceEnd, fresh_device}
use Rattle.rp_packet.specs.declared.fault.Cause.{Cause}
use Rattle.cos_config.specs.declared.config.Config.{Config as Settings}
use Rattle.cos_config.specs.declared.config.PortConfig.{PortConfig}
use Rattle.cos_config.specs.declared.config.Sockets.TheVariants.{Port}
use Rattle.cos_config.specs.declared.fault.ConfigFault.{ConfigFault}
use Rattle.cos_config.specs.declared.fault.ConfigFault.TheVariants.{Missing}
use Rattle.cos_config.specs.declared.fault.TableName.TheVariants.{Port as PortTable}
use Rattle.cos_parts.specs.declared.any_device.AnyDevice.{AnyDevice}
use Rattle.cos_parts.specs.declared.any_device.AnyDevice.TheVariants.{Null, Timer, Uart, Dma, Disk}
use Rattle.cos_parts.specs.AnyDevices.{any_model}
use Rattle.outcomes.specs.Outcomes.{Outcome, Written, Lacks, Refuses}
use Rattle.cosim_inputs.specs.declared.refusals.InputsRefusal.{InputsRefusal}
use Rattle.cosim_inputs.specs.declared.refusals.InputsRefusal.TheVariants.{Config}
use Rattle.cosim_inputs.specs.Inputs.{trouble, port_files, names_read}
use Rattle.cosim_inputs.specs.Judging.{judged}

-- a port's settings, or what stands against making its device
abbrev pub Found : Type 0
Found = Result PortConfig (Outcome InputsRefusal)

abbrev pub or_stands : PortConfig → Option (Outcome InputsRefusal) → Found
or_stands p None = Ok p
or_stands p (Some stands) = Err stands

-- Of the files that the ports name, those of this port alone are read.
abbrev pub port_found : Store → ℕ → Option PortConfig → Found
port_found m port (Some p) = or_stands p (trouble m (port_files port p))
port_found m port None = Err (Refuses (Config (Missing (PortTable port) (codes "kind"))) [])

abbrev pub judged_to : Store → ℕ → Result Settings ConfigFault → Found
judged_to m port (Ok c) = port_found m port (slice_get c.ports port)
judged_to m port (Err f) = Err (Refuses (Config f) [])

abbrev pub found_to : Store → List ℕ → ℕ → Option (List ℕ) → Found
found_to m config port None = Err (Lacks config)
found_to m config port (Some bytes) = judged_to m port (judged (Port port) bytes)

-- by the files, the configuration's name, and the port
abbrev pub found : Store → List ℕ → ℕ → Found
found m config port = found_to m config port (m config)

-- The names that are asked for: the configuration's, and behind it that of the file which the port's device begins
-- with.

abbrev pub names_of : Store → ℕ → Option PortConfig → List (List ℕ)
names_of m port (Some p) = names_read (port_files port p) m
names_of m port None = []

abbrev pub names_judged : Store → ℕ → Result Settings ConfigFault → List (List ℕ)
names_judged m port (Ok c) = names_of m port (slice_get c.ports port)
names_judged m port (Err f) = []

abbrev pub names_found : Store → ℕ → Option (List ℕ) → List (List ℕ)
names_found m port None = []
names_found m port (Some bytes) = names_judged m port (judged (Port port) bytes)

abbrev pub port_names : List ℕ → ℕ → Store → List (List ℕ)
port_names config port m = config ∷ names_found m port (m config)

-- the end of a device at reset, as the port's settings say
abbrev pub port_start : PortConfig → AnyDevice → DeviceEnd AnyDevice Cause
port_start p s = fresh_device s p.answered_lines (fresh_session Device p.caps (any_model.needs s))

-- What is written in the end: the sectors of a disk, to the file that is named for them.
abbrev pub result_of : Option (List ℕ) → AnyDevice → Option Written
result_of None s = None
result_of (Some name) (Disk d) = Some (record { name = name; bytes = d.sectors })
result_of (Some name) (Null d) = None
result_of (Some name) (Timer d) = None
result_of (Some name) (Uart d) = None
result_of (Some name) (Dma d) = None
