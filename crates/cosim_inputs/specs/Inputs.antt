-- The files that a configuration names for reading, in the order in which they are read, and what is wrong with each.
use Rattle.std.specs.Prelude.{ℕ, ◌+◌, ◌%◌, Bool, true, false, ◌&&◌, nat_le, nat_eq, if◌then◌else◌, List, [], ◌∷◌, ◌++◌, length, Option, Some, None, Result, Ok, Err}
use Rattle.std.specs.Str.{is_utf8}
use Rattle.cos_base.specs.Stores.{Store}
use Rattle.cos_config.specs.declared.config.MachineKind.{MachineKind}
use Rattle.cos_config.specs.declared.config.MachineKind.TheVariants.{Rv, Script}
use Rattle.cos_config.specs.declared.config.Config.{Config}
use Rattle.cos_script.specs.declared.step.ScriptStep.{ScriptStep}
use Rattle.cos_script.specs.Scripts.{script_of}
use Rattle.cos_config.specs.declared.config.PortKind.{PortKind}
use Rattle.cos_config.specs.declared.config.PortKind.TheVariants.{Null, Timer, Uart, Dma, Disk}
use Rattle.cos_config.specs.declared.config.PortConfig.{PortConfig}
use Rattle.outcomes.specs.Outcomes.{Outcome, Lacks, Refuses}
use Rattle.cosim_inputs.specs.declared.refusals.InputsRefusal.{InputsRefusal}
use Rattle.cosim_inputs.specs.declared.refusals.InputsRefusal.TheVariants.{ImageEmpty, ImageTooLarge, Line, UartInput, DiskImage}

-- What a file is read as: the bytes that RAM of a size begins with, the script of a machine with so many ports, or the
-- input or the image of a port's device.
pub data Role : Type 0 where
  AsImage : (size : ℕ) → Role
  AsScript : (ports : ℕ) → Role
  AsInput : (port : ℕ) → Role
  AsDisk : (port : ℕ) → Role

pub record Asked : Type 0 where
  pub name : List ℕ
  pub role : Role

-- RAM begins with at least one byte, and at most as many as it has.
abbrev pub image_refusal : ℕ → ℕ → Option InputsRefusal
image_refusal size len = if nat_eq len 0 then Some ImageEmpty else if nat_le len size then None
    else Some (ImageTooLarge size len)

abbrev pub line_refusal : Result (List ScriptStep) ℕ → Option InputsRefusal
line_refusal (Ok steps) = None
line_refusal (Err line) = Some (Line line)

-- A script is UTF-8, and each of its lines is one of a script's. Lines are counted from 1.
abbrev pub script_refusal : Bool → Result (List ScriptStep) ℕ → Option InputsRefusal
script_refusal true steps = line_refusal steps
script_refusal false steps = Some (Line 1)

-- A UART takes at most 65,536 bytes of input.
abbrev pub input_refusal : ℕ → ℕ → Option InputsRefusal
input_refusal port len = if nat_le len 65536 then None else Some (UartInput port len)

-- A disk has 1 to 32,768 sectors of 512 bytes.
abbrev pub disk_refusal : ℕ → ℕ → Option InputsRefusal
disk_refusal port len = if nat_eq (len % 512) 0 && nat_le 512 len
    && nat_le len 16777216 then None else Some (DiskImage port len)

abbrev pub refusal : Role → List ℕ → Option InputsRefusal
refusal (AsImage size) bytes = image_refusal size (length bytes)
refusal (AsScript ports) bytes = script_refusal (is_utf8 bytes) (script_of ports bytes)
refusal (AsInput port) bytes = input_refusal port (length bytes)
refusal (AsDisk port) bytes = disk_refusal port (length bytes)

-- The files of a machine, in the order in which they are read: those of its master, and those of its ports by number.

abbrev pub asked_as : Role → Option (List ℕ) → List Asked
asked_as role None = []
asked_as role (Some name) = record { name = name; role = role } ∷ []

-- A hart runs its image; a script may have one.
abbrev pub sources_of : MachineKind → Config → List Asked
sources_of Rv c = asked_as (AsImage c.ram) c.image
sources_of Script c = asked_as (AsImage c.ram) c.image ++ asked_as (AsScript (length c.ports)) c.script

abbrev pub files_as : PortKind → ℕ → PortConfig → List Asked
files_as Uart port p = asked_as (AsInput port) p.input
files_as Disk port p = asked_as (AsDisk port) p.disk
files_as Null port p = []
files_as Timer port p = []
files_as Dma port p = []

abbrev pub port_files : ℕ → PortConfig → List Asked
port_files port p = files_as p.kind port p

abbrev pub ports_files : ℕ → List PortConfig → List Asked
ports_files port [] = []
ports_files port (p ∷ ps) = port_files port p ++ ports_files (port + 1) ps

abbrev pub master_files : Config → List Asked
master_files c = sources_of c.kind c

abbrev pub machine_files : Config → List Asked
machine_files c = master_files c ++ ports_files 0 c.ports

-- What stands against reading some files, one by one: the first that isn't there, or that is refused.

abbrev pub or_refused : Option InputsRefusal → Option (Outcome InputsRefusal) → Option (Outcome InputsRefusal)
or_refused None later = later
or_refused (Some f) later = Some (Refuses f [])

abbrev pub trouble_at : Asked → Option (List ℕ) → Option (Outcome InputsRefusal) → Option (Outcome InputsRefusal)
trouble_at a None later = Some (Lacks a.name)
trouble_at a (Some bytes) later = or_refused (refusal a.role bytes) later

abbrev pub trouble : Store → List Asked → Option (Outcome InputsRefusal)
trouble m [] = None
trouble m (a ∷ later) = trouble_at a (m a.name) (trouble m later)

-- The names that reading some files asks for: those up to the first that something stands against, and with it.

abbrev pub or_stopped : Option (Outcome InputsRefusal) → List (List ℕ) → List (List ℕ)
or_stopped None later = later
or_stopped (Some stands) later = []

abbrev pub names_read : List Asked → Store → List (List ℕ)
names_read [] m = []
names_read (a ∷ later) m = a.name ∷ or_stopped (trouble_at a (m a.name) None) (names_read later m)
