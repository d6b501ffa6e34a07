-- The machine that a number generates, and what the command `gen` comes to.
use Rattle.std.specs.Prelude.{◌≡◌, ℕ, Bool, true, false, if◌then◌else◌, List, [], ◌∷◌, ◌++◌, length, replicate}
use Rattle.std.specs.Prelude.{Option, Some, None, codes, decimal}
use Rattle.std.specs.List.{concat}
use Rattle.std.specs.Str.{bytes_eq}
use Rattle.std.specs.declared.convert.Infallible.{Infallible}
use Rattle.cos_base.specs.Octets.{overwritten}
use Rattle.cos_base.specs.Stores.{Store}
use Rattle.cos_config.specs.declared.config.Config.{Config}
use Rattle.cos_config.specs.declared.config.MachineKind.TheVariants as machine
use Rattle.cos_config.specs.declared.config.PortConfig.{PortConfig}
use Rattle.cos_config.specs.declared.config.PortKind.{PortKind}
use Rattle.cos_config.specs.declared.config.PortKind.TheVariants as kind
use Rattle.cos_parts.specs.declared.any_device.AnyDevice.{AnyDevice}
use Rattle.cos_parts.specs.declared.any_device.AnyDevice.TheVariants.{Timer, Uart, Dma}
use Rattle.cos_parts.specs.declared.any_master.AnyMaster.{AnyMaster}
use Rattle.cos_parts.specs.declared.any_master.AnyMaster.TheVariants.{Rv}
use Rattle.cos_parts.specs.AnyDevices as devices
use Rattle.cos_parts.specs.AnyMasters as masters
use Rattle.cos_schedules.specs.declared.schedule.Schedule.TheVariants.{Number}
use Rattle.cosim_generator.specs.Programs.{quantum_of, gap_of, input_of, image_of, program_of}
use Rattle.cosim_inputs.specs.Fresh.{windows_of}
use Rattle.cosim_local.specs.Locals.{start_of}
use Rattle.cosim_local.specs.Steps.{direct_at}
use Rattle.cosim_local.specs.Traffic.{links_of}
use Rattle.dev_dma.specs.Dmas.{fresh_dma}
use Rattle.dev_timer.specs.Timers.{fresh_timer}
use Rattle.dev_uart.specs.Uarts.{fresh_uart}
use Rattle.link_lines.specs.LinkLines.{traffic_text}
use Rattle.outcomes.specs.Outcomes.{Outcome, Works}
use Rattle.run_texts.specs.Texts.{end_lines, uarts_from}
use Rattle.sys_bus.specs.Units.{fresh_master}
use Rattle.world.specs.Worlds.{Start, EndsAfter}

-- The settings. A port's end offers all capabilities, and its stores and lines are answered.

abbrev pub image_name : List ℕ
image_name = codes "image"

abbrev pub input_name : List ℕ
input_name = codes "input"

abbrev pub port_at : PortKind → ℕ → ℕ → Option (List ℕ) → ℕ → PortConfig
port_at kind base line input gap = record {
  kind = kind;
  base = base;
  size = 4096;
  line = line;
  posted_stores = false;
  answered_lines = true;
  caps = record { base = true; enables = true; posted = true };
  socket = None;
  input = input;
  gap = gap;
  relay = None;
  disk = None;
  bad = [];
  result = None;
}

abbrev pub ports_with : ℕ → List PortConfig
ports_with gap =
    port_at kind.Timer 0x10000000 0 None 1
    ∷ port_at kind.Uart 0x10001000 1 (Some input_name) gap
    ∷ port_at kind.Dma 0x10002000 2 None 1
    ∷ []

abbrev pub settings_with : ℕ → ℕ → Config
settings_with quantum gap = record {
  kind = machine.Rv;
  image = Some image_name;
  script = None;
  ram = 131072;
  quantum = quantum;
  units = 100000;
  ports = ports_with gap;
}

abbrev pub settings_of : ℕ → Config
settings_of number = settings_with (quantum_of number) (gap_of number)

-- the files that they name
abbrev pub files_of : ℕ → Store
files_of number name =
    if bytes_eq name image_name then Some (image_of (program_of number))
    else if bytes_eq name input_name then Some (input_of number)
    else None

-- What the world of its ends begins with: it is that of a configuration with these settings, over these files.
abbrev pub generated_start : ℕ → Start AnyMaster AnyDevice
generated_start number = start_of (files_of number) (settings_of number)

-- the hart and the devices, by what they are made of

abbrev pub hart_with : ℕ → List PortConfig → List ℕ → AnyMaster
hart_with ram ports image =
    Rv (fresh_master (overwritten (replicate ram 0) 0 image) (record { windows = windows_of ports; ram = ram }))

abbrev pub devices_with : List ℕ → ℕ → List AnyDevice
devices_with input gap = Timer (fresh_timer 0) ∷ Uart (fresh_uart 1 input gap) ∷ Dma (fresh_dma 2) ∷ []

-- The summary.

-- the number, and the number of calls
abbrev pub head_lines : ℕ → ℕ → List ℕ
head_lines number calls =
    concat (codes "gen " ∷ decimal number ∷ codes "\ncalls " ∷ decimal calls ∷ codes "\n" ∷ [])

-- what `local` prints of a run that begins so behind the lines of its calls, by how many steps were effective
abbrev pub lines_behind : Start AnyMaster AnyDevice → List PortConfig → ℕ → List ℕ
lines_behind s ports effective =
    end_lines (direct_at s) (uarts_from 0 ports)
    ++ traffic_text (links_of (direct_at s).history s.ports) effective

abbrev pub summary_of : ℕ → Start AnyMaster AnyDevice → List PortConfig → ℕ → List ℕ
summary_of number s ports effective =
    head_lines number (length (direct_at s).calls) ++ lines_behind s ports effective

-- What it comes to: under the schedule of the number the world comes to its end, by so many steps that change
-- something. It refuses nothing.
abbrev pub GenComes : ℕ → Outcome Infallible → Type 0
GenComes number o =
    (n : ℕ) × EndsAfter masters.any_model devices.any_model (Number number) (generated_start number) n
    × (o ≡ Works [] (summary_of number (generated_start number) (settings_of number).ports n))
