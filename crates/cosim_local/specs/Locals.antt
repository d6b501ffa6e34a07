-- What the command `local` comes to, by its configuration, the files that this names, and the order of its steps.
use Rattle.std.specs.Prelude.{◌≡◌, ℕ, List, [], ◌++◌, length, map, Result, Ok, Err}
use Rattle.std.specs.declared.option.Option.{Option}
use Rattle.std.specs.declared.option.Option.TheVariants.{Some, None}
use Rattle.cos_base.specs.Stores.{Store}
use Rattle.cos_config.specs.declared.config.Config.{Config as Settings}
use Rattle.cos_config.specs.declared.config.Sockets.TheVariants.{Unneeded}
use Rattle.cos_config.specs.declared.fault.ConfigFault.{ConfigFault}
use Rattle.cos_config.specs.Plans.{plan_of}
use Rattle.cos_parts.specs.declared.any_device.AnyDevice.{AnyDevice}
use Rattle.cos_parts.specs.declared.any_master.AnyMaster.{AnyMaster}
use Rattle.cos_parts.specs.AnyDevices as devices
use Rattle.cos_parts.specs.AnyMasters as masters
use Rattle.cos_schedules.specs.declared.schedule.Schedule.{Schedule as Scheduled}
use Rattle.cosim_direct.specs.Directs.{machine_of, direct_names}
use Rattle.cosim_ends.specs.Sides.{sides_of}
use Rattle.cosim_inputs.specs.declared.refusals.InputsRefusal.{InputsRefusal}
use Rattle.cosim_inputs.specs.declared.refusals.InputsRefusal.TheVariants.{Config}
use Rattle.cosim_inputs.specs.Fresh.{master_of, devices_of}
use Rattle.cosim_inputs.specs.Inputs.{trouble, machine_files}
use Rattle.cosim_inputs.specs.Judging.{judged}
use Rattle.link_lines.specs.LinkLines.{traffic_text}
use Rattle.outcomes.specs.Outcomes.{Outcome, Written, Lacks, Refuses, Works}
use Rattle.run_texts.specs.Texts.{run_lines}
use Rattle.world.specs.Worlds.{Start, EndsAfter}
use Rattle.cosim_local.specs.declared.order.Order.{Order}
use Rattle.cosim_local.specs.declared.refusal.LocalRefusal.{LocalRefusal}
use Rattle.cosim_local.specs.declared.refusal.LocalRefusal.TheVariants.{Inputs}
use Rattle.cosim_local.specs.Ordering.{Ordered, Orders, order_names}
use Rattle.cosim_local.specs.Results.{results_of}
use Rattle.cosim_local.specs.Traffic.{links_of}

-- The settings of a configuration, or what stands against it and the files that it names.

abbrev pub Found : Type 0
Found = Result Settings (Outcome InputsRefusal)

abbrev pub or_stands : Settings → Option (Outcome InputsRefusal) → Found
or_stands c None = Ok c
or_stands c (Some stands) = Err stands

abbrev pub judged_to : Store → Result Settings ConfigFault → Found
judged_to m (Ok c) = or_stands c (trouble m (machine_files c))
judged_to m (Err f) = Err (Refuses (Config f) [])

abbrev pub found_to : Store → List ℕ → Option (List ℕ) → Found
found_to m name None = Err (Lacks name)
found_to m name (Some bytes) = judged_to m (judged Unneeded bytes)

abbrev pub found : Store → List ℕ → Found
found m name = found_to m name (m name)

-- The run of a configuration's machine.

-- what its world of ends begins with
abbrev pub start_of : Store → Settings → Start AnyMaster AnyDevice
start_of m c = record {
  plan = plan_of c;
  master = master_of m c;
  ports = sides_of c.ports (devices_of m c.ports);
}

-- what is written: the sectors of disks, as the direct machine leaves them
abbrev pub written_by : Store → Settings → List Written
written_by m c = results_of c.ports (machine_of m c).devices

-- what is printed: the lines of `direct`, and then what went over the links, and how many steps were effective
abbrev pub local_lines : Store → Settings → ℕ → List ℕ
local_lines m c effective =
    run_lines (machine_of m c) c.ports
    ++ traffic_text (links_of (machine_of m c).history (start_of m c).ports) effective

-- Under the schedule the world comes to its end, by so many steps that change something.
abbrev pub RunsTo : Store → Settings → Scheduled → Outcome LocalRefusal → Type 0
RunsTo m c schedule o =
    (n : ℕ) × EndsAfter masters.any_model devices.any_model schedule (start_of m c) n
    × (o ≡ Works (written_by m c) (local_lines m c n))

-- What it comes to.

abbrev pub as_local : Outcome InputsRefusal → Outcome LocalRefusal
as_local (Lacks name) = Lacks name
as_local (Refuses r text) = Refuses (Inputs r) text
as_local (Works files text) = Works files text

abbrev pub OrderedTo : Store → Settings → Ordered → Outcome LocalRefusal → Type 0
OrderedTo m c (Ok schedule) o = RunsTo m c schedule o
OrderedTo m c (Err stands) o = o ≡ stands

abbrev pub FoundTo : Store → Order → Found → Outcome LocalRefusal → Type 0
FoundTo m order (Ok c) o = (r : Ordered) × Orders (length c.ports) order m r × OrderedTo m c r o
FoundTo m order (Err stands) o = o ≡ as_local stands

-- Over files that tell nothing it may come to anything.
abbrev pub LocalComes : Option Store → List ℕ → Order → Outcome LocalRefusal → Type 0
LocalComes None name order o = Unit {0}
LocalComes (Some m) name order o = FoundTo m order (found m name) o

-- The names that it asks for: those for which `direct` does, and behind them that of the file of steps, where nothing
-- stands against the others; and the names of those that are written in the end.

abbrev pub names_behind : Found → List (List ℕ) → List (List ℕ)
names_behind (Ok c) names = names
names_behind (Err stands) names = []

abbrev pub local_names : List ℕ → Order → Store → List (List ℕ)
local_names name order m = direct_names name m ++ names_behind (found m name) (order_names order)

abbrev pub written_names : Store → Found → List (List ℕ)
written_names m (Ok c) = map (λ (w : Written). w.name) (written_by m c)
written_names m (Err stands) = []

abbrev pub result_names : List ℕ → Store → List (List ℕ)
result_names name m = written_names m (found m name)
