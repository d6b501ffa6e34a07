-- The steps of `local`: what its run begins with is had, the world is run to its end, and the results are written.
use Rattle.std.specs.Prelude.{◌≡◌, ℕ, ◌+◌, ◌≤◌, List, [], ◌∷◌, ◌++◌, length, map, All, IfSome, Option, Result, Ok, Err}
use Rattle.cos_base.specs.Stores.{Store}
use Rattle.cos_config.specs.declared.config.PortConfig.{PortConfig}
use Rattle.cos_config.specs.Plans.{plan_of}
use Rattle.cos_parts.specs.declared.any_device.AnyDevice.{AnyDevice}
use Rattle.cos_parts.specs.declared.any_master.AnyMaster.{AnyMaster}
use Rattle.cos_parts.specs.AnyDevices as devices
use Rattle.cos_parts.specs.AnyMasters as masters
use Rattle.cos_schedules.specs.declared.schedule.Schedule.{Schedule as Scheduled}
use Rattle.cosim_ends.specs.Sides.{sides_of}
use Rattle.cosim_inputs.specs.declared.refusals.InputsRefusal.{InputsRefusal}
use Rattle.cosim_inputs.specs.Fresh.{master_of, devices_of}
use Rattle.cosim_model.specs.Direct.{Direct}
use Rattle.ends_model.specs.World.{Fit}
use Rattle.every_schedule.specs.Counts.{packets_in}
use Rattle.every_schedule.specs.Schedules.{directly}
use Rattle.link_lines.specs.declared.lines.LinkCounts.{LinkCounts}
use Rattle.link_lines.specs.LinkLines.{traffic_text}
use Rattle.outcomes.specs.declared.failures.FilesFailure.{FilesFailure}
use Rattle.outcomes.specs.declared.failures.FilesFailure.TheVariants as files
use Rattle.outcomes.specs.declared.failures.ReadFault.{ReadFault}
use Rattle.outcomes.specs.declared.failures.ReadFault.TheVariants as read
use Rattle.outcomes.specs.Asked.{Asking, AsksAll, AsksSome}
use Rattle.outcomes.specs.Outcomes.{Outcome, Written, Works, StopsAt, Hold, HoldBut, HoldSome}
use Rattle.outcomes.specs.Seen.{Seen, CountStands, IsBlamed}
use Rattle.outcomes.specs.Steps.{IsStanding}
use Rattle.process_network.specs.Star.{Link, link}
use Rattle.rp_packet.specs.Streams.{packet_codec}
use Rattle.run_texts.specs.Texts.{run_lines}
use Rattle.transcript.specs.ClosingLines.{run_text}
use Rattle.world.specs.Stars.{Ends, Leaf}
use Rattle.world.specs.Worlds.{Start, WorldValue, EndsAfter, IsOver}
use Rattle.cosim_local.specs.declared.finished.Finished.{Finished}
use Rattle.cosim_local.specs.declared.order.Order.{Order}
use Rattle.cosim_local.specs.declared.parts.Parts.{Parts}
use Rattle.cosim_local.specs.declared.parts.Planned.{Planned}
use Rattle.cosim_local.specs.declared.refusal.LocalRefusal.{LocalRefusal}
use Rattle.cosim_local.specs.declared.refusal.LocalRefusal.TheVariants.{Inputs}
use Rattle.cosim_local.specs.Locals.{found, LocalComes, result_names}
use Rattle.cosim_local.specs.Ordering.{Ordered, Orders}
use Rattle.cosim_local.specs.Results.{results_of}
use Rattle.cosim_local.specs.Traffic.{links_of}

-- What the run begins with is had.

-- this stands against having the configuration's machine, or the schedule

abbrev pub StandsAgainst : Option Store → List ℕ → Outcome InputsRefusal → Type 0
StandsAgainst held name o = IfSome held (λ m. found m name ≡ Err o)

abbrev pub OrderStands : Option Store → (Store → Ordered → Type 0) → Outcome LocalRefusal → Type 0
OrderStands held orders o = IfSome held (λ m. orders m (Err o))

-- the settings are those of the configuration, and the machine is that of what the files hold
pub record ArePartsOf (m : Store) (name : List ℕ) (p : Parts) : Type 0 where
  pub config : found m name ≡ Ok p.config
  pub master : p.machine.master ≡ master_of m p.config
  pub devices : p.machine.devices.items ≡ devices_of m p.config.ports

pub record AreParts (f : Seen Store) (name : List ℕ) (p : Parts) : Type 0 where
  pub stands : IsStanding f
  pub are : IfSome f.old (λ m. ArePartsOf m name p)

pub record IsOrdered (f : Seen Store) (orders : Store → Ordered → Type 0) (s : Scheduled) : Type 0 where
  pub stands : IsStanding f
  pub is : IfSome f.old (λ m. orders m (Ok s))

pub record IsPlanned (f : Seen Store) (name : List ℕ) (order : Order) (p : Planned) : Type 0 where
  pub stands : IsStanding f
  pub are : IfSome f.old (λ m. ArePartsOf m name p.parts)
  pub is : IfSome f.old (λ m. Orders (length p.parts.config.ports) order m (Ok p.schedule))

-- The parts may be run, whatever the files tell.
pub record MayRun (p : Parts) : Type 0 where
  pub few : length p.config.ports ≤ 16
  pub each : length p.machine.devices.items ≡ length p.config.ports
  pub fresh : All (λ d. devices.any_seen d ≡ 0) p.machine.devices.items
  pub fit :
      Fit masters.any_model devices.any_model (plan_of p.config) p.machine.master
      (sides_of p.config.ports p.machine.devices.items)

-- how a configuration that isn't had ends the command
abbrev pub inputs_fault : ReadFault InputsRefusal → ReadFault LocalRefusal
inputs_fault (read.Refused r) = read.Refused (Inputs r)
inputs_fault (read.Failed count) = read.Failed count
inputs_fault read.NoMemory = read.NoMemory

-- The world is run.

abbrev pub start_by : Parts → Start AnyMaster AnyDevice
start_by p = record {
  plan = plan_of p.config;
  master = p.machine.master;
  ports = sides_of p.config.ports p.machine.devices.items;
}

-- the direct machine of what a world begins with
abbrev pub direct_at : Start AnyMaster AnyDevice → Direct AnyMaster AnyDevice
direct_at s = directly masters.any_model devices.any_model packet_codec s.plan s.master s.ports

abbrev pub devices_in : WorldValue AnyMaster AnyDevice → List AnyDevice
devices_in w = map (λ (l : Leaf AnyDevice). l.core.device) w.now.leaves

-- the numbers of what was sent on a link
abbrev pub counts_of : Link → LinkCounts
counts_of k = record {
  out_packets = packets_in packet_codec k.out;
  out_bytes = length k.out;
  back_packets = packets_in packet_codec k.back;
  back_bytes = length k.back;
}

-- on the links of this port and those behind it
abbrev pub counts_from : {X : Type 0} → Ends AnyMaster AnyDevice → ℕ → List X → List LinkCounts
counts_from w port [] = []
counts_from w port (x ∷ xs) = counts_of (link w port) ∷ counts_from w (port + 1) xs

-- The lines of a run that begins so, by how many steps were effective.
abbrev pub lines_at : Start AnyMaster AnyDevice → List PortConfig → ℕ → List ℕ
lines_at s ports effective =
    run_lines (direct_at s) ports ++ traffic_text (links_of (direct_at s).history s.ports) effective

-- A run that is over, with what is printed of it.
pub record IsClosed (w : WorldValue AnyMaster AnyDevice) (of_ports : List PortConfig) (done : Finished) : Type 0 where
  pub world : done.world ≡ w
  pub ports : done.config.ports ≡ of_ports
  pub text : run_text w.now.hub.core.calls done.end ++ done.traffic.bytes ≡ lines_at w.start of_ports w.effective

-- The run that was planned is over.
pub record IsFinished (p : Planned) (done : Finished) : Type 0 where
  pub ends : EndsAfter masters.any_model devices.any_model p.schedule (start_by p.parts) done.world.effective
  pub start : done.world.start ≡ start_by p.parts
  pub over : IsOver masters.any_model devices.any_model done.world
  pub ports : done.config.ports ≡ p.parts.config.ports
  pub text :
      run_text done.world.now.hub.core.calls done.end ++ done.traffic.bytes
      ≡ lines_at (start_by p.parts) p.parts.config.ports done.world.effective

-- What is written and printed in the end is what the command comes to.
pub record IsRun (f : Seen Store) (name : List ℕ) (order : Order) (done : Finished) : Type 0 where
  pub stands : IsStanding f
  pub comes :
      LocalComes f.old name order
      (Works (results_of done.config.ports (devices_in done.world))
      (run_text done.world.now.hub.core.calls done.end ++ done.traffic.bytes))
  pub names :
      IfSome f.old
      (λ m. result_names name m ≡ map (λ (w : Written). w.name) (results_of done.config.ports (devices_in done.world)))

-- The results are written: all of these; or up to one where the files are blamed, whose bytes may be any, or where
-- there was no memory.

abbrev pub WritesAll : List Written → Seen Store → Result Unit FilesFailure → Type 0
WritesAll results f (Ok u) = CountStands f × Hold f results
WritesAll results f (Err (files.Failed n)) = IsBlamed f n × (at : StopsAt results) × HoldBut f at.done at.one.name
WritesAll results f (Err files.NoMemory) = CountStands f × (at : StopsAt results) × HoldSome f at.done

-- their names are asked for, up to that one
abbrev pub AsksResults : List Written → Asking → Result Unit FilesFailure → Type 0
AsksResults results a (Ok u) = AsksAll a (λ m. map (λ (w : Written). w.name) results)
AsksResults results a (Err e) = AsksSome a (λ m. map (λ (w : Written). w.name) results)
