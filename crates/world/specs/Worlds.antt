-- A world: where its ends are, what they began with, and what its calls promise. `every_schedule` is the theorem
-- behind.
use Rattle.std.specs.Prelude.{◌≡◌, ℕ, ◌+◌, ◌≤◌, ◌⊎◌, Bool, true, if◌then◌else◌, List, [], ◌∷◌, ◌++◌, length, map}
use Rattle.std.specs.Prelude.{Option, Some, None, OnOk, Result, Ok, Err, slice_get}
use Rattle.cos_base.specs.declared.no_memory.NoMemory.{NoMemory}
use Rattle.process_network.specs.Network.{IsPrefix}
use Rattle.process_network.specs.PacketStar.{HubEnd, LeafEnd, star_of}
use Rattle.process_network.specs.Star.{StarStep, hub_received, link, star_after, star_all, star_effective}
use Rattle.process_network.specs.Star.{star_effective_steps}
use Rattle.cosim_model.specs.declared.values.Plan.{Plan}
use Rattle.cosim_model.specs.Parts.{DeviceModel, MasterModel}
use Rattle.ends_model.specs.declared.ends.Phase.TheVariants.{Done}
use Rattle.ends_model.specs.DeviceTurn.{DeviceEnd}
use Rattle.ends_model.specs.World.{Fit, Side, device_start, of_port, start, world}
use Rattle.every_schedule.specs.Schedules as all
use Rattle.rp_framing.specs.Framing.{counted}
use Rattle.rp_packet.specs.declared.fault.Cause.{Cause}
use Rattle.rp_packet.specs.Streams.{packet_codec}
use Rattle.cos_schedules.specs.declared.schedule.Schedule.{Schedule}
use Rattle.cos_schedules.specs.declared.step.Step.{Step}
use Rattle.cos_schedules.specs.Beginnings.{BeginsWith}
use Rattle.cos_schedules.specs.Courses.{Course, GivesAll}
use Rattle.cos_schedules.specs.Stars.{star_step}
use Rattle.device_turns.specs.Ends.{End as DeviceTurns, fresh as fresh_end}
use Rattle.world.specs.Stars.{Ends, Hub, Leaf, star}

-- what a device end was made with, and its device
abbrev pub side_of : {S : Type 0} → DeviceTurns S → Side × S
side_of e = (
  record {
    offer = e.clear.session.offers;
    needs = e.clear.session.needs;
    answered_lines = e.clear.answered_lines;
  },
  e.clear.device,
)

-- an end that has taken no turn and received nothing
abbrev pub IsStart : {S : Type 0} → DeviceTurns S → Type 0
IsStart e = e ≡ fresh_end (device_start Cause (side_of e).0 (side_of e).1)

-- What a world began with: by port, what its device end was made with, and its device.
pub record Start (M S : Type 0) : Type 0 where
  pub plan : Plan
  pub master : M
  pub ports : List (Side × S)

-- `effective` is how many steps changed something, up to 2^64 - 1.
pub record WorldValue (M S : Type 0) : Type 0 where
  pub start : Start M S
  pub now : Ends M S
  pub effective : ℕ

module _ {M S : Type 0} (k : MasterModel M) (d : DeviceModel S) where
  -- the ends that begin so, before the first step, and after some steps
  abbrev pub begun : Start M S → Ends M S
  begun s = start k d packet_codec s.plan s.master s.ports

  abbrev pub after_steps : Start M S → List StarStep → Ends M S
  after_steps s steps = world k d packet_codec s.plan s.master s.ports steps

  abbrev pub fresh_world : Start M S → WorldValue M S
  fresh_world s = record { start = s; now = begun s; effective = 0 }

  -- A step was taken. The Boolean says whether it changed anything.
  pub record IsStepped (old new : WorldValue M S) (step : StarStep) (moved : Bool) : Type 0 where
    pub now : new.now ≡ star_after (star k d) old.now step
    pub moved_is : moved ≡ star_effective (star k d) old.now step
    pub effective : new.effective ≡ counted (old.effective + (if moved then 1 else 0))
    pub start : new.start ≡ old.start

  -- Some steps led from the start, where master and ends go together, to where it is.
  pub record IsReached (w : WorldValue M S) : Type 0 where
    pub fit : Fit k d w.start.plan w.start.master w.start.ports
    pub steps : List StarStep
    pub now : w.now ≡ after_steps w.start steps
    pub effective : w.effective ≡ counted (star_effective_steps (star k d) (begun w.start) steps)

  -- The machine end is done, all is as the direct machine leaves it, and nothing is in flight.
  abbrev pub IsOver : WorldValue M S → Type 0
  IsOver w = all.IsEnd k d packet_codec w.start.plan w.start.master w.start.ports w.now
      × all.IsDelivered k d packet_codec w.start.plan w.start.master w.start.ports w.now

  -- When the machine end is about to send on a port, at most one packet of the port's device end is not taken yet.
  abbrev pub HasRoom : WorldValue M S → Type 0
  HasRoom w = (next : Hub M) (p : ℕ) (bytes : List ℕ)
      → (star k d).hub_turn w.now.hub (hub_received w.now) ≡ Some (next, Some (p, bytes))
      → all.IsOneAtMost k d packet_codec w.start.plan w.start.master w.start.ports
      (all.untaken k d packet_codec w.start.plan w.start.master w.start.ports w.now p)

  -- What holds of a world whatever steps led there: the bytes sent are a beginning of the traffic of the direct
  -- machine, and the calls of its calls; no end has a fault; some step changes something, or all is as the direct
  -- machine leaves it; and no more steps changed something than there can.
  pub record IsOnItsWay (w : WorldValue M S) : Type 0 where
    pub out : (p : ℕ) (x : Side × S) → slice_get w.start.ports p ≡ Some x
        → IsPrefix (link w.now p).out
        (all.bytes_out k d packet_codec w.start.plan w.start.master w.start.ports p x)
    pub back : (p : ℕ) (x : Side × S) → slice_get w.start.ports p ≡ Some x
        → IsPrefix (link w.now p).back
        (all.bytes_back k d packet_codec w.start.plan w.start.master w.start.ports p x)
    pub calls : IsPrefix w.now.hub.core.calls
        (all.directly k d packet_codec w.start.plan w.start.master w.start.ports).calls
    pub sound : w.now.hub.core.fault ≡ None
    pub device_calls : (p : ℕ) (l : Leaf S) → slice_get w.now.leaves p ≡ Some l
        → IsPrefix l.core.calls
        (of_port p (all.directly k d packet_codec w.start.plan w.start.master w.start.ports).calls)
    pub device_sound : (p : ℕ) (l : Leaf S) → slice_get w.now.leaves p ≡ Some l → l.core.fault ≡ None
    pub goes_on : all.IsEnd k d packet_codec w.start.plan w.start.master w.start.ports w.now
        ⊎ ((s : StarStep) × (star_effective (star k d) w.now s ≡ true))
    pub room : HasRoom w
    pub few : w.effective ≤ all.most_steps k d packet_codec w.start.plan w.start.master w.start.ports

  -- These steps led from one world to another, and the machine end was not done before any of them.
  pub record HasTaken (old new : WorldValue M S) (steps : List Step) : Type 0 where
    pub now : new.now ≡ star_all (star k d) old.now (map star_step steps)
    pub effective :
        new.effective ≡ counted (old.effective + star_effective_steps (star k d) old.now (map star_step steps))
    pub start : new.start ≡ old.start
    pub unfinished : (front : List Step) (step : Step) (back : List Step) → steps ≡ front ++ step ∷ back
        → (star_all (star k d) old.now (map star_step front)).hub.core.phase ≡ Done → ⊥

  -- Steps that a schedule begins with were taken so.
  abbrev pub IsRun : Schedule → WorldValue M S → WorldValue M S → Type 0
  IsRun schedule old new =
      (steps : List Step) × BeginsWith schedule (length old.start.ports) steps × HasTaken old new steps

  -- Under the schedule the world that begins so comes to its end by so many steps that change something, and no sooner.
  abbrev pub EndsAfter : Schedule → Start M S → ℕ → Type 0
  EndsAfter schedule s n = (w : WorldValue M S) × IsRun schedule (fresh_world s) w
      × (w.now.hub.core.phase ≡ Done) × (w.effective ≡ n)

  -- A beginning of a list was taken so: all of it, or up to where the machine end is done, or memory ran out.
  abbrev pub TakesOf : List Step → WorldValue M S → WorldValue M S → Result Unit NoMemory → Type 0
  TakesOf list old new result =
      (steps : List Step) × (rest : List Step) × (list ≡ steps ++ rest) × HasTaken old new steps
      × OnOk result ((rest ≡ []) ⊎ (new.now.hub.core.phase ≡ Done))

  -- Steps that a course gives were taken: at least one, up to where the course is; or, where memory ran out, some that it
  -- gave from its start on.
  abbrev pub TakesNext :
      Course → Course → WorldValue M S → WorldValue M S → Result Bool NoMemory → Type 0
  TakesNext from to old new (Ok quiet) =
      (steps : List Step) × (1 ≤ length steps) × GivesAll from steps to × HasTaken old new steps
  TakesNext from to old new (Err e) =
      (steps : List Step) × (mid : Course) × GivesAll from steps mid × HasTaken old new steps
