-- The ends of a world as a star: the machine end is the hub, and the device end of a port is a leaf.
use Rattle.std.specs.Prelude.{◌≡◌, ℕ, zero, suc, ◌<◌, ◌≤◌, Bool, true, false, ◌||◌, List, [], ◌++◌, length, take, drop, map, get_or, set, slice_get, Option, Some, None, IsSome, Result, Ok, Err}
use Rattle.cos_base.specs.declared.no_memory.NoMemory.{NoMemory}
use Rattle.process_network.specs.PacketStar.{HubEnd, LeafEnd, fresh_hub, fresh_leaf, star_of}
use Rattle.process_network.specs.Star.{Link, Star, StarStep, StarWorld, hub_received, leaf_received, leaf_turn_of}
use Rattle.process_network.specs.Star.{new_link, star_after, star_all, star_effective, star_start}
use Rattle.process_network.specs.Star.StarStep.{HubTurn, LeafTurn, DeliverOut, DeliverBack}
use Rattle.cosim_model.specs.Parts.{DeviceModel, MasterModel}
use Rattle.ends_model.specs.declared.ends.Phase.TheVariants.{Done}
use Rattle.ends_model.specs.declared.ends.Turn.{Turn}
use Rattle.ends_model.specs.declared.ends.Turn.TheVariants as turn
use Rattle.cosim_model.specs.Packets.{Decoded}
use Rattle.ends_model.specs.Answers.{machine_answer}
use Rattle.ends_model.specs.DeviceTurn.{DeviceEnd}
use Rattle.ends_model.specs.MachineTurn.{MachineEnd}
use Rattle.ends_model.specs.World.{ends}
use Rattle.rp_packet.specs.declared.fault.Cause.{Cause}
use Rattle.rp_packet.specs.Streams.{packet_codec}
use Rattle.device_turns.specs.Ends.{End as DeviceTurns, core_of as device_core}
use Rattle.machine_turns.specs.Ends.{End, Received, core_of}
use Rattle.cos_schedules.specs.declared.step.Step.{Step}
use Rattle.cos_schedules.specs.declared.step.Way.{Way}
use Rattle.cos_schedules.specs.declared.step.Way.TheVariants.{Out, Back}
use Rattle.cos_schedules.specs.Courses.{is_machine}
use Rattle.cos_schedules.specs.Stars.{star_step}
use Rattle.world.specs.Seats.{SeatValue, leaf_of}

abbrev pub Hub : Type 0 → Type 0
Hub M = HubEnd (MachineEnd M Cause)

abbrev pub Leaf : Type 0 → Type 0
Leaf S = LeafEnd (DeviceEnd S Cause)

-- a world of such ends
abbrev pub Ends : Type 0 → Type 0 → Type 0
Ends M S = StarWorld (Hub M) (Leaf S)

-- the machine end as the hub
abbrev pub hub_of : {M : Type 0} → End M → Hub M
hub_of e = record { core = core_of e; taken = map (λ (r : Received). r.taken) e.ports }

abbrev pub ends_of : {M S : Type 0} → End M → List (SeatValue S) → Ends M S
ends_of e seats = record {
  hub = hub_of e;
  leaves = map (λ s. leaf_of s.end) seats;
  links = map (λ s. s.link) seats;
}

-- What the machine end has of a port: no more was taken than was delivered, no more was delivered than was sent, and
-- what it holds was delivered and not taken.
pub record IsHeard (k : Link) (r : Received) : Type 0 where
  pub taken : r.taken ≤ k.back_delivered
  pub small : k.back_delivered ≤ 18446744073709551615
  pub fits : k.back_delivered ≤ length k.back
  pub holds : r.held ≡ drop r.taken (take k.back_delivered k.back)

abbrev pub nothing_received : Received
nothing_received = record { taken = 0; held = [] }

-- Between calls no fault is kept, and what it has of each port is as told.
pub record IsHub {M : Type 0} (e : End M) (links : List Link) : Type 0 where
  pub clear : e.kept ≡ None
  pub size : length e.ports ≡ length links
  pub heard : (p : ℕ) → IsHeard (get_or links p new_link) (get_or e.ports p nothing_received)

module _ {M S : Type 0} (k : MasterModel M) (d : DeviceModel S) where
  abbrev pub star : Star (Hub M) (Leaf S)
  star = star_of (ends k d packet_codec)

  -- No turn that can be taken meets a fault.
  pub record IsSound (w : Ends M S) : Type 0 where
    pub hub : (r : Hub M × Option (ℕ × List ℕ)) → star.hub_turn w.hub (hub_received w) ≡ Some r → r.0.core.fault ≡ None
    pub leaf :
        (p : ℕ) (r : Leaf S × List ℕ) → leaf_turn_of star (slice_get w.leaves p) (leaf_received w p) ≡ Some r
        → r.0.core.fault ≡ None

  -- A step is taken. The Boolean says whether it changed anything.
  pub record IsMoved (old new : Ends M S) (step : StarStep) (moved : Bool) : Type 0 where
    pub new_is : new ≡ star_after star old step
    pub moved_is : moved ≡ star_effective star old step

-- The next turn has an answer, whatever packets come next: the machine end is one to which runs come.
abbrev pub HasAnswer : {M : Type 0} → MasterModel M → MachineEnd M Cause → Type 0
HasAnswer k h = (whole : ℕ → Option (Decoded Cause)) → IsSome (machine_answer k h whole)

-- What a turn of the machine end appends to the links, by what it answers.
abbrev pub sent_links : List Link → Turn → List ℕ → List Link
sent_links links (turn.Sent p) bytes =
    set links p (record (get_or links p new_link) { out = (get_or links p new_link).out ++ bytes })
sent_links links turn.Unit bytes = links
sent_links links (turn.Took p) bytes = links
sent_links links (turn.Served p) bytes = links
sent_links links turn.Marked bytes = links
sent_links links (turn.NotYet p) bytes = links
sent_links links turn.Done bytes = links

-- a port that is sent to is there, and the bytes have room
abbrev pub IsSendable : ℕ → Turn → List ℕ → Type 0
IsSendable ports (turn.Sent p) bytes = (p < ports) × (length bytes ≤ 4176)
IsSendable ports turn.Unit bytes = Unit {0}
IsSendable ports (turn.Took p) bytes = Unit {0}
IsSendable ports (turn.Served p) bytes = Unit {0}
IsSendable ports turn.Marked bytes = Unit {0}
IsSendable ports (turn.NotYet p) bytes = Unit {0}
IsSendable ports turn.Done bytes = Unit {0}

-- whether the end moved
abbrev pub is_move : Turn → Bool
is_move (turn.Sent p) = true
is_move turn.Unit = true
is_move (turn.Took p) = true
is_move (turn.Served p) = true
is_move turn.Marked = true
is_move (turn.NotYet p) = false
is_move turn.Done = false

-- whether it sent something
abbrev pub is_sending : Turn → Bool
is_sending (turn.Sent p) = true
is_sending turn.Unit = false
is_sending (turn.Took p) = false
is_sending (turn.Served p) = false
is_sending turn.Marked = false
is_sending (turn.NotYet p) = false
is_sending turn.Done = false

module _ {M S : Type 0} (k : MasterModel M) (d : DeviceModel S) where
  -- No turn meets a fault, wherever steps lead from here.
  abbrev pub StaysSound : Ends M S → Type 0
  StaysSound w = (steps : List StarStep) → IsSound k d (star_all (star k d) w steps)

  -- No delivery and no turn of a device end would change anything.
  abbrev pub IsQuiet : Ends M S → Type 0
  IsQuiet w = (step : Step) → is_machine step ≡ false → star_effective (star k d) w (star_step step) ≡ false

  -- A delivery of a port, or the turn of its device end, would change something.
  abbrev pub is_busy : Ends M S → ℕ → Bool
  is_busy w p =
      (star_effective (star k d) w (DeliverOut p 1) || star_effective (star k d) w (LeafTurn p))
      || star_effective (star k d) w (DeliverBack p 1)

  -- A turn of the machine end, which changes it alone, and behind which it goes on.
  pub record IsUnit (old new : Ends M S) : Type 0 where
    pub moved : IsMoved k d old new HubTurn true
    pub leaves : new.leaves ≡ old.leaves
    pub links : new.links ≡ old.links
    pub going : new.hub.core.phase ≡ Done → ⊥

  -- so many of them
  abbrev pub HasWorked : ℕ → Ends M S → Ends M S → Type 0
  HasWorked zero old new = new ≡ old
  HasWorked (suc units) old new = (mid : Ends M S) × IsUnit old mid × HasWorked units mid new

  -- a turn of the machine end that answered this
  pub record IsTaken (old new : Ends M S) (t : Turn) : Type 0 where
    pub moved : IsMoved k d old new HubTurn (is_move t)
    pub leaves : new.leaves ≡ old.leaves
    pub links : is_sending t ≡ false → new.links ≡ old.links

  abbrev pub TurnsOnce : Ends M S → Ends M S → Result Turn NoMemory → Type 0
  TurnsOnce old new (Ok t) = IsTaken old new t
  TurnsOnce old new (Err e) = new ≡ old

  -- So many local units of the machine end, and then its turn, or want of memory.
  pub record Advances (units : ℕ) (old new : Ends M S) (r : Result Turn NoMemory) : Type 0 where
    pub mid : Ends M S
    pub worked : HasWorked units old mid
    pub turns : TurnsOnce mid new r

-- what was sent on a link that way
abbrev pub sent_on : Way → Link → List ℕ
sent_on Out k = k.out
sent_on Back k = k.back

-- Each of the first n has room for what a turn sends.
abbrev pub HaveRoom : {S : Type 0} → ℕ → List (SeatValue S) → Type 0
HaveRoom {S} n seats = (q : ℕ) (s : SeatValue S) → q < n → 4176 ≤ (get_or seats q s).room

-- The ends before anything was sent.
abbrev pub unsent : {M S : Type 0} → End M → List (DeviceTurns S) → Ends M S
unsent {M} {S} e es =
    star_start (fresh_hub (core_of e) (length es)) (map (λ (x : DeviceTurns S). fresh_leaf (device_core x)) es)
