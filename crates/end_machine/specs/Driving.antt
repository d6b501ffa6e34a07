-- What driving a machine end over its links leaves: what was sent for what was received, how the counts of faults
-- moved, whom a fault blames, which fault is kept, and how it ends over honest links.
use Rattle.std.specs.Prelude.{◌≡◌, ℕ, ◌<◌, Bool, true, false, nat_eq, List, length, get_or, map, Option, Some, None}
use Rattle.std.specs.Prelude.{option_map, Result, Ok, Err, slice_get}
use Rattle.byte_streams.specs.Prefixes.{IsPrefix}
use Rattle.process_network.specs.Network.{Streams}
use Rattle.process_network.specs.TellingLinks.{IsFixed}
use Rattle.cos_base.specs.Counts.{Rises}
use Rattle.cos_base.specs.Links.{IsFresh, Wire}
use Rattle.cosim_model.specs.declared.session.EndFault.{EndFault}
use Rattle.cosim_model.specs.declared.session.EndFault.TheVariants as fault
use Rattle.cosim_model.specs.declared.values.Plan.{Plan}
use Rattle.cosim_model.specs.Parts.{DeviceModel, MasterModel}
use Rattle.ends_model.specs.declared.ends.Phase.TheVariants.{Done}
use Rattle.ends_model.specs.MachineTurn.{MachineEnd}
use Rattle.ends_model.specs.World.{Fit, Side, machine_start}
use Rattle.every_schedule.specs.Schedules.{IsHonest, directly}
use Rattle.rp_packet.specs.declared.fault.Cause.{Cause}
use Rattle.rp_packet.specs.declared.fault.PacketFault.{PacketFault}
use Rattle.rp_packet.specs.Streams.{packet_codec}
use Rattle.machine_turns.specs.declared.fault.PortFault.{PortFault}
use Rattle.machine_turns.specs.declared.fault.TurnFault.{TurnFault}
use Rattle.machine_turns.specs.declared.fault.TurnFault.TheVariants as turn_fault
use Rattle.machine_turns.specs.Ends.{End, fresh}
use Rattle.machine_turns.specs.Runs.{IsRun, IsWholeRun, Rests, Taking}
use Rattle.end_machine.specs.Talk.{EndsSo, HasParts, IfLink}
use Rattle.end_machine.specs.Wires.{AllTell, Said, received_on, said_on, sent_on}

-- an end with so many ports that has taken no turn and received nothing
abbrev pub IsFreshEnd : {M : Type 0} → ℕ → End M → Type 0
IsFreshEnd n e = e ≡ fresh (machine_start Cause e.clear.master n e.clear.plan) n

-- nothing was sent or received on the links that tell
abbrev pub AllFresh : List (Option Wire) → Type 0
AllFresh told = (p : ℕ) (w : Wire) → slice_get told p ≡ Some (Some w) → IsFresh w

-- this holds of what the links tell, where all do
abbrev pub WhereTold : List (Option Wire) → (List Wire → Type 0) → Type 0
WhereTold told P = (ws : List Wire) → AllTell told ws → P ws

-- at the end of the stream of an awaited port all was received that its link says for what was sent
abbrev pub IsAllReadBy : Said → Streams → Streams → ℕ → EndFault PacketFault → Type 0
IsAllReadBy said received sent p (fault.Ended taken) = received p ≡ said p (sent p)
IsAllReadBy said received sent p (fault.Truncated start held) = received p ≡ said p (sent p)
IsAllReadBy said received sent p f = Unit {0}

abbrev pub IsAllRead : Said → Streams → Streams → Result Unit TurnFault → Type 0
IsAllRead said received sent (Err (turn_fault.Port f)) = IsAllReadBy said received sent f.port f.fault
IsAllRead said received sent (Err turn_fault.NoMemory) = Unit {0}
IsAllRead said received sent (Ok u) = Unit {0}

-- Whatever bytes Talk comes to rest with, these are a beginning of them.
abbrev pub IsInTime : {M : Type 0} → MasterModel M → MachineEnd M Cause → ℕ → Said → Streams → Type 0
IsInTime {M} k start ports said received =
    (x : Streams) (turns : ℕ) (h : Taking M) (sent : Streams) → IsRun k start ports x turns h sent → Rests k h x
    → IsFixed said x sent → (p : ℕ) → IsPrefix (received p) (x p)

-- All links still tell. Every turn was taken over what was received, what they send was sent, and the end ends so.
pub record IsDriven {M : Type 0} (k : MasterModel M) (start : MachineEnd M Cause) (said : Said)
    (e : MachineEnd M Cause) (r : Result Unit TurnFault) (ns : List Wire) : Type 0 where
  pub same : (p : ℕ) → said_on ns p ≡ said p
  pub hub : Taking M
  pub whole : IsWholeRun k start (length ns) (received_on ns) hub (sent_on ns)
  pub ends : EndsSo k hub (received_on ns) r
  pub parts : HasParts e hub
  pub all : IsAllRead said (received_on ns) (sent_on ns) r
  pub in_time : IsInTime k start (length ns) said (received_on ns)

-- What was sent on each link that still tells is a beginning of what a run sends over what was received.
pub record IsPartly {M : Type 0} (k : MasterModel M) (start : MachineEnd M Cause) (now : List (Option Wire))
    : Type 0 where
  pub received : Streams
  pub turns : ℕ
  pub hub : Taking M
  pub sent : Streams
  pub run : IsRun k start (length now) received turns hub sent
  pub links :
      (p : ℕ) (n : Wire) → slice_get now p ≡ Some (Some n)
      → (n.received ≡ received p) × IsPrefix n.sent (sent p)

abbrev pub Tells : List (Option Wire) → (List Wire → Type 0) → Type 0
Tells now P = (ns : List Wire) × AllTell now ns × P ns

-- What an answer leaves of links that all told at first.
abbrev pub Leaves :
    {M : Type 0} → MasterModel M → MachineEnd M Cause → Said → MachineEnd M Cause → Result Unit TurnFault
    → List (Option Wire) → Type 0
Leaves k start said e (Ok u) now = Tells now (IsDriven k start said e (Ok u))
Leaves k start said e (Err (turn_fault.Port f)) now =
    IfLink f.fault (IsPartly k start now) (Tells now (IsDriven k start said e (Err (turn_fault.Port f))))
Leaves k start said e (Err turn_fault.NoMemory) now = IsPartly k start now

-- The count of faults rose of the link that is blamed, is told, and of no other.

abbrev pub count_in : EndFault PacketFault → Option ℕ
count_in (fault.Link count) = Some count
count_in _ = None

-- the link that is blamed, with the count that is told
abbrev pub blamed : {A : Type 0} → Result A TurnFault → Option (ℕ × ℕ)
blamed (Ok a) = None
blamed (Err turn_fault.NoMemory) = None
blamed (Err (turn_fault.Port f)) = option_map (λ count. (f.port, count)) (count_in f.fault)

abbrev pub CountsIf : Bool → ℕ → ℕ → ℕ → Type 0
CountsIf true count before now = Rises before now × (count ≡ now)
CountsIf false count before now = now ≡ before

abbrev pub CountsAt : Option (ℕ × ℕ) → ℕ → ℕ → ℕ → Type 0
CountsAt None p before now = now ≡ before
CountsAt (Some b) p before now = CountsIf (nat_eq b.0 p) b.1 before now

abbrev pub DriveCounts : {A : Type 0} → List ℕ → List ℕ → Result A TurnFault → Type 0
DriveCounts before now r =
    (length now ≡ length before)
    × ((p : ℕ) → p < length before → CountsAt (blamed r) p (get_or before p 0) (get_or now p 0))

-- no link is blamed
abbrev pub NotLink : {A : Type 0} → Result A TurnFault → Type 0
NotLink r = blamed r ≡ None

-- the fault that the end keeps by what was answered
abbrev pub kept_by : {A : Type 0} → Result A TurnFault → Option PortFault
kept_by (Ok a) = None
kept_by (Err turn_fault.NoMemory) = None
kept_by (Err (turn_fault.Port f)) = Some f

-- Whatever the links tell: over some received bytes a run of the end comes to its end, and leaves its parts.
pub record HasFinished {M : Type 0} (k : MasterModel M) (start : MachineEnd M Cause) (ports : ℕ)
    (e : MachineEnd M Cause) : Type 0 where
  pub received : Streams
  pub turns : ℕ
  pub hub : Taking M
  pub sent : Streams
  pub run : IsRun k start ports received turns hub sent
  pub done : hub.core.phase ≡ Done
  pub parts : HasParts e hub

-- The master, the calls and the ticks are those of the direct machine of every_schedule.
pub record IsDirect {M S : Type 0} (k : MasterModel M) (d : DeviceModel S) (plan : Plan) (m : M)
    (xs : List (Side × S)) (e : MachineEnd M Cause) : Type 0 where
  pub master : e.master ≡ (directly k d packet_codec plan m xs).master
  pub calls : e.calls ≡ (directly k d packet_codec plan m xs).calls
  pub tick : e.tick ≡ (directly k d packet_codec plan m xs).tick

-- Over honest links there is no fault, unless memory runs out or a link fails.
abbrev pub EndsDirectly :
    {M S : Type 0} → MasterModel M → DeviceModel S → Plan → M → List (Side × S) → MachineEnd M Cause
    → Result Unit TurnFault → Type 0
EndsDirectly k d plan m xs e (Ok u) = IsDirect k d plan m xs e
EndsDirectly k d plan m xs e (Err (turn_fault.Port f)) = IfLink f.fault (Unit {0}) ⊥
EndsDirectly k d plan m xs e (Err turn_fault.NoMemory) = Unit {0}

-- Where the links are honest for fresh device ends that fit.
abbrev pub DrivesDirectly :
    {M S : Type 0} → MasterModel M → DeviceModel S → MachineEnd M Cause → MachineEnd M Cause → Result Unit TurnFault
    → List Wire → Type 0
DrivesDirectly {M} {S} k d start e r ws =
    (xs : List (Side × S)) → length xs ≡ length ws → Fit k d start.plan start.master xs
    → IsHonest k d packet_codec start.plan start.master xs (said_on ws)
    → EndsDirectly k d start.plan start.master xs e r
