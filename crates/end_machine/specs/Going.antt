-- What holds between the calls that drive makes: how far the links and the end have come together.
use Rattle.std.specs.Prelude.{◌≡◌, ℕ, ◌≤◌, List, [], ◌++◌, length, Option, Some, None, Result, Ok, Err}
use Rattle.std.specs.Prelude.{set, slice_get}
use Rattle.byte_streams.specs.Prefixes.{IsPrefix}
use Rattle.process_network.specs.Network.{Streams}
use Rattle.process_network.specs.TellingLinks.{IsTelling}
use Rattle.cos_base.specs.Links.{Wire}
use Rattle.cosim_model.specs.declared.session.EndFault.{EndFault}
use Rattle.cosim_model.specs.declared.session.EndFault.TheVariants as fault
use Rattle.cosim_model.specs.declared.values.Plan.{Plan}
use Rattle.cosim_model.specs.Parts.{MasterModel}
use Rattle.ends_model.specs.declared.ends.Turn.{Turn}
use Rattle.ends_model.specs.declared.ends.Turn.TheVariants as turn
use Rattle.ends_model.specs.MachineTurn.{MachineEnd, machine_acts}
use Rattle.ends_model.specs.World.{machine_start}
use Rattle.rp_framing.specs.declared.receiver.Pulled.{Pulled}
use Rattle.rp_framing.specs.declared.receiver.Pulled.TheVariants as pulled
use Rattle.rp_packet.specs.declared.fault.Cause.{Cause}
use Rattle.rp_packet.specs.declared.fault.PacketFault.{PacketFault}
use Rattle.machine_turns.specs.declared.fault.PortFault.{PortFault}
use Rattle.machine_turns.specs.declared.fault.TurnFault.{TurnFault}
use Rattle.machine_turns.specs.declared.fault.TurnFault.TheVariants as turn_fault
use Rattle.machine_turns.specs.Runs.{only_at}
use Rattle.machine_core.specs.Machines.{awaited}
use Rattle.machine_turns.specs.Ends.{Advances, End, HasRun, core_of, fed_at, held_at, taken_at}
use Rattle.end_machine.specs.declared.driving.Need.{Need}
use Rattle.end_machine.specs.declared.driving.Need.TheVariants as need
use Rattle.end_machine.specs.Wires.{AllTell, Said, received_on, said_on, sent_on}
use Rattle.end_machine.specs.Talk.{IfLink}
use Rattle.end_machine.specs.Driving.{IsInTime, Leaves, Tells}

-- links that say this, over which the end was driven so far
pub record IsGoing {M : Type 0} (k : MasterModel M) (start : MachineEnd M Cause) (said : Said) (e : End M)
    (ns : List Wire) : Type 0 where
  pub telling : IsTelling said
  pub same : (p : ℕ) → said_on ns p ≡ said p
  pub run : HasRun k start (length ns) (received_on ns) (sent_on ns) e
  pub in_time : IsInTime k start (length ns) said (received_on ns)

abbrev pub Going : {M : Type 0} → MasterModel M → MachineEnd M Cause → Said → End M → List (Option Wire) → Type 0
Going k start said e now = Tells now (IsGoing k start said e)

-- what an answer leaves: links that go on, or what the fault leaves
abbrev pub Settles :
    {M A : Type 0} → MasterModel M → MachineEnd M Cause → Said → End M → List (Option Wire) → Result A TurnFault
    → Type 0
Settles k start said e now (Ok a) = Going k start said e now
Settles k start said e now (Err f) = Leaves k start said e.clear (Err f) now

-- all that the link of this port says was received
pub record IsAtEnd {M : Type 0} (k : MasterModel M) (start : MachineEnd M Cause) (said : Said) (p : ℕ) (e : End M)
    (ns : List Wire) : Type 0 where
  pub going : IsGoing k start said e ns
  pub all : received_on ns p ≡ said p (sent_on ns p)

-- what reading leaves: links that go on, or all of this port's was read
abbrev pub ReadsOn :
    {M : Type 0} → MasterModel M → MachineEnd M Cause → Said → ℕ → End M → List (Option Wire)
    → Result Pulled TurnFault → Type 0
ReadsOn k start said p e now (Ok pulled.More) = Going k start said e now
ReadsOn k start said p e now (Ok pulled.End) = Tells now (IsAtEnd k start said p e)
ReadsOn k start said p e now (Err f) = Leaves k start said e.clear (Err f) now

-- Links to a machine end with so many ports go on, or are left so, whatever they say and whatever end was driven.

abbrev pub KeepsGoing :
    {M A : Type 0} → MasterModel M → ℕ → End M → End M → List (Option Wire) → List (Option Wire) → Result A TurnFault
    → Type 0
KeepsGoing {M} k n old new told now r =
    (m : M) (plan : Plan) (said : Said) → Going k (machine_start Cause m n plan) said old told
    → Settles k (machine_start Cause m n plan) said new now r

abbrev pub KeepsReading :
    {M : Type 0} → MasterModel M → ℕ → ℕ → End M → End M → List (Option Wire) → List (Option Wire)
    → Result Pulled TurnFault → Type 0
KeepsReading {M} k n p old new told now r =
    (m : M) (plan : Plan) (said : Said) → Going k (machine_start Cause m n plan) said old told
    → ReadsOn k (machine_start Cause m n plan) said p new now r

-- what was sent on the link of a port: all, or after a fault a part of it
pub record AreSent (ws : List Wire) (p : ℕ) (bytes : List ℕ) (now : List (Option Wire)) : Type 0 where
  pub size : length now ≡ length ws
  pub links :
      (q : ℕ) (n : Wire) → slice_get now q ≡ Some (Some n)
      → (n.received ≡ received_on ws q) × IsPrefix n.sent (sent_on ws q ++ only_at p bytes q)

abbrev pub with_sent : List Wire → ℕ → List ℕ → Option Wire → List Wire
with_sent ws p bytes None = ws
with_sent ws p bytes (Some w) = set ws p (record w { sent = w.sent ++ bytes })

abbrev pub SendsOn : List (Option Wire) → List (Option Wire) → ℕ → List ℕ → Result Unit TurnFault → Type 0
SendsOn told now p bytes (Ok u) =
    (ws : List Wire) → AllTell told ws → AllTell now (with_sent ws p bytes (slice_get ws p))
SendsOn told now p bytes (Err f) = (ws : List Wire) → AllTell told ws → AreSent ws p bytes now

-- how the stream of an awaited port ends for an end that has taken every turn
abbrev pub FinishesBy : {M : Type 0} → End M → ℕ → EndFault PacketFault → Type 0
FinishesBy e p (fault.Ended taken) = (held_at e p ≡ []) × (taken ≡ taken_at e p)
FinishesBy e p (fault.Truncated start held) =
    (start ≡ taken_at e p) × (held ≡ length (held_at e p)) × (1 ≤ held)
FinishesBy e p f = ⊥

-- Whatever the links tell: the end stands within a run of the definitions, over some received bytes.
abbrev pub InRun : {M : Type 0} → MasterModel M → MachineEnd M Cause → ℕ → End M → Type 0
InRun k start ports e = (received : Streams) × (sent : Streams) × HasRun k start ports received sent e

-- and stays within it
abbrev pub KeepsRun : {M : Type 0} → MasterModel M → End M → End M → Type 0
KeepsRun {M} k old new = (start : MachineEnd M Cause) (ports : ℕ) → InRun k start ports old → InRun k start ports new

-- the call took local units, and then a turn that answered this
abbrev pub Turned : {M : Type 0} → MasterModel M → End M → End M → Turn → Type 0
Turned k old new t =
    (before : List ℕ) × (after : List ℕ) × (units : ℕ) × Advances k units old new before after (Ok t)

-- a fault that driving answers
abbrev pub CanCome : EndFault PacketFault → Type 0
CanCome (fault.Malformed f) = Unit {0}
CanCome (fault.Session f) = Unit {0}
CanCome (fault.LateWant at got) = Unit {0}
CanCome (fault.Ended taken) = Unit {0}
CanCome (fault.Truncated start held) = Unit {0}
CanCome (fault.Link count) = Unit {0}
CanCome (fault.TooMuch taken) = ⊥
CanCome (fault.Astray cmd) = ⊥
CanCome fault.NoMemory = ⊥

-- what the end keeps while it is driven, by what was answered
abbrev pub KeptInRun : {A : Type 0} → Result A TurnFault → Option PortFault → Type 0
KeptInRun (Ok a) kept = kept ≡ None
KeptInRun (Err turn_fault.NoMemory) kept = kept ≡ None
KeptInRun (Err (turn_fault.Port f)) kept = CanCome f.fault

-- how many bytes of the port that is awaited are held
abbrev pub waiting_at : {M : Type 0} → End M → Option ℕ → ℕ
waiting_at e None = 0
waiting_at e (Some p) = length (held_at e p)

abbrev pub waiting_bytes : {M : Type 0} → MasterModel M → End M → ℕ
waiting_bytes k e = waiting_at e (awaited (machine_acts k (core_of e)))

-- what one read did to the end
abbrev pub Fed : {M : Type 0} → ℕ → End M → End M → Result Pulled TurnFault → Type 0
Fed p old new (Ok pulled.More) = (piece : List ℕ) × (1 ≤ length piece) × (new ≡ fed_at None p piece old)
Fed p old new (Ok pulled.End) = new ≡ old
Fed p old new (Err f) = new ≡ old

-- the port that a turn sends to
abbrev pub port_of : Turn → Option ℕ
port_of (turn.Sent p) = Some p
port_of turn.Unit = None
port_of (turn.Took p) = None
port_of (turn.Served p) = None
port_of turn.Marked = None
port_of (turn.NotYet p) = None
port_of turn.Done = None

-- what an end needs after a turn
abbrev pub need_of : Turn → Need
need_of turn.Unit = need.Turn
need_of (turn.Sent p) = need.Turn
need_of (turn.Took p) = need.Turn
need_of (turn.Served p) = need.Turn
need_of turn.Marked = need.Turn
need_of (turn.NotYet p) = need.Bytes p
need_of turn.Done = need.Nothing

-- unless memory ran out, a link is blamed
abbrev pub OnlyLink : {A : Type 0} → Result A TurnFault → Type 0
OnlyLink (Ok a) = Unit {0}
OnlyLink (Err turn_fault.NoMemory) = Unit {0}
OnlyLink (Err (turn_fault.Port f)) = IfLink f.fault (Unit {0}) ⊥
