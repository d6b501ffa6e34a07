-- What contracts see of a machine end with the bytes that it received: its core, the fault that it keeps, and by port
-- the bytes that it did not take yet; and what a call of its turn does.
use Rattle.std.specs.Prelude.{◌≡◌, ℕ, ◌+◌, ◌<◌, ◌≤◌, List, [], ◌++◌, length, drop, get_or, Option, Some, None}
use Rattle.std.specs.Prelude.{zero, suc, option_map, Result, Ok, Err, set, slice_get, replicate, Bool, true, false}
use Rattle.process_network.specs.Network.{Streams}
use Rattle.process_network.specs.PacketStar.{HubEnd, hub_turn_by, fresh_hub}
use Rattle.cosim_model.specs.declared.session.EndFault.{EndFault}
use Rattle.cosim_model.specs.declared.session.EndFault.TheVariants as end_fault
use Rattle.cosim_model.specs.Packets.{Packet}
use Rattle.cosim_model.specs.Packets.Decoded.{Valid, Malformed}
use Rattle.cosim_model.specs.Parts.{MasterModel}
use Rattle.ends_model.specs.declared.ends.Turn.{Turn}
use Rattle.ends_model.specs.declared.ends.Turn.TheVariants as turn
use Rattle.ends_model.specs.Answers.{machine_answer}
use Rattle.ends_model.specs.MachineTurn.{MachineEnd, machine_outlook}
use Rattle.rp_framing.specs.Framing.{Frames, counted}
use Rattle.rp_packet.specs.declared.fault.Cause.{Cause}
use Rattle.rp_packet.specs.declared.fault.PacketFault.{PacketFault}
use Rattle.rp_packet.specs.Refusals.{first}
use Rattle.rp_packet.specs.Streams.{packet_codec}
use Rattle.cos_base.specs.Links.{Wire}
use Rattle.rp_framing.specs.Receiving.{Came, CameAll, CamePartly}
use Rattle.rp_framing.specs.declared.receiver.Pulled.{Pulled}
use Rattle.rp_framing.specs.declared.receiver.Pulled.TheVariants as pulled
use Rattle.rp_framing.specs.declared.receiver.ReceiveFault.{ReceiveFault}
use Rattle.rp_framing.specs.declared.receiver.ReceiveFault.TheVariants as receive
use Rattle.rp_packet.specs.Reading.{fault_at}
use Rattle.cosim_model.specs.Streams.{HasTaken}
use Rattle.end_answers.specs.Faults.{IsPlaced, cause_of}
use Rattle.machine_turns.specs.Runs.{Grown, IsRun, Rests, Taking, machine_alone}
use Rattle.machine_core.specs.declared.fault.HearFault.{HearFault}
use Rattle.machine_core.specs.declared.fault.HearFault.TheVariants as hear
use Rattle.machine_turns.specs.declared.fault.PortFault.{PortFault}
use Rattle.machine_turns.specs.declared.fault.TurnFault.{TurnFault}
use Rattle.machine_turns.specs.declared.fault.TurnFault.TheVariants as turn_fault

-- What came on a port: `taken` is how many bytes were taken, up to 2^64 - 1, and `held` those that were not.
pub record Received : Type 0 where
  pub taken : ℕ
  pub held : List ℕ

abbrev pub received : Frames → Received
received f = record { taken = f.taken; held = f.held }

-- no framer keeps a fault, since its end does
abbrev pub IsOpen : Frames → Type 0
IsOpen f = (f.kept ≡ None) × (f.taken ≤ 18446744073709551615)

-- `clear` is the machine end of the definitions without its fault, and `kept` that fault.
pub record End (M : Type 0) : Type 0 where
  pub clear : MachineEnd M Cause
  pub kept : Option PortFault
  pub ports : List Received

-- why a packet is not taken, as a fault of the end
abbrev pub heard_fault : HearFault → EndFault PacketFault
heard_fault (hear.Session f) = end_fault.Session f
heard_fault (hear.LateWant at got) = end_fault.LateWant at got

-- an end that has taken no turn and received nothing, with so many ports
abbrev pub fresh : {M : Type 0} → MachineEnd M Cause → ℕ → End M
fresh start n = record { clear = start; kept = None; ports = replicate n (record { taken = 0; held = [] }) }

-- a fault as the definitions have it: without the place of a malformed packet
abbrev pub port_cause : PortFault → ℕ × EndFault Cause
port_cause f = (f.port, cause_of f.fault)

-- the machine end of the definitions
abbrev pub core_of : {M : Type 0} → End M → MachineEnd M Cause
core_of e = record e.clear { fault = option_map port_cause e.kept }

abbrev pub held_of : Option Received → List ℕ
held_of None = []
held_of (Some r) = r.held

abbrev pub held_at : {M : Type 0} → End M → ℕ → List ℕ
held_at e p = held_of (slice_get e.ports p)

abbrev pub taken_in : Option Received → ℕ
taken_in None = 0
taken_in (Some r) = r.taken

abbrev pub taken_at : {M : Type 0} → End M → ℕ → ℕ
taken_at e p = taken_in (slice_get e.ports p)

-- the turn over the bytes that it holds; none where it can't move
abbrev pub turn_of :
    {M : Type 0} → MasterModel M → End M → Option (HubEnd (MachineEnd M Cause) × Option (ℕ × List ℕ))
turn_of k e =
    hub_turn_by (machine_alone k packet_codec) (fresh_hub (core_of e) (length e.ports)) (held_at e)
    (machine_outlook k (core_of e))

-- what a turn answers, by the packets that the held bytes begin with
abbrev pub answer_of : {M : Type 0} → MasterModel M → End M → Option (Result Turn (ℕ × EndFault Cause))
answer_of k e = machine_answer k (core_of e) (λ p. option_map (λ r. r.0) (first (held_at e p)))

-- whether a call of turn would answer otherwise than NotYet
abbrev pub moves : {E : Type 0} → Option (Result Turn E) → Bool
moves (Some (Ok (turn.NotYet p))) = false
moves _ = true

-- the bytes that a turn sends, whose port its answer names
abbrev pub sent_by : Option (ℕ × List ℕ) → List ℕ
sent_by None = []
sent_by (Some s) = s.1

-- so many bytes of a port are taken
abbrev pub taken_of : ℕ → Received → Received
taken_of n r = record { taken = counted (r.taken + n); held = drop n r.held }

-- The bytes of packets that are taken go; those of an end that keeps a fault don't matter any more.
abbrev pub Holds : {M : Type 0} → End M → End M → List ℕ → Type 0
Holds old new taken =
    new.kept ≡ None → (p : ℕ) → slice_get new.ports p ≡ option_map (taken_of (get_or taken p 0)) (slice_get old.ports p)

-- what the turn leaves and sends, or nothing where there is none
abbrev pub Goes :
    {M : Type 0} → Option (HubEnd (MachineEnd M Cause) × Option (ℕ × List ℕ)) → End M → End M → List ℕ → List ℕ
    → Type 0
Goes None old new before after = (new ≡ old) × (after ≡ before)
Goes (Some r) old new before after =
    (core_of new ≡ r.0.core) × Holds old new r.0.taken × (after ≡ before ++ sent_by r.1)

-- The call took the turn of the definitions, and answered and keeps what they say.
pub record IsTurn {M : Type 0} (k : MasterModel M) (old new : End M) (before after : List ℕ)
    (answer : Result Turn (ℕ × EndFault Cause)) (fault : Option PortFault) : Type 0 where
  pub answers : answer_of k old ≡ Some answer
  pub keeps : new.kept ≡ fault
  pub size : length new.ports ≡ length old.ports
  pub goes : Goes (turn_of k old) old new before after

-- A call of turn: the turn, or want of memory, and then end and output are as before.
abbrev pub Turns : {M : Type 0} → MasterModel M → End M → End M → List ℕ → List ℕ → Result Turn TurnFault → Type 0
Turns k old new before after (Ok t) = IsTurn k old new before after (Ok t) None
Turns k old new before after (Err (turn_fault.Port f)) =
    IsTurn k old new before after (Err (port_cause f)) (Some f)
Turns k old new before after (Err turn_fault.NoMemory) = (new ≡ old) × (after ≡ before)

-- so many local units, each a turn of its own that sends nothing
abbrev pub HasWorked : {M : Type 0} → MasterModel M → ℕ → End M → End M → Type 0
HasWorked k zero old new = new ≡ old
HasWorked {M} k (suc n) old new =
    (next : End M) × ((sent : List ℕ) → IsTurn k old next sent sent (Ok turn.Unit) None) × HasWorked k n next new

-- A call of advance: so many local units were taken, which take no bytes, and then a call of turn.
pub record Advances {M : Type 0} (k : MasterModel M) (units : ℕ) (old new : End M) (before after : List ℕ)
    (r : Result Turn TurnFault) : Type 0 where
  pub mid : End M
  pub worked : HasWorked k units old mid
  pub ports : mid.ports ≡ old.ports
  pub turns : Turns k mid new before after r

-- Bytes of a port are received. Those of a port that is not there, and those that come after a fault, are dropped.

abbrev pub more : List ℕ → Received → Received
more bytes r = record r { held = r.held ++ bytes }

abbrev pub put : {M : Type 0} → End M → ℕ → Option Received → End M
put e p None = e
put e p (Some r) = record e { ports = set e.ports p r }

abbrev pub fed_at : {M : Type 0} → Option PortFault → ℕ → List ℕ → End M → End M
fed_at None p bytes e = put e p (option_map (more bytes) (slice_get e.ports p))
fed_at (Some f) p bytes e = e

-- the fault kept after another one of a port; want of memory is kept by none
abbrev pub kept_after : Option PortFault → ℕ → EndFault PacketFault → Option PortFault
kept_after kept p end_fault.NoMemory = kept
kept_after kept p (end_fault.Malformed f) = Some (record { port = p; fault = end_fault.Malformed f })
kept_after kept p (end_fault.Truncated start held) = Some (record { port = p; fault = end_fault.Truncated start held })
kept_after kept p (end_fault.Session f) = Some (record { port = p; fault = end_fault.Session f })
kept_after kept p (end_fault.Ended taken) = Some (record { port = p; fault = end_fault.Ended taken })
kept_after kept p (end_fault.TooMuch taken) = Some (record { port = p; fault = end_fault.TooMuch taken })
kept_after kept p (end_fault.Link count) = Some (record { port = p; fault = end_fault.Link count })
kept_after kept p (end_fault.LateWant at got) = Some (record { port = p; fault = end_fault.LateWant at got })
kept_after kept p (end_fault.Astray cmd) = Some (record { port = p; fault = end_fault.Astray cmd })

-- What stood at the front of a port's bytes, by what a turn of an end that kept no fault answered: a packet was taken;
-- a malformed one is told, which begins behind the bytes that were taken; or a packet is told that breaks a rule, or
-- that came too late. There is no other fault. A port that is sent to or waited for is there.

abbrev pub IsBlamedAt : ℕ → List ℕ → EndFault PacketFault → Type 0
IsBlamedAt taken held (end_fault.Malformed f) =
    (size : ℕ) × (first held ≡ Some (Malformed f.cause, size)) × (f ≡ fault_at taken f.cause)
IsBlamedAt taken held (end_fault.Session f) = Unit {0}
IsBlamedAt taken held (end_fault.LateWant at got) = Unit {0}
IsBlamedAt taken held (end_fault.Truncated start rest) = ⊥
IsBlamedAt taken held (end_fault.Ended count) = ⊥
IsBlamedAt taken held (end_fault.TooMuch count) = ⊥
IsBlamedAt taken held (end_fault.Link count) = ⊥
IsBlamedAt taken held (end_fault.Astray cmd) = ⊥
IsBlamedAt taken held end_fault.NoMemory = ⊥

abbrev pub IsAtFront : {M : Type 0} → End M → Result Turn TurnFault → Type 0
IsAtFront e (Ok (turn.Took p)) = (m : Packet) × (size : ℕ) × (first (held_at e p) ≡ Some (Valid m, size))
IsAtFront e (Ok turn.Unit) = Unit {0}
IsAtFront e (Ok (turn.Sent p)) = p < length e.ports
IsAtFront e (Ok (turn.Served p)) = Unit {0}
IsAtFront e (Ok turn.Marked) = Unit {0}
IsAtFront e (Ok (turn.NotYet p)) = p < length e.ports
IsAtFront e (Ok turn.Done) = Unit {0}
IsAtFront e (Err (turn_fault.Port f)) = IsBlamedAt (taken_at e f.port) (held_at e f.port) f.fault
IsAtFront e (Err turn_fault.NoMemory) = Unit {0}

-- A malformed packet that an end tells stands behind packets of its port, at the place that is told.
abbrev pub IsPlacedAt : Streams → Option PortFault → Type 0
IsPlacedAt received None = Unit {0}
IsPlacedAt received (Some f) = IsPlaced (received f.port) (Some f.fault)

-- An end that was fed these bytes by port, however they were cut, and whose turns sent these: it stands within the run
-- of a machine end over them.
pub record HasRun {M : Type 0} (k : MasterModel M) (start : MachineEnd M Cause) (ports : ℕ) (received sent : Streams)
    (e : End M) : Type 0 where
  pub turns : ℕ
  pub hub : Taking M
  pub run : IsRun k start ports received turns hub sent
  pub core : core_of e ≡ hub.core
  pub size : length e.ports ≡ ports
  pub held : e.kept ≡ None → (p : ℕ) → p < ports → held_at e p ≡ drop (get_or hub.taken p 0) (received p)
  pub taken : e.kept ≡ None → (p : ℕ) → p < ports → taken_at e p ≡ counted (get_or hub.taken p 0)
  pub packets : e.kept ≡ None → (p : ℕ) → HasTaken packet_codec (received p) (get_or hub.taken p 0) None
  pub placed : IsPlacedAt received e.kept

-- The run that an end stood in goes on with what it was fed.
abbrev pub RunsOn : {M : Type 0} → MasterModel M → ℕ → List ℕ → End M → End M → Type 0
RunsOn {M} k p bytes old new =
    (start : MachineEnd M Cause) (ports : ℕ) (received more sent : Streams) → Grown p bytes received more
    → HasRun k start ports received sent old → HasRun k start ports more sent new

-- what a call of turn appended goes to the port that it names
abbrev pub Sends : Result Turn TurnFault → List ℕ → List ℕ → Streams → Streams → Type 0
Sends (Ok (turn.Sent p)) before after sent later = Grown p (drop (length before) after) sent later
Sends (Ok turn.Unit) before after sent later = (q : ℕ) → later q ≡ sent q
Sends (Ok (turn.Took p)) before after sent later = (q : ℕ) → later q ≡ sent q
Sends (Ok (turn.Served p)) before after sent later = (q : ℕ) → later q ≡ sent q
Sends (Ok turn.Marked) before after sent later = (q : ℕ) → later q ≡ sent q
Sends (Ok (turn.NotYet p)) before after sent later = (q : ℕ) → later q ≡ sent q
Sends (Ok turn.Done) before after sent later = (q : ℕ) → later q ≡ sent q
Sends (Err f) before after sent later = (q : ℕ) → later q ≡ sent q

-- The run that an end stood in goes on with what a call of turn sent.
abbrev pub GoesOn : {M : Type 0} → MasterModel M → End M → End M → List ℕ → List ℕ → Result Turn TurnFault → Type 0
GoesOn {M} k old new before after answer =
    (start : MachineEnd M Cause) (ports : ℕ) (received sent later : Streams) → Sends answer before after sent later
    → HasRun k start ports received sent old → HasRun k start ports received later new

-- Whatever run it stands in is whole: the end can take no more turns over what it was fed.
abbrev pub IsAtRest : {M : Type 0} → MasterModel M → End M → Type 0
IsAtRest {M} k e =
    (start : MachineEnd M Cause) (ports : ℕ) (received sent : Streams) (run : HasRun k start ports received sent e)
    → Rests k run.hub received

-- where the end can't move, it has taken every turn
abbrev pub SendsAll : {M : Type 0} → MasterModel M → Result Turn TurnFault → End M → Type 0
SendsAll k (Ok (turn.NotYet p)) e = IsAtRest k e
SendsAll k (Ok turn.Done) e = IsAtRest k e
SendsAll k (Ok turn.Unit) e = Unit {0}
SendsAll k (Ok (turn.Sent p)) e = Unit {0}
SendsAll k (Ok (turn.Took p)) e = Unit {0}
SendsAll k (Ok (turn.Served p)) e = Unit {0}
SendsAll k (Ok turn.Marked) e = Unit {0}
SendsAll k (Err (turn_fault.Port f)) e = IsAtRest k e
SendsAll k (Err turn_fault.NoMemory) e = Unit {0}

-- It waits for a packet of this port, none is whole, and it would do nothing.
abbrev pub IsWaiting : {M : Type 0} → MasterModel M → ℕ → End M → Type 0
IsWaiting k p e = answer_of k e ≡ Some (Ok (turn.NotYet p))

-- What one read of port p did to an end that waits, by what it answered.
abbrev pub Pulls :
    {M : Type 0} → Option Wire → Option Wire → ℕ → End M → End M → Result Pulled ReceiveFault → Type 0
Pulls was now p old new (Ok pulled.More) = (piece : List ℕ) × (1 ≤ length piece) × (length piece ≤ 4096)
    × Came was now piece × (new ≡ fed_at None p piece old)
Pulls was now p old new (Ok pulled.End) = CameAll was now [] × (new ≡ old)
Pulls was now p old new (Err (receive.Link count)) = CamePartly was now [] × (new ≡ old)
Pulls was now p old new (Err receive.NoMemory) = CamePartly was now [] × (new ≡ old)
Pulls was now p old new (Err (receive.Malformed f)) = ⊥
Pulls was now p old new (Err (receive.Truncated rest)) = ⊥
