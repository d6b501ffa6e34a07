-- What contracts see of a device end: its core, the fault that it keeps, and the bytes that it didn't take yet; and
-- what a call of its turn does.
use Rattle.std.specs.Prelude.{IfErr, ◌≡◌, ℕ, ◌+◌, ◌≤◌, Bool, true, false, List, [], ◌++◌, length, drop, option_map, is_none, ◌&&◌, Option, Some, None, Result, Ok, Err}
use Rattle.process_network.specs.PacketStar.{fresh_leaf}
use Rattle.cosim_model.specs.declared.session.EndFault.{EndFault}
use Rattle.cosim_model.specs.declared.session.EndFault.TheVariants as fault
use Rattle.cosim_model.specs.Packets.{Packet}
use Rattle.cosim_model.specs.Packets.Decoded.{Valid, Malformed}
use Rattle.cosim_model.specs.Parts.{DeviceModel}
use Rattle.cosim_model.specs.Streams.{HasTaken}
use Rattle.ends_model.specs.declared.ends.DeviceTurn.{DeviceTurn}
use Rattle.ends_model.specs.declared.ends.DeviceTurn.TheVariants as turn
use Rattle.ends_model.specs.Answers.{device_answer}
use Rattle.ends_model.specs.DeviceTurn.{DeviceEnd}
use Rattle.ends_model.specs.Traffic as traffic
use Rattle.cos_base.specs.Links.{Wire}
use Rattle.rp_framing.specs.Framing.{counted}
use Rattle.rp_framing.specs.Receiving.{Came, CameAll, CamePartly}
use Rattle.rp_framing.specs.declared.receiver.Pulled.{Pulled}
use Rattle.rp_framing.specs.declared.receiver.Pulled.TheVariants as pulled
use Rattle.rp_framing.specs.declared.receiver.ReceiveFault.{ReceiveFault}
use Rattle.rp_framing.specs.declared.receiver.ReceiveFault.TheVariants as receive
use Rattle.rp_packet.specs.declared.fault.Cause.{Cause}
use Rattle.rp_packet.specs.declared.fault.PacketFault.{PacketFault}
use Rattle.rp_packet.specs.Reading.{fault_at}
use Rattle.rp_packet.specs.Refusals.{first}
use Rattle.rp_packet.specs.Streams.{packet_codec}
use Rattle.end_answers.specs.Faults.{IsPlaced, cause_of}
use Rattle.device_turns.specs.Runs.{Taking, IsRun, out_device}

-- A fault as it is told, with the place of a malformed packet.
abbrev pub Fault : Type 0
Fault = EndFault PacketFault

-- what is kept, without that place
abbrev pub kept_cause : Option Fault → Option (EndFault Cause)
kept_cause kept = option_map cause_of kept

abbrev pub answer_cause : {A : Type 0} → Result A Fault → Result A (EndFault Cause)
answer_cause (Ok a) = Ok a
answer_cause (Err f) = Err (cause_of f)

-- `clear` is the device end of the definitions without its fault, and `kept` that fault. `taken` is how many bytes it
-- has taken, up to 2^64 - 1.
pub record End (S : Type 0) : Type 0 where
  pub clear : DeviceEnd S Cause
  pub kept : Option Fault
  pub taken : ℕ
  pub held : List ℕ

-- the device end of the definitions
abbrev pub core_of : {S : Type 0} → End S → DeviceEnd S Cause
core_of e = record e.clear { fault = kept_cause e.kept }

-- an end that has taken no turn and received nothing
abbrev pub fresh : {S : Type 0} → DeviceEnd S Cause → End S
fresh start = record { clear = start; kept = None; taken = 0; held = [] }

-- the turn over the bytes that it holds; none where it can't move
abbrev pub turn_of : {S : Type 0} → DeviceModel S → End S → Option (Taking S × List ℕ)
turn_of d e = traffic.device_turn d packet_codec (fresh_leaf (core_of e)) e.held

-- what a turn answers, by the packet that the held bytes begin with
abbrev pub answer_of : {S : Type 0} → DeviceModel S → End S → Result DeviceTurn (EndFault Cause)
answer_of d e = device_answer d (core_of e) (option_map (λ r. r.0) (first e.held))

-- The bytes of a packet that is taken go; those of an end that keeps a fault don't matter any more.
pub record Holds {S : Type 0} (old new : End S) (size : ℕ) : Type 0 where
  pub held : new.kept ≡ None → new.held ≡ drop size old.held
  pub taken : new.kept ≡ None → new.taken ≡ counted (old.taken + size)

-- what the turn leaves and sends, or nothing where there is none
abbrev pub Goes : {S : Type 0} → Option (Taking S × List ℕ) → End S → End S → List ℕ → List ℕ → Type 0
Goes None old new before after = (new ≡ old) × (after ≡ before)
Goes (Some r) old new before after = (core_of new ≡ r.0.core) × Holds old new r.0.taken × (after ≡ before ++ r.1)

-- What stood at the front of the held bytes, by what a turn of an end that kept no fault answered: a packet was taken;
-- a malformed one is told, which begins behind the bytes that were taken; or a packet is told that breaks a rule.
-- There is no other fault.
abbrev pub IsAtFront : ℕ → List ℕ → Result DeviceTurn Fault → Type 0
IsAtFront taken held (Ok turn.Took) = (p : Packet) × (size : ℕ) × (first held ≡ Some (Valid p, size))
IsAtFront taken held (Ok turn.Greeted) = Unit {0}
IsAtFront taken held (Ok turn.NotYet) = Unit {0}
IsAtFront taken held (Err (fault.Malformed f)) = (size : ℕ) × (first held ≡ Some (Malformed f.cause, size))
    × (f ≡ fault_at taken f.cause)
IsAtFront taken held (Err (fault.Session f)) = Unit {0}
IsAtFront taken held (Err (fault.Truncated start rest)) = ⊥
IsAtFront taken held (Err (fault.Ended count)) = ⊥
IsAtFront taken held (Err (fault.TooMuch count)) = ⊥
IsAtFront taken held (Err (fault.Link count)) = ⊥
IsAtFront taken held (Err (fault.LateWant at got)) = ⊥
IsAtFront taken held (Err (fault.Astray cmd)) = ⊥
IsAtFront taken held (Err fault.NoMemory) = ⊥

abbrev pub fault_in : {A : Type 0} → Result A Fault → Option Fault
fault_in (Ok a) = None
fault_in (Err f) = Some f

-- The call took the turn of the definitions, and answered and keeps what they say.
pub record IsTurn {S : Type 0} (d : DeviceModel S) (old new : End S) (before after : List ℕ)
    (result : Result DeviceTurn Fault) : Type 0 where
  pub answers : answer_cause result ≡ answer_of d old
  pub keeps : new.kept ≡ fault_in result
  pub goes : Goes (turn_of d old) old new before after
  pub front : old.kept ≡ None → IsAtFront old.taken old.held result
  -- with a fault nothing is sent
  pub quiet : IfErr result (λ f. after ≡ before)

-- the one fact, or the other where memory ran out

abbrev pub AtFault : Fault → Type 0 → Type 0 → Type 0
AtFault fault.NoMemory P Q = Q
AtFault (fault.Malformed f) P Q = P
AtFault (fault.Truncated start held) P Q = P
AtFault (fault.Session f) P Q = P
AtFault (fault.Ended taken) P Q = P
AtFault (fault.TooMuch taken) P Q = P
AtFault (fault.Link count) P Q = P
AtFault (fault.LateWant at got) P Q = P
AtFault (fault.Astray cmd) P Q = P

abbrev pub OrMemory : {A : Type 0} → Result A Fault → Type 0 → Type 0 → Type 0
OrMemory (Ok a) P Q = P
OrMemory (Err f) P Q = AtFault f P Q

-- A call of turn: the turn, or want of memory, and then end and output are as before.
abbrev pub Turns : {S : Type 0} → DeviceModel S → End S → End S → List ℕ → List ℕ → Result DeviceTurn Fault → Type 0
Turns d old new before after result =
    OrMemory result (IsTurn d old new before after result) ((new ≡ old) × (after ≡ before))

-- Bytes are received. Those that come after a fault are dropped.
abbrev pub FedAt : {S : Type 0} → Option Fault → List ℕ → End S → End S → Type 0
FedAt None bytes old new = new ≡ record old { held = old.held ++ bytes }
FedAt (Some f) bytes old new = new ≡ old

abbrev pub Feeds : {S : Type 0} → List ℕ → End S → End S → Type 0
Feeds bytes old new = FedAt old.kept bytes old new

-- whether a call of turn would answer otherwise than NotYet
abbrev pub moves : {E : Type 0} → Result DeviceTurn E → Bool
moves (Ok turn.NotYet) = false
moves (Ok turn.Greeted) = true
moves (Ok turn.Took) = true
moves (Err f) = true

-- An end that was fed these bytes in all, however they were cut, and whose turns sent these: it stands within the run
-- of a device end over them.
pub record HasRun {S : Type 0} (d : DeviceModel S) (start : DeviceEnd S Cause) (received sent : List ℕ) (e : End S)
    : Type 0 where
  pub turns : ℕ
  pub leaf : Taking S
  pub run : IsRun d start received turns leaf sent
  pub core : core_of e ≡ leaf.core
  pub held : e.kept ≡ None → e.held ≡ drop leaf.taken received
  pub taken : e.kept ≡ None → e.taken ≡ counted leaf.taken
  pub packets : e.kept ≡ None → HasTaken packet_codec received leaf.taken None
  pub placed : IsPlaced received e.kept

-- The run that an end stood in goes on with what a call appended.
abbrev pub GoesOn : {S : Type 0} → DeviceModel S → End S → End S → List ℕ → List ℕ → Type 0
GoesOn {S} d old new before after =
    (start : DeviceEnd S Cause) (received sent : List ℕ) → HasRun d start received sent old
    → HasRun d start received (sent ++ drop (length before) after) new

-- The run that an end stood in goes on with what it was fed.
abbrev pub RunsOn : {S : Type 0} → DeviceModel S → List ℕ → End S → End S → Type 0
RunsOn {S} d bytes old new =
    (start : DeviceEnd S Cause) (received sent : List ℕ) → HasRun d start received sent old
    → HasRun d start (received ++ bytes) sent new

-- The end has sent all that one sends for what it was fed.
abbrev pub HasSentAll : {S : Type 0} → DeviceModel S → End S → Type 0
HasSentAll {S} d e =
    (start : DeviceEnd S Cause) (received sent : List ℕ) → HasRun d start received sent e
    → sent ≡ out_device d start received

-- where the end can't move, all was sent
abbrev pub SendsAll : {S : Type 0} → DeviceModel S → Result DeviceTurn Fault → End S → Type 0
SendsAll d (Ok turn.NotYet) e = HasSentAll d e
SendsAll d (Ok turn.Greeted) e = Unit {0}
SendsAll d (Ok turn.Took) e = Unit {0}
SendsAll d (Err f) e = AtFault f (HasSentAll d e) (Unit {0})

-- No packet is whole, and it would do nothing.
abbrev pub IsWaiting : {S : Type 0} → DeviceModel S → End S → Type 0
IsWaiting d e = answer_of d e ≡ Ok turn.NotYet

-- An input may end here: the hello came, nothing that was asked awaits its answer, and no sync is open.
abbrev pub is_clean : {S : Type 0} → DeviceEnd S Cause → Bool
is_clean e = e.session.hello_came && (is_none e.own && is_none e.open_sync)

-- the fault kept after another one; want of memory is kept by none
abbrev pub kept_after : Option Fault → Fault → Option Fault
kept_after kept fault.NoMemory = kept
kept_after kept (fault.Malformed f) = Some (fault.Malformed f)
kept_after kept (fault.Truncated start held) = Some (fault.Truncated start held)
kept_after kept (fault.Session f) = Some (fault.Session f)
kept_after kept (fault.Ended taken) = Some (fault.Ended taken)
kept_after kept (fault.TooMuch taken) = Some (fault.TooMuch taken)
kept_after kept (fault.Link count) = Some (fault.Link count)
kept_after kept (fault.LateWant at got) = Some (fault.LateWant at got)
kept_after kept (fault.Astray cmd) = Some (fault.Astray cmd)

-- What one read did to an end that waits, by what it answered.
abbrev pub Pulls : {S : Type 0} → Option Wire → Option Wire → End S → End S → Result Pulled ReceiveFault → Type 0
Pulls was now old new (Ok pulled.More) = (piece : List ℕ) × (1 ≤ length piece) × (length piece ≤ 4096)
    × Came was now piece × (new ≡ record old { held = old.held ++ piece })
Pulls was now old new (Ok pulled.End) = CameAll was now [] × (new ≡ old)
Pulls was now old new (Err (receive.Link count)) = CamePartly was now [] × (new ≡ old)
Pulls was now old new (Err receive.NoMemory) = CamePartly was now [] × (new ≡ old)
Pulls was now old new (Err (receive.Malformed f)) = ⊥
Pulls was now old new (Err (receive.Truncated rest)) = ⊥
