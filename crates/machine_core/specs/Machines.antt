-- A machine end without the bytes that it receives: the machine end of the definitions, which keeps no fault here.
use Rattle.std.specs.Prelude.{◌≡◌, ℕ, ◌<◌, ◌≤◌, Bool, true, false, nat_lt, List, ◌++◌, length, map, Option, Some, None}
use Rattle.std.specs.Prelude.{is_some, slice_get, Result, Ok, Err}
use Rattle.cos_base.specs.declared.no_memory.NoMemory.{NoMemory}
use Rattle.cosim_model.specs.declared.session.EndFault.TheVariants as end_fault
use Rattle.cosim_model.specs.declared.session.OwnRequest.{OwnRequest}
use Rattle.cosim_model.specs.declared.session.Event.{Event}
use Rattle.cosim_model.specs.declared.session.Event.TheVariants as event
use Rattle.cosim_model.specs.declared.session.SessionFault.{SessionFault}
use Rattle.cosim_model.specs.declared.values.Access.{Access}
use Rattle.cosim_model.specs.Packets.{Packet, is_response}
use Rattle.cosim_model.specs.Packets.Decoded.{Valid}
use Rattle.cosim_model.specs.Parts.{MasterModel}
use Rattle.cosim_model.specs.Values.{all_on}
use Rattle.ends_model.specs.declared.ends.Phase.{Phase}
use Rattle.ends_model.specs.declared.ends.Phase.TheVariants.{Greet, Meet, Run, AnswerFrom, SyncTo, Gather, Done}
use Rattle.ends_model.specs.declared.ends.Turn.{Turn}
use Rattle.ends_model.specs.declared.ends.Turn.TheVariants as turn
use Rattle.ends_model.specs.MachineTurn.{PortEnd, MachineEnd, Act, machine_acts, machine_takes, is_clear, is_last}
use Rattle.ends_model.specs.MachineTurn.{answered, hold_request, met, time_of}
use Rattle.ends_model.specs.MachineTurn.Act.{Works, Sends, Awaits, Serves, Marks, Rests, Fails, Lost}
use Rattle.rp_packet.specs.declared.fault.Cause.{Cause}
use Rattle.rp_packet.specs.Spelling.{packet_bytes}
use Rattle.machine_core.specs.Ports.{IsHeld, IsShort}
use Rattle.machine_core.specs.declared.fault.HearFault.{HearFault}
use Rattle.machine_core.specs.declared.fault.HearFault.TheVariants as hear

-- `room` is how many more calls it takes without asking for memory.
pub record Core (M : Type 0) : Type 0 where
  pub end : MachineEnd M Cause
  pub room : ℕ

-- What a turn did that answers this: what the end was to do, and which bytes it sent behind those that were there.
-- Where a packet is awaited or it is done, nothing changed.
abbrev pub Does : {M : Type 0} → Act M Cause → Core M → Core M → List ℕ → List ℕ → Turn → Type 0
Does (Works next) old new before after t = (t ≡ turn.Unit) × (new.end ≡ next) × (after ≡ before)
Does (Sends p x next) old new before after t =
    (t ≡ turn.Sent p) × (new.end ≡ next) × (after ≡ before ++ packet_bytes x)
Does (Awaits p) old new before after t = (t ≡ turn.NotYet p) × (new ≡ old) × (after ≡ before)
Does (Serves p next) old new before after t = (t ≡ turn.Served p) × (new.end ≡ next) × (after ≡ before)
Does (Marks next) old new before after t = (t ≡ turn.Marked) × (new.end ≡ next) × (after ≡ before)
Does Rests old new before after t = (t ≡ turn.Done) × (new ≡ old) × (after ≡ before)
Does (Fails p fault) old new before after t = ⊥
Does Lost old new before after t = ⊥

-- the port whose packet is awaited, where one is
abbrev pub awaited : {M : Type 0} → Act M Cause → Option ℕ
awaited (Awaits p) = Some p
awaited _ = None

abbrev pub ActsBy : {M : Type 0} → Act M Cause → Core M → Core M → List ℕ → List ℕ → Result Turn NoMemory → Type 0
ActsBy a old new before after (Ok t) = Does a old new before after t
ActsBy a old new before after (Err e) = (new ≡ old) × (after ≡ before)

abbrev pub Acts :
    {M : Type 0} → MasterModel M → Core M → Core M → List ℕ → List ℕ → Result Turn NoMemory → Type 0
Acts k old new before after r = ActsBy (machine_acts k old.end) old new before after r

-- An end that took a packet of port p has become this one. A fault is answered and not kept.
abbrev pub Becomes : {M : Type 0} → MachineEnd M Cause → MachineEnd M Cause → ℕ → Result Unit HearFault → Type 0
Becomes want new p (Ok u) = new ≡ want
Becomes want new p (Err (hear.Session f)) = record new { fault = Some (p, end_fault.Session f) } ≡ want
Becomes want new p (Err (hear.LateWant at got)) = record new { fault = Some (p, end_fault.LateWant at got) } ≡ want

abbrev pub Hears : {M : Type 0} → MasterModel M → Core M → Core M → ℕ → Packet → Result Unit HearFault → Type 0
Hears k old new p m r = Becomes (machine_takes k old.end p (Valid m)) new.end p r

-- Steps of taking a packet: the session of its port took it, and a boundary that is over has ended. What is left to do
-- is by the event.

abbrev pub is_late : PortEnd → Packet → Bool
is_late q m = nat_lt q.last (time_of m.body)

-- a request that may be held
pub record MayHold {M : Type 0} (h : MachineEnd M Cause) (p : ℕ) (m : Packet) (q : PortEnd) : Type 0 where
  pub there : slice_get h.ports p ≡ Some q
  pub held : IsHeld q.session m
  pub synced : h.phase ≡ Gather → is_some q.session.own_sync ≡ true

-- an answer that may be given to the master
pub record MayAnswer {M : Type 0} (h : MachineEnd M Cause) (p : ℕ) (m : Packet) : Type 0 where
  pub answers : is_response m ≡ true
  pub free : (q : PortEnd) → slice_get h.ports p ≡ Some q → q.session.own_other ≡ None
  pub awaited : (n : ℕ) (a : Access) → h.phase ≡ AnswerFrom n a → (n ≡ p) × IsShort m.body

abbrev pub Took :
    {M : Type 0} → MasterModel M → MachineEnd M Cause → MachineEnd M Cause → ℕ → Packet → Result Event SessionFault
    → Type 0
Took k want new p m (Err f) = record new { fault = Some (p, end_fault.Session f) } ≡ want
Took k want new p m (Ok event.Nothing) = new ≡ want
Took k want new p m (Ok event.SyncDone) = new ≡ want
Took k want new p m (Ok event.Met) = met k new new.phase ≡ want
Took k want new p m (Ok event.Answered) = (answered k new m.body new.phase ≡ want) × MayAnswer new p m
Took k want new p m (Ok event.Told) =
    (q : PortEnd) × MayHold new p m q × (hold_request k new p q m (is_late q m) ≡ want)
Took k want new p m (Ok (event.Asked t)) =
    (q : PortEnd) × MayHold new p m q × (hold_request k new p q m (is_late q m) ≡ want)

-- the answer of a sync
abbrev pub ends_sync : Result Event SessionFault → Bool
ends_sync (Ok event.SyncDone) = true
ends_sync _ = false

-- What always holds of a port in a phase, by its place.

abbrev pub has_greeted : Phase → ℕ → Bool
has_greeted (Greet p) i = nat_lt i p
has_greeted _ i = true

-- An access is out only at the port whose answer is awaited.
abbrev pub IsFree : Phase → ℕ → Option OwnRequest → Type 0
IsFree (AnswerFrom p a) i own = (o : OwnRequest) → own ≡ Some o → (i ≡ p) × (o.len ≡ a.size)
IsFree _ i own = own ≡ None

-- A sync is out where it was sent in this boundary and not answered. A port with a held request has not answered it.
abbrev pub IsSynced : Phase → ℕ → Option Packet → Option OwnRequest → Type 0
IsSynced (SyncTo p) i held own = is_some own ≡ nat_lt i p
IsSynced Gather i held own = is_some held ≡ true → is_some own ≡ true
IsSynced _ i held own = is_some own ≡ false

pub record IsPortIn (phase : Phase) (i : ℕ) (q : PortEnd) : Type 0 where
  pub greeted : q.session.hello_went ≡ has_greeted phase i
  pub other : IsFree phase i q.session.own_other
  pub sync : IsSynced phase i q.held q.session.own_sync

abbrev pub ArePortsIn : Phase → List PortEnd → Type 0
ArePortsIn phase qs = (i : ℕ) (q : PortEnd) → slice_get qs i ≡ Some q → IsPortIn phase i q

-- What a phase says of the whole end: the port that it names is there, the master has issued an access exactly while
-- its answer is awaited, and a boundary ends as soon as every port has answered and nothing is held.
abbrev pub IsIn : {M : Type 0} → MasterModel M → MachineEnd M Cause → Phase → Type 0
IsIn k h (Greet p) = (p < length h.ports) × (k.issued h.master ≡ None) × (h.marked ≡ false)
IsIn k h (Meet p) = (p < length h.ports) × (k.issued h.master ≡ None) × (h.marked ≡ false)
IsIn k h Run = (k.issued h.master ≡ None) × (h.marked ≡ true → is_last k h ≡ false)
IsIn k h (AnswerFrom p a) = (p < length h.ports) × (k.issued h.master ≡ Some (record { port = p; access = a }))
    × (h.tick < h.plan.units) × (a.size ≤ 8)
IsIn k h (SyncTo p) = (p < length h.ports) × (k.issued h.master ≡ None)
IsIn k h Gather = (all_on (map is_clear h.ports) ≡ false) × (k.issued h.master ≡ None)
IsIn k h Done = k.issued h.master ≡ None

-- What always holds of a machine end that keeps no fault.
pub record IsMachine {M : Type 0} (k : MasterModel M) (h : MachineEnd M Cause) : Type 0 where
  pub quantum : 0 < h.plan.quantum
  pub ticks : h.tick ≤ h.plan.units
  pub reach : k.reach h.master ≤ length h.ports
  pub few : length h.ports ≤ 4294967295
  pub ports : ArePortsIn h.phase h.ports
  pub phase : IsIn k h h.phase
