-- One turn of a machine end: a local unit, one packet sent, one packet taken, one posted request served, or a
-- boundary without ports.
use Rattle.cosim_model.specs.declared.values.Plan.{Plan}
use Rattle.cosim_model.specs.declared.values.Reply.{Reply}
pub use Rattle.cosim_model.specs.Order.{later, lower, least, at_quantum}
use Rattle.std.specs.Prelude.{ℕ, zero, suc, Bool, true, false, not, ◌&&◌, ◌||◌, if◌then◌else◌, nat_eq, nat_lt, nat_le}
use Rattle.std.specs.Prelude.{List, [], ◌∷◌, ◌++◌, length, set, replicate, map, Option, Some, None, is_some, is_none}
use Rattle.std.specs.Prelude.{option_map, slice_get, Result, Ok, Err}
use Rattle.ends_model.specs.declared.ends.Phase.{Phase}
use Rattle.ends_model.specs.declared.ends.Phase.TheVariants.{Greet, Meet, Run, AnswerFrom, SyncTo, Gather, Done}
use Rattle.process_network.specs.PacketStar.{HubOutlook}
use Rattle.process_network.specs.PacketStar.HubOutlook.{HubActs, HubWaits, HubHalts}
use Rattle.cosim_model.specs.declared.values.Access.{Access}
use Rattle.cosim_model.specs.declared.values.Answer.{Answer}
use Rattle.cosim_model.specs.declared.values.Call.{Call}
use Rattle.cosim_model.specs.declared.values.Bus.{Bus}
use Rattle.cosim_model.specs.declared.values.Caps.{Caps}
use Rattle.cosim_model.specs.Values.{bytes_of, le, bits_of, from_bits, all_on, masked, padded, plain}
use Rattle.cosim_model.specs.declared.values.Want.TheVariants.{Fetch, Store, Line}
use Rattle.cosim_model.specs.declared.values.Call.TheVariants as call
use Rattle.cosim_model.specs.Parts.{MasterModel, lined}
use Rattle.cosim_model.specs.Packets.{BusFields, Body, Packet, Decoded, code_of, enabled}
use Rattle.cosim_model.specs.Packets.Body.{Read, Write, Interrupt, Sync}
use Rattle.cosim_model.specs.Packets.Decoded.{Valid, Malformed}
use Rattle.cosim_model.specs.declared.session.SessionFault.{SessionFault}
use Rattle.cosim_model.specs.declared.session.Event.{Event}
use Rattle.cosim_model.specs.Sessions.{Session, take_packet, hello_of, hello_sent, begin_wait, request_sent, request_of}
use Rattle.cosim_model.specs.Sessions.{answer_of, other_answered, ticket_of, is_posted}
use Rattle.cosim_model.specs.declared.session.Event.TheVariants.{Nothing, Met, Asked, Told, Answered, SyncDone}
use Rattle.cosim_model.specs.declared.session.EndFault.{EndFault}
use Rattle.ends_model.specs.DeviceTurn.{request_fields, answer_fields, refused_read, refused_write, is_whole_width}
use Rattle.ends_model.specs.DeviceTurn.{bare_reply}
use Rattle.cosim_model.specs.declared.session.EndFault.TheVariants as end_fault

-- A port of the machine end. `held` is a request that was taken and is not served, and `last` the time of the latest
-- request sent.
pub record PortEnd : Type 0 where
  pub session : Session
  pub held : Option Packet
  pub last : ℕ

-- `marked` says that the boundary at this tick is done. A fault is kept with its port, and then the end takes no more
-- turns.
pub record MachineEnd (M F : Type 0) : Type 0 where
  pub plan : Plan
  pub phase : Phase
  pub master : M
  pub ports : List PortEnd
  pub calls : List Call
  pub tick : ℕ
  pub marked : Bool
  pub fault : Option (ℕ × EndFault F)

-- What a machine end does in a turn.
pub data Act (M F : Type 0) : Type 0 where
  -- a unit of the master's own
  Works : (next : MachineEnd M F) → Act M F
  Sends : (port : ℕ) (packet : Packet) (next : MachineEnd M F) → Act M F
  -- it takes a packet of the port, where one is whole
  Awaits : (port : ℕ) → Act M F
  -- a held request that is posted
  Serves : (port : ℕ) (next : MachineEnd M F) → Act M F
  -- a boundary without ports
  Marks : (next : MachineEnd M F) → Act M F
  -- it is done
  Rests : Act M F
  -- it keeps a fault
  Fails : (port : ℕ) (fault : EndFault F) → Act M F
  -- no run comes here: a port that isn't there is named, or nothing is held that could be served
  Lost : Act M F

abbrev pub outlook_of : {M F : Type 0} → Act M F → HubOutlook (MachineEnd M F) (Decoded F)
outlook_of (Works next) = HubActs next None
outlook_of (Sends p x next) = HubActs next (Some (p, Valid x))
outlook_of (Awaits p) = HubWaits p
outlook_of (Serves p next) = HubActs next None
outlook_of (Marks next) = HubActs next None
outlook_of Rests = HubHalts
outlook_of (Fails p f) = HubHalts
outlook_of Lost = HubHalts

abbrev pub at_port : {M F : Type 0} → Option PortEnd → (PortEnd → Act M F) → Act M F
at_port None act = Lost
at_port (Some q) act = act q

-- The first place that is true.

abbrev pub or_first : Bool → Option ℕ → Option ℕ
or_first true r = Some 0
or_first false r = option_map suc r

abbrev pub first_true : List Bool → Option ℕ
first_true [] = None
first_true (b ∷ bs) = or_first b (first_true bs)

abbrev pub time_of : Body → ℕ
time_of (Read f) = f.time
time_of (Write f) = f.time
time_of (Interrupt time vector line val) = time
time_of (Sync time) = time
time_of _ = 0

-- What a served request does: the master after it, its call if it is one, and the answer's body. A read or write has
-- 1 to 4,096 bytes, and is a call where a want can hold it: at most 64 bytes, and no disabled byte of a read.
pub record Service (M : Type 0) : Type 0 where
  pub master : M
  pub calls : List Call
  pub answer : Body

abbrev pub is_master_size : BusFields → Bool
is_master_size f = (nat_le 1 f.len && nat_le f.len 4096) && is_whole_width f

abbrev pub if_call : Bool → Call → List Call
if_call true c = c ∷ []
if_call false c = []

abbrev pub read_reply : ℕ → ℕ × List ℕ → Reply
read_reply size r = record { code = r.0; size = size; bytes = padded r.1 }

abbrev pub serve_read : {M : Type 0} → MasterModel M → M → ℕ → ℕ → BusFields → Bool → Service M
serve_read k m tick port f false = record { master = m; calls = []; answer = refused_read f }
serve_read k m tick port f true = record {
  master = m;
  calls = if_call (nat_le f.len 64 && all_on (enabled f))
      (call.Served tick port f.time (Fetch f.addr f.len) (read_reply f.len (k.read m f.addr f.len)));
  answer = Read (answer_fields f (k.read m f.addr f.len).0 f.len (masked (enabled f) (k.read m f.addr f.len).1));
}

abbrev pub serve_write : {M : Type 0} → MasterModel M → M → ℕ → ℕ → BusFields → Bool → Service M
serve_write k m tick port f false = record { master = m; calls = []; answer = refused_write f }
serve_write k m tick port f true = record {
  master = (k.write m f.addr f.payload (enabled f)).0;
  calls = if_call (nat_le f.len 64)
      (call.Served tick port f.time (Store f.addr f.len (padded f.payload) (from_bits (enabled f)))
      (bare_reply (k.write m f.addr f.payload (enabled f)).1));
  answer = Write (answer_fields f (k.write m f.addr f.payload (enabled f)).1 f.len []);
}

abbrev pub serve_body : {M : Type 0} → MasterModel M → M → ℕ → ℕ → Body → Service M
serve_body k m tick port (Read f) = serve_read k m tick port f (is_master_size f)
serve_body k m tick port (Write f) = serve_write k m tick port f (is_master_size f)
serve_body k m tick port (Interrupt time vector line val) = record {
  master = lined k m line (not (nat_eq val 0)) (nat_le line 31);
  calls = call.Served tick port time (Line line (not (nat_eq val 0))) (bare_reply 0) ∷ [];
  answer = Interrupt time vector line val;
}
serve_body k m tick port b = record { master = m; calls = []; answer = b }

-- The request of an access.
abbrev pub payload_of : Access → Bool → List ℕ
payload_of a true = bytes_of a.value a.size
payload_of a false = []

abbrev pub access_fields : Caps → ℕ → Access → BusFields
access_fields common time a = request_fields common time a.addr a.size (payload_of a a.write) (bits_of a.lanes a.size)

abbrev pub bus_body : Bool → BusFields → Body
bus_body true f = Write f
bus_body false f = Read f

abbrev pub access_body : Caps → ℕ → Access → Body
access_body common time a = bus_body a.write (access_fields common time a)

-- The answer that a bus answer gives.
abbrev pub answer_from : Body → Answer
answer_from (Read f) = record { code = code_of f; value = le f.payload }
answer_from (Write f) = record { code = code_of f; value = le f.payload }
answer_from _ = record { code = 0; value = 0 }

-- the hello, and a request of the machine
abbrev pub greeted : PortEnd → PortEnd
greeted q = record q { session = hello_sent q.session }

abbrev pub requested : PortEnd → Bool → Body → ℕ → ℕ → PortEnd
requested q posted b len tick = record q { session = request_sent q.session posted b len; last = tick }

abbrev pub with_wait : PortEnd → PortEnd
with_wait q = record q { session = begin_wait q.session }

abbrev pub waits_at : List PortEnd → ℕ → Option PortEnd → List PortEnd
waits_at ports p None = ports
waits_at ports p (Some q) = set ports p (with_wait q)

abbrev pub is_unknown : PortEnd → Bool
is_unknown q = is_none q.held && is_some q.session.own_sync

abbrev pub held_time : PortEnd → Option ℕ
held_time q = option_map (λ (m : Packet). time_of m.body) q.held

abbrev pub is_clear : PortEnd → Bool
is_clear q = is_none q.held && is_none q.session.own_sync

-- The last boundary is at this tick; a boundary is due.

abbrev pub is_last_boundary : {M : Type 0} → MasterModel M → Plan → M → ℕ → Bool
is_last_boundary k plan m tick = is_some (k.stopped m) || nat_eq tick plan.units

abbrev pub is_boundary_due : {M : Type 0} → MasterModel M → Plan → M → ℕ → Bool → Bool
is_boundary_due k plan m tick marked = not marked && (is_last_boundary k plan m tick || at_quantum plan tick)

module _ {M F : Type 0} (k : MasterModel M) where
  abbrev pub is_last : MachineEnd M F → Bool
  is_last h = is_last_boundary k h.plan h.master h.tick

  abbrev pub is_due : MachineEnd M F → Bool
  is_due h = is_boundary_due k h.plan h.master h.tick h.marked

  abbrev pub put_port : MachineEnd M F → ℕ → PortEnd → MachineEnd M F
  put_port h p q = record h { ports = set h.ports p q }

  abbrev pub to_meet : MachineEnd M F → ℕ → Bool → MachineEnd M F
  to_meet h p true = record h { phase = Meet p; ports = waits_at h.ports p (slice_get h.ports p) }
  to_meet h p false = record h { phase = Run }

  abbrev pub after_greet : MachineEnd M F → ℕ → Bool → MachineEnd M F
  after_greet h p true = record h { phase = Greet (suc p) }
  after_greet h p false = to_meet h 0 true

  abbrev pub after_boundary : MachineEnd M F → MachineEnd M F
  after_boundary h = record h { phase = if is_last h then Done else Run; marked = true }

  abbrev pub after_sync : MachineEnd M F → ℕ → Bool → MachineEnd M F
  after_sync h p true = record h { phase = SyncTo (suc p) }
  after_sync h p false = record h { phase = Gather; ports = map with_wait h.ports }

  -- A unit's end.
  abbrev pub unit_done : MachineEnd M F → M → MachineEnd M F
  unit_done h m = record h { master = m; phase = Run; tick = suc h.tick; marked = false }

  abbrev pub finished : MachineEnd M F → ℕ → Access → Answer → MachineEnd M F
  finished h p a x = record (unit_done h (k.finish h.master x)) { calls = h.calls ++ call.Access h.tick p a x ∷ [] }

  -- What it does, a row a phase. All syncs of a boundary are sent before an answer is taken; then the least port is
  -- awaited that holds no request and has not answered its sync; where there is none, the held request with the least
  -- time is served, and that of the least port among equals.

  abbrev pub greets : MachineEnd M F → ℕ → PortEnd → Act M F
  greets h p q =
      Sends p (hello_of q.session) (after_greet (put_port h p (greeted q)) p (nat_lt (suc p) (length h.ports)))

  abbrev pub syncs : MachineEnd M F → ℕ → PortEnd → Act M F
  syncs h p q =
      Sends p (request_of q.session false (Sync h.tick))
      (after_sync (put_port h p (requested q false (Sync h.tick) 0 h.tick)) p (nat_lt (suc p) (length h.ports)))

  -- An access that the master has issued, which is m now. The Boolean says that it is posted.
  abbrev pub accesses : MachineEnd M F → M → ℕ → Access → Bool → PortEnd → Act M F
  accesses h m p a true q =
      Sends p (request_of q.session true (access_body q.session.common h.tick a))
      (finished
      (record (put_port h p (requested q true (access_body q.session.common h.tick a) a.size h.tick)) { master = m })
      p a (plain a (record { code = 0; value = 0 })))
  accesses h m p a false q =
      Sends p (request_of q.session false (access_body q.session.common h.tick a))
      (record (put_port h p (with_wait (requested q false (access_body q.session.common h.tick a) a.size h.tick))) {
        master = m;
        phase = AnswerFrom p a;
      })

  abbrev pub works : MachineEnd M F → M → Option Bus → Act M F
  works h m None = Works (unit_done h m)
  works h m (Some b) = at_port (slice_get h.ports b.port) (accesses h m b.port b.access b.access.posted)

  abbrev pub runs : MachineEnd M F → Bool → List PortEnd → Act M F
  runs h true [] = Marks (after_boundary h)
  runs h true (q ∷ qs) = syncs h 0 q
  runs h false ports = works h (k.issue h.master).0 (k.issue h.master).1

  abbrev pub after_service : MachineEnd M F → ℕ → PortEnd → Service M → MachineEnd M F
  after_service h p q r = record h { master = r.master; calls = h.calls ++ r.calls; ports = set h.ports p q }

  -- The Boolean says that the request is posted.
  abbrev pub serves : MachineEnd M F → ℕ → PortEnd → Packet → Bool → Act M F
  serves h p q m true =
      Serves p (after_service h p (record q { held = None }) (serve_body k h.master h.tick p m.body))
  serves h p q m false =
      Sends p (answer_of (ticket_of m) (serve_body k h.master h.tick p m.body).answer)
      (after_service h p (record q { held = None; session = other_answered q.session })
      (serve_body k h.master h.tick p m.body))

  abbrev pub serves_held : MachineEnd M F → ℕ → PortEnd → Option Packet → Act M F
  serves_held h p q None = Lost
  serves_held h p q (Some m) = serves h p q m (is_posted q.session.common m)

  abbrev pub serves_least : MachineEnd M F → Option (ℕ × ℕ) → Act M F
  serves_least h None = Lost
  serves_least h (Some r) = at_port (slice_get h.ports r.0) (λ (q : PortEnd). serves_held h r.0 q q.held)

  abbrev pub gathers : MachineEnd M F → Option ℕ → Act M F
  gathers h (Some p) = Awaits p
  gathers h None = serves_least h (least (map held_time h.ports))

  abbrev pub acts_in : MachineEnd M F → Phase → Act M F
  acts_in h (Greet p) = at_port (slice_get h.ports p) (greets h p)
  acts_in h (Meet p) = Awaits p
  acts_in h Run = runs h (is_due h) h.ports
  acts_in h (AnswerFrom p a) = Awaits p
  acts_in h (SyncTo p) = at_port (slice_get h.ports p) (syncs h p)
  acts_in h Gather = gathers h (first_true (map is_unknown h.ports))
  acts_in h Done = Rests

  abbrev pub acts_unless : MachineEnd M F → Option (ℕ × EndFault F) → Act M F
  acts_unless h (Some f) = Fails f.0 f.1
  acts_unless h None = acts_in h h.phase

  abbrev pub machine_acts : MachineEnd M F → Act M F
  machine_acts h = acts_unless h h.fault

  abbrev pub machine_outlook : MachineEnd M F → HubOutlook (MachineEnd M F) (Decoded F)
  machine_outlook h = outlook_of (machine_acts h)

  -- A packet that is taken. A request that arose after the latest request sent on its port is a fault.

  abbrev pub faulted : MachineEnd M F → ℕ → EndFault F → MachineEnd M F
  faulted h p f = record h { fault = Some (p, f) }

  abbrev pub if_over : MachineEnd M F → Bool → MachineEnd M F
  if_over h true = after_boundary h
  if_over h false = h

  abbrev pub hold_request : MachineEnd M F → ℕ → PortEnd → Packet → Bool → MachineEnd M F
  hold_request h p q m true = faulted (put_port h p q) p (end_fault.LateWant q.last (time_of m.body))
  hold_request h p q m false = put_port h p (record q { held = Some m })

  -- What each event does, by phase: a hello in Meet, an access's answer in Answer, a sync's answer in Gather.
  -- Elsewhere it is ignored.

  abbrev pub met : MachineEnd M F → Phase → MachineEnd M F
  met h (Meet p) = to_meet h (suc p) (nat_lt (suc p) (length h.ports))
  met h _ = h

  abbrev pub answered : MachineEnd M F → Body → Phase → MachineEnd M F
  answered h b (AnswerFrom p a) = finished h p a (plain a (answer_from b))
  answered h b _ = h

  abbrev pub gathered : MachineEnd M F → Bool → Phase → MachineEnd M F
  gathered h over Gather = if_over h over
  gathered h over _ = h

  abbrev pub on_event : MachineEnd M F → ℕ → PortEnd → Packet → Event → MachineEnd M F
  on_event h p q m Nothing = put_port h p q
  on_event h p q m Met = met (put_port h p q) h.phase
  on_event h p q m (Asked t) = hold_request h p q m (nat_lt q.last (time_of m.body))
  on_event h p q m Told = hold_request h p q m (nat_lt q.last (time_of m.body))
  on_event h p q m Answered = answered (put_port h p q) m.body h.phase
  on_event h p q m SyncDone = gathered (put_port h p q) (all_on (map is_clear (set h.ports p q))) h.phase

  abbrev pub machine_judges : MachineEnd M F → ℕ → PortEnd → Packet → Result Event SessionFault → MachineEnd M F
  machine_judges h p q m (Err f) = faulted (put_port h p q) p (end_fault.Session f)
  machine_judges h p q m (Ok v) = on_event h p q m v

  abbrev pub machine_took : MachineEnd M F → ℕ → PortEnd → Packet → Session × Result Event SessionFault → MachineEnd M F
  machine_took h p q m r = machine_judges h p (record q { session = r.0 }) m r.1

  abbrev pub machine_hears : MachineEnd M F → ℕ → PortEnd → Decoded F → MachineEnd M F
  machine_hears h p q (Malformed cause) = faulted h p (end_fault.Malformed cause)
  machine_hears h p q (Valid m) = machine_took h p q m (take_packet q.session m)

  abbrev pub machine_hears_at : MachineEnd M F → ℕ → Decoded F → Option PortEnd → MachineEnd M F
  machine_hears_at h p m None = h
  machine_hears_at h p m (Some q) = machine_hears h p q m

  abbrev pub machine_takes : MachineEnd M F → ℕ → Decoded F → MachineEnd M F
  machine_takes h p m = machine_hears_at h p m (slice_get h.ports p)

abbrev pub start_phase : ℕ → Phase
start_phase zero = Run
start_phase (suc n) = Greet 0

abbrev pub fresh_machine : {M F : Type 0} → M → ℕ → Plan → Session → MachineEnd M F
fresh_machine m n plan session = record {
  plan = plan;
  phase = start_phase n;
  master = m;
  ports = replicate n (record { session = session; held = None; last = 0 });
  calls = [];
  tick = 0;
  marked = false;
  fault = None;
}
