-- Each call of a machine end has a line, whatever its links say.
use Rattle.std.specs.Prelude.{All, ◌&&◌, length, map, nat_le, nat_lt, slice_get}
use Rattle.std.proofs.Common.{ℕ, ◌≡◌, ◌+◌, ◌<◌, ◌≤◌, zero, suc, Bool, true, false, List, [], ◌∷◌, ◌++◌, Option, Some, None}
use Rattle.std.proofs.Common.{Result, Ok, Err, refl, sym, subst, arith}
use Rattle.std.proofs.lemmas.Bool.{leb-true}
use Rattle.std.proofs.lemmas.List.Elements.{All-append, All-nil}
use Rattle.std.proofs.lemmas.Option.{same_Some, none-some}
use Rattle.process_network.specs.Network.{Streams}
use Rattle.process_network.specs.PacketStar.{HubOutlook, hub_turn_by, hub_after_take}
use Rattle.process_network.specs.PacketStar.HubOutlook.{HubActs, HubWaits, HubHalts}
use Rattle.cosim_model.specs.declared.session.EndFault.{EndFault}
use Rattle.cosim_model.specs.declared.session.Event.{Event}
use Rattle.cosim_model.specs.declared.session.Event.TheVariants.{Nothing, Met, Asked, Told, Answered, SyncDone}
use Rattle.cosim_model.specs.declared.session.SessionFault.{SessionFault}
use Rattle.cosim_model.specs.declared.values.Access.{Access}
use Rattle.cosim_model.specs.declared.values.Bus.{Bus}
use Rattle.cosim_model.specs.declared.values.Call.{Call}
use Rattle.cosim_model.specs.declared.values.Plan.{Plan}
use Rattle.cosim_model.specs.Order.{least}
use Rattle.cosim_model.specs.Packets.{Body, BusFields, Decoded, Packet}
use Rattle.cosim_model.specs.Packets.Body.{Nop, Hello, Cfg, Read, Write, Interrupt, Sync}
use Rattle.cosim_model.specs.Packets.Decoded.{Valid, Malformed}
use Rattle.cosim_model.specs.Parts.{MasterModel}
use Rattle.cosim_model.specs.Sessions.{Session, is_posted, take_packet}
use Rattle.ends_model.specs.declared.ends.Phase.{Phase}
use Rattle.ends_model.specs.declared.ends.Phase.TheVariants.{Greet, Meet, Run, AnswerFrom, SyncTo, Gather, Done}
use Rattle.ends_model.specs.MachineTurn.{Act, MachineEnd, PortEnd, accesses, acts_in, acts_unless, after_boundary}
use Rattle.ends_model.specs.MachineTurn.{after_greet, after_sync, answered, at_port, first_true, gathered, gathers}
use Rattle.ends_model.specs.MachineTurn.{greets, held_time, hold_request, if_call, if_over, is_due, is_master_size}
use Rattle.ends_model.specs.MachineTurn.{is_unknown, machine_acts, machine_hears, machine_hears_at, machine_judges}
use Rattle.ends_model.specs.MachineTurn.{machine_outlook, machine_takes, met, on_event, outlook_of, runs, serve_body}
use Rattle.ends_model.specs.MachineTurn.{greeted, put_port, requested, serve_read, serve_write, serves, serves_held, serves_least, syncs, to_meet, works}
use Rattle.ends_model.specs.MachineTurn.Act.{Works, Sends, Awaits, Serves, Marks, Rests, Fails, Lost}
use Rattle.ends_model.specs.World.{machine_start}
use Rattle.rp_packet.specs.declared.fault.Cause.{Cause}
use Rattle.rp_packet.specs.Streams.{packet_codec}
use Rattle.machine_turns.specs.Runs.{IsRun, Taking, machine_alone}
use Rattle.transcript.specs.CallLines.{HasLine}

all-one : {X : Type 0} (P : X → Type 0) (y : X) → P y → All P (y ∷ [])
all-one P y is zero d small = is
all-one P y is (suc k) d small = absurd (omega (arith, small))

-- What is served.

if-line : (b : Bool) (c : Call) → HasLine c → All HasLine (if_call b c)
if-line true c is = all-one HasLine c is
if-line false c is = All-nil HasLine

if-short : (b more : Bool) (c : Call) → (b ≡ true → HasLine c) → All HasLine (if_call (b && more) c)
if-short true more c is = if-line more c (is refl)
if-short false more c is = All-nil HasLine

if-fits : (b : Bool) (c : Call) → (b ≡ true → HasLine c) → All HasLine (if_call b c)
if-fits true c is = all-one HasLine c (is refl)
if-fits false c is = All-nil HasLine

module _ {M : Type 0} (k : MasterModel M) (m : M) (tick port : ℕ) where
  read-lines : (f : BusFields) (b : Bool) → All HasLine (serve_read k m tick port f b).calls
  read-lines f false = All-nil HasLine
  read-lines f true =
      if-short (nat_le f.len 64) _ _ (λ is. let few = leb-true f.len 64 is in (few, few))

  write-lines : (f : BusFields) (b : Bool) → All HasLine (serve_write k m tick port f b).calls
  write-lines f false = All-nil HasLine
  write-lines f true = if-fits (nat_le f.len 64) _ (λ is. (leb-true f.len 64 is, omega arith))

  body-lines : (b : Body) → All HasLine (serve_body k m tick port b).calls
  body-lines (Read f) = read-lines f (is_master_size f)
  body-lines (Write f) = write-lines f (is_master_size f)
  body-lines (Interrupt time vector line val) = all-one HasLine _ (tt, omega arith)
  body-lines Nop = All-nil HasLine
  body-lines (Hello major minor caps) = All-nil HasLine
  body-lines (Cfg opt set) = All-nil HasLine
  body-lines (Sync time) = All-nil HasLine

-- What a turn leaves.

module _ {M : Type 0} (k : MasterModel M) where
  abbrev H : Type 0
  H = MachineEnd M Cause

  abbrev pub HaveLines : H → Type 0
  HaveLines h = All HasLine h.calls

  abbrev LeavesLines : Act M Cause → Type 0
  LeavesLines (Works next) = HaveLines next
  LeavesLines (Sends p x next) = HaveLines next
  LeavesLines (Awaits p) = Unit {0}
  LeavesLines (Serves p next) = HaveLines next
  LeavesLines (Marks next) = HaveLines next
  LeavesLines Rests = Unit {0}
  LeavesLines (Fails p f) = Unit {0}
  LeavesLines Lost = Unit {0}

  meet-lines : (h : H) (p : ℕ) (b : Bool) → HaveLines h → HaveLines (to_meet k h p b)
  meet-lines h p true have = have
  meet-lines h p false have = have

  greet-lines : (h : H) (p : ℕ) (b : Bool) → HaveLines h → HaveLines (after_greet k h p b)
  greet-lines h p true have = have
  greet-lines h p false have = have

  sync-lines : (h : H) (p : ℕ) (b : Bool) → HaveLines h → HaveLines (after_sync k h p b)
  sync-lines h p true have = have
  sync-lines h p false have = have

  at-port : (o : Option PortEnd) (act : PortEnd → Act M Cause) → ((q : PortEnd) → LeavesLines (act q))
      → LeavesLines (at_port o act)
  at-port None act each = tt
  at-port (Some q) act each = each q

  access-lines : (h : H) (m : M) (p : ℕ) (a : Access) (b : Bool) (q : PortEnd) → HaveLines h
      → LeavesLines (accesses k h m p a b q)
  access-lines h m p a true q have = All-append HasLine h.calls _ have (all-one HasLine _ tt)
  access-lines h m p a false q have = have

  works-lines : (h : H) (m : M) (o : Option Bus) → HaveLines h → LeavesLines (works k h m o)
  works-lines h m None have = have
  works-lines h m (Some b) have =
      at-port (slice_get h.ports b.port) (accesses k h m b.port b.access b.access.posted)
      (λ q. access-lines h m b.port b.access b.access.posted q have)

  syncs-lines : (h : H) (p : ℕ) (q : PortEnd) → HaveLines h → LeavesLines (syncs k h p q)
  syncs-lines h p q have =
      sync-lines (put_port k h p (requested q false (Sync h.tick) 0 h.tick)) p (nat_lt (suc p) (length h.ports)) have

  runs-lines : (h : H) (due : Bool) (qs : List PortEnd) → HaveLines h → LeavesLines (runs k h due qs)
  runs-lines h true [] have = have
  runs-lines h true (q ∷ qs) have = syncs-lines h 0 q have
  runs-lines h false qs have = works-lines h (k.issue h.master).0 (k.issue h.master).1 have

  served-lines : (h : H) (p : ℕ) (m : Packet) → HaveLines h
      → All HasLine (h.calls ++ (serve_body k h.master h.tick p m.body).calls)
  served-lines h p m have = All-append HasLine h.calls _ have (body-lines k h.master h.tick p m.body)

  serves-lines : (h : H) (p : ℕ) (q : PortEnd) (m : Packet) (b : Bool) → HaveLines h → LeavesLines (serves k h p q m b)
  serves-lines h p q m true have = served-lines h p m have
  serves-lines h p q m false have = served-lines h p m have

  held-lines : (h : H) (p : ℕ) (q : PortEnd) (o : Option Packet) → HaveLines h → LeavesLines (serves_held k h p q o)
  held-lines h p q None have = tt
  held-lines h p q (Some m) have = serves-lines h p q m (is_posted q.session.common m) have

  least-lines : (h : H) (o : Option (ℕ × ℕ)) → HaveLines h → LeavesLines (serves_least k h o)
  least-lines h None have = tt
  least-lines h (Some r) have =
      at-port (slice_get h.ports r.0) (λ (q : PortEnd). serves_held k h r.0 q q.held)
      (λ q. held-lines h r.0 q q.held have)

  gathers-lines : (h : H) (o : Option ℕ) → HaveLines h → LeavesLines (gathers k h o)
  gathers-lines h (Some p) have = tt
  gathers-lines h None have = least-lines h (least (map held_time h.ports)) have

  phase-lines : (h : H) (phase : Phase) → HaveLines h → LeavesLines (acts_in k h phase)
  phase-lines h (Greet p) have =
      at-port (slice_get h.ports p) (greets k h p)
      (λ q. greet-lines (put_port k h p (greeted q)) p (nat_lt (suc p) (length h.ports)) have)
  phase-lines h (Meet p) have = tt
  phase-lines h Run have = runs-lines h (is_due k h) h.ports have
  phase-lines h (AnswerFrom p a) have = tt
  phase-lines h (SyncTo p) have = at-port (slice_get h.ports p) (syncs k h p) (λ q. syncs-lines h p q have)
  phase-lines h Gather have = gathers-lines h (first_true (map is_unknown h.ports)) have
  phase-lines h Done have = tt

  unless-lines : (h : H) (o : Option (ℕ × EndFault Cause)) → HaveLines h → LeavesLines (acts_unless k h o)
  unless-lines h (Some f) have = tt
  unless-lines h None have = phase-lines h h.phase have

  -- What a packet that is taken leaves.

  hold-lines : (h : H) (p : ℕ) (q : PortEnd) (m : Packet) (b : Bool) → HaveLines h
      → HaveLines (hold_request k h p q m b)
  hold-lines h p q m true have = have
  hold-lines h p q m false have = have

  met-lines : (h : H) (phase : Phase) → HaveLines h → HaveLines (met k h phase)
  met-lines h (Greet p) have = have
  met-lines h (Meet p) have = meet-lines h (suc p) _ have
  met-lines h Run have = have
  met-lines h (AnswerFrom p a) have = have
  met-lines h (SyncTo p) have = have
  met-lines h Gather have = have
  met-lines h Done have = have

  answered-lines : (h : H) (b : Body) (phase : Phase) → HaveLines h → HaveLines (answered k h b phase)
  answered-lines h b (Greet p) have = have
  answered-lines h b (Meet p) have = have
  answered-lines h b Run have = have
  answered-lines h b (AnswerFrom p a) have = All-append HasLine h.calls _ have (all-one HasLine _ tt)
  answered-lines h b (SyncTo p) have = have
  answered-lines h b Gather have = have
  answered-lines h b Done have = have

  over-lines : (h : H) (over : Bool) → HaveLines h → HaveLines (if_over k h over)
  over-lines h true have = have
  over-lines h false have = have

  gathered-lines : (h : H) (over : Bool) (phase : Phase) → HaveLines h → HaveLines (gathered k h over phase)
  gathered-lines h over (Greet p) have = have
  gathered-lines h over (Meet p) have = have
  gathered-lines h over Run have = have
  gathered-lines h over (AnswerFrom p a) have = have
  gathered-lines h over (SyncTo p) have = have
  gathered-lines h over Gather have = over-lines h over have
  gathered-lines h over Done have = have

  event-lines : (h : H) (p : ℕ) (q : PortEnd) (m : Packet) (v : Event) → HaveLines h → HaveLines (on_event k h p q m v)
  event-lines h p q m Nothing have = have
  event-lines h p q m Met have = met-lines _ h.phase have
  event-lines h p q m (Asked t) have = hold-lines h p q m _ have
  event-lines h p q m Told have = hold-lines h p q m _ have
  event-lines h p q m Answered have = answered-lines _ m.body h.phase have
  event-lines h p q m SyncDone have = gathered-lines _ _ h.phase have

  judged-lines : (h : H) (p : ℕ) (q : PortEnd) (m : Packet) (r : Result Event SessionFault) → HaveLines h
      → HaveLines (machine_judges k h p q m r)
  judged-lines h p q m (Err f) have = have
  judged-lines h p q m (Ok v) have = event-lines h p q m v have

  hears-lines : (h : H) (p : ℕ) (q : PortEnd) (m : Decoded Cause) → HaveLines h → HaveLines (machine_hears k h p q m)
  hears-lines h p q (Malformed cause) have = have
  hears-lines h p q (Valid m) have = judged-lines h p _ m (take_packet q.session m).1 have

  hears-at-lines : (h : H) (p : ℕ) (m : Decoded Cause) (o : Option PortEnd) → HaveLines h
      → HaveLines (machine_hears_at k h p m o)
  hears-at-lines h p m None have = have
  hears-at-lines h p m (Some q) have = hears-lines h p q m have

  takes-lines : (h : H) (p : ℕ) (m : Decoded Cause) → HaveLines h → HaveLines (machine_takes k h p m)
  takes-lines h p m have = hears-at-lines h p m (slice_get h.ports p) have

  -- And so a run.

  acts-same : (a b : H) (s t : Option (ℕ × Decoded Cause))
      → ◌≡◌ {A = HubOutlook H (Decoded Cause)} (HubActs a s) (HubActs b t) → a ≡ b
  acts-same a b s t is = cc (is)

  acts-lines : (a : Act M Cause) (next : H) (sends : Option (ℕ × Decoded Cause)) → LeavesLines a
      → outlook_of a ≡ HubActs next sends → HaveLines next
  acts-lines (Works n) next sends have is = subst HaveLines (acts-same n next None sends is) have
  acts-lines (Sends p x n) next sends have is = subst HaveLines (acts-same n next (Some (p, Valid x)) sends is) have
  acts-lines (Awaits p) next sends have is = absurd (cc (is))
  acts-lines (Serves p n) next sends have is = subst HaveLines (acts-same n next None sends is) have
  acts-lines (Marks n) next sends have is = subst HaveLines (acts-same n next None sends is) have
  acts-lines Rests next sends have is = absurd (cc (is))
  acts-lines (Fails p f) next sends have is = absurd (cc (is))
  acts-lines Lost next sends have is = absurd (cc (is))

  took-lines : (s : Taking M) (r : Taking M × Option (ℕ × List ℕ)) (p : ℕ) (o : Option (Decoded Cause × ℕ))
      → HaveLines s.core → hub_after_take (machine_alone k packet_codec) s p o ≡ Some r → HaveLines r.0.core
  took-lines s r p None have t = absurd (none-some r t)
  took-lines s r p (Some m) have t =
      subst (λ (v : Taking M × Option (ℕ × List ℕ)). HaveLines v.0.core) (same_Some _ r t)
      (takes-lines s.core p m.0 have)

  turn-lines : (x : Streams) (s : Taking M) (r : Taking M × Option (ℕ × List ℕ)) (v : HubOutlook H (Decoded Cause))
      → HaveLines s.core → machine_outlook k s.core ≡ v → hub_turn_by (machine_alone k packet_codec) s x v ≡ Some r
      → HaveLines r.0.core
  turn-lines x s r (HubActs next sends) have is t =
      subst (λ (v : Taking M × Option (ℕ × List ℕ)). HaveLines v.0.core) (same_Some _ r t)
      (acts-lines (machine_acts k s.core) next sends (unless-lines s.core s.core.fault have) is)
  turn-lines x s r (HubWaits p) have is t = took-lines s r p _ have t
  turn-lines x s r HubHalts have is t = absurd (none-some r t)

  pub run-lines : (m : M) (n : ℕ) (plan : Plan) (x : Streams) (turns : ℕ) (h : Taking M) (o : Streams)
      → IsRun k (machine_start Cause m n plan) n x turns h o → HaveLines h.core
  run-lines m n plan x zero h o run =
      subst (λ (h : Taking M). HaveLines h.core) (sym run.0) (All-nil HasLine)
  run-lines m n plan x (suc turns) h o run =
      turn-lines x run.0 (h, run.2) (machine_outlook k run.0.core) (run-lines m n plan x turns run.0 run.1 run.3) refl
      run.4
