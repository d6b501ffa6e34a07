-- No turn changes the number of ports.
use Rattle.std.proofs.Common.{◌≡◌, ℕ, suc, Bool, true, false, List, [], ◌∷◌, length, map, nat_lt, refl, ap, ◌∙◌, Result, Ok, Err}
use Rattle.std.specs.Prelude.{Option, Some, None, slice_get}
use Rattle.std.proofs.lemmas.List.{length-set, length-map}
use Rattle.cosim_model.specs.declared.session.EndFault.{EndFault}
use Rattle.cosim_model.specs.declared.session.Event.{Event}
use Rattle.cosim_model.specs.declared.session.Event.TheVariants as event
use Rattle.cosim_model.specs.declared.session.SessionFault.{SessionFault}
use Rattle.cosim_model.specs.declared.values.Bus.{Bus}
use Rattle.cosim_model.specs.Order.{least}
use Rattle.cosim_model.specs.Packets.{Body, Packet, Decoded}
use Rattle.cosim_model.specs.Packets.Decoded.{Valid, Malformed}
use Rattle.cosim_model.specs.Parts.{MasterModel}
use Rattle.cosim_model.specs.Sessions.{is_posted, take_packet}
use Rattle.ends_model.specs.declared.ends.Phase.{Phase}
use Rattle.ends_model.specs.declared.ends.Phase.TheVariants.{Greet, Meet, Run, AnswerFrom, SyncTo, Gather, Done}
use Rattle.ends_model.specs.MachineTurn.{Act, PortEnd, MachineEnd, accesses, acts_in, acts_unless, after_greet, after_sync, answered, at_port, first_true, gathered, gathers, greets, held_time, hold_request, is_due, is_unknown, machine_acts, machine_hears_at, machine_judges, machine_takes, met, on_event, put_port, runs, serves, serves_held, serves_least, syncs, to_meet, waits_at, with_wait, works, if_over}
use Rattle.ends_model.specs.MachineTurn.Act.{Works, Sends, Awaits, Serves, Marks, Rests, Fails, Lost}
use Rattle.rp_packet.specs.declared.fault.Cause.{Cause}
use Rattle.cos_base.specs.declared.no_memory.NoMemory.{NoMemory}
use Rattle.ends_model.specs.declared.ends.Turn.{Turn}
use Rattle.machine_core.specs.Machines.{Acts, Core, Does, Hears}
use Rattle.machine_core.specs.declared.fault.HearFault.{HearFault}
use Rattle.machine_core.specs.declared.fault.HearFault.TheVariants as hear

-- where an end follows, it has so many ports
abbrev pub Keeps : {M : Type 0} → ℕ → Act M Cause → Type 0
Keeps n (Works next) = length next.ports ≡ n
Keeps n (Sends p x next) = length next.ports ≡ n
Keeps n (Awaits p) = Unit {0}
Keeps n (Serves p next) = length next.ports ≡ n
Keeps n (Marks next) = length next.ports ≡ n
Keeps n Rests = Unit {0}
Keeps n (Fails p fault) = Unit {0}
Keeps n Lost = Unit {0}

waits-size : (qs : List PortEnd) (p : ℕ) (o : Option PortEnd) → length (waits_at qs p o) ≡ length qs
waits-size qs p None = refl
waits-size qs p (Some q) = length-set qs p (with_wait q)

module _ {M : Type 0} (k : MasterModel M) where
  put-size : (h : MachineEnd M Cause) (p : ℕ) (q : PortEnd) → length (put_port k h p q).ports ≡ length h.ports
  put-size h p q = length-set h.ports p q

  meet-size : (h : MachineEnd M Cause) (p : ℕ) (b : Bool) → length (to_meet k h p b).ports ≡ length h.ports
  meet-size h p true = waits-size h.ports p (slice_get h.ports p)
  meet-size h p false = refl

  greet-size : (h : MachineEnd M Cause) (p : ℕ) (b : Bool) → length (after_greet k h p b).ports ≡ length h.ports
  greet-size h p true = refl
  greet-size h p false = meet-size h 0 true

  sync-size : (h : MachineEnd M Cause) (p : ℕ) (b : Bool) → length (after_sync k h p b).ports ≡ length h.ports
  sync-size h p true = refl
  sync-size h p false = length-map h.ports with_wait

  module _ (h : MachineEnd M Cause) where
    greets-keep : (p : ℕ) (o : Option PortEnd) → Keeps (length h.ports) (at_port {M = M} {F = Cause} o (greets k h p))
    greets-keep p None = tt
    greets-keep p (Some q) = greet-size (put_port k h p _) p _ ∙ put-size h p _

    syncs-keep : (p : ℕ) (q : PortEnd) → Keeps (length h.ports) (syncs k h p q)
    syncs-keep p q = sync-size (put_port k h p _) p _ ∙ put-size h p _

    syncs-at : (p : ℕ) (o : Option PortEnd) → Keeps (length h.ports) (at_port {M = M} {F = Cause} o (syncs k h p))
    syncs-at p None = tt
    syncs-at p (Some q) = syncs-keep p q

    access-keeps : (m : M) (b : Bus) (posted : Bool) (o : Option PortEnd)
        → Keeps (length h.ports) (at_port {M = M} {F = Cause} o (accesses k h m b.port b.access posted))
    access-keeps m b posted None = tt
    access-keeps m b true (Some q) = put-size h b.port _
    access-keeps m b false (Some q) = put-size h b.port _

    works-keep : (m : M) (o : Option Bus) → Keeps (length h.ports) (works k h m o)
    works-keep m None = refl
    works-keep m (Some b) = access-keeps m b b.access.posted (slice_get h.ports b.port)

    runs-keep : (due : Bool) (qs : List PortEnd) → Keeps (length h.ports) (runs k h due qs)
    runs-keep true [] = refl
    runs-keep true (q ∷ qs) = syncs-keep 0 q
    runs-keep false qs = works-keep (k.issue h.master).0 (k.issue h.master).1

    serves-keep : (p : ℕ) (q : PortEnd) (m : Packet) (posted : Bool) → Keeps (length h.ports) (serves k h p q m posted)
    serves-keep p q m true = put-size h p _
    serves-keep p q m false = put-size h p _

    held-keeps : (p : ℕ) (q : PortEnd) (o : Option Packet) → Keeps (length h.ports) (serves_held k h p q o)
    held-keeps p q None = tt
    held-keeps p q (Some m) = serves-keep p q m (is_posted q.session.common m)

    least-keeps : (o : Option (ℕ × ℕ)) → Keeps (length h.ports) (serves_least k h o)
    least-keeps None = tt
    least-keeps (Some r) = by (slice_get h.ports r.0)
      where
        by : (o : Option PortEnd) → Keeps (length h.ports) (at_port {M = M} {F = Cause} o (λ q. serves_held k h r.0 q q.held))
        by None = tt
        by (Some q) = held-keeps r.0 q q.held

    gathers-keep : (o : Option ℕ) → Keeps (length h.ports) (gathers k h o)
    gathers-keep None = least-keeps (least (map held_time h.ports))
    gathers-keep (Some p) = tt

    acts-keep : (phase : Phase) → Keeps (length h.ports) (acts_in k h phase)
    acts-keep (Greet p) = greets-keep p (slice_get h.ports p)
    acts-keep (Meet p) = tt
    acts-keep Run = runs-keep (is_due k h) h.ports
    acts-keep (AnswerFrom p a) = tt
    acts-keep (SyncTo p) = syncs-at p (slice_get h.ports p)
    acts-keep Gather = gathers-keep (first_true (map is_unknown h.ports))
    acts-keep Done = tt

    keeps-unless : (o : Option (ℕ × EndFault Cause)) → Keeps (length h.ports) (acts_unless k h o)
    keeps-unless None = acts-keep h.phase
    keeps-unless (Some f) = tt

    pub act-keeps : Keeps (length h.ports) (machine_acts k h)
    act-keeps = keeps-unless h.fault

    -- a packet that is taken

    over-size : (b : Bool) → length (if_over k h b).ports ≡ length h.ports
    over-size true = refl
    over-size false = refl

    gathered-size : (b : Bool) (phase : Phase) → length (gathered k h b phase).ports ≡ length h.ports
    gathered-size b (Greet p) = refl
    gathered-size b (Meet p) = refl
    gathered-size b Run = refl
    gathered-size b (AnswerFrom p a) = refl
    gathered-size b (SyncTo p) = refl
    gathered-size b Gather = over-size b
    gathered-size b Done = refl

    answered-size : (b : Body) (phase : Phase) → length (answered k h b phase).ports ≡ length h.ports
    answered-size b (Greet p) = refl
    answered-size b (Meet p) = refl
    answered-size b Run = refl
    answered-size b (AnswerFrom p a) = refl
    answered-size b (SyncTo p) = refl
    answered-size b Gather = refl
    answered-size b Done = refl

    met-size : (phase : Phase) → length (met k h phase).ports ≡ length h.ports
    met-size (Greet p) = refl
    met-size (Meet p) = meet-size h (suc p) (nat_lt (suc p) (length h.ports))
    met-size Run = refl
    met-size (AnswerFrom p a) = refl
    met-size (SyncTo p) = refl
    met-size Gather = refl
    met-size Done = refl

    hold-size : (p : ℕ) (q : PortEnd) (m : Packet) (late : Bool) → length (hold_request k h p q m late).ports ≡ length h.ports
    hold-size p q m true = put-size h p _
    hold-size p q m false = put-size h p _

  module _ (h : MachineEnd M Cause) (p : ℕ) where
    event-size : (q : PortEnd) (m : Packet) (v : Event) → length (on_event k h p q m v).ports ≡ length h.ports
    event-size q m event.Nothing = put-size h p q
    event-size q m event.Met = met-size (put_port k h p q) h.phase ∙ put-size h p q
    event-size q m (event.Asked t) = hold-size h p q m _
    event-size q m event.Told = hold-size h p q m _
    event-size q m event.Answered = answered-size (put_port k h p q) m.body h.phase ∙ put-size h p q
    event-size q m event.SyncDone = gathered-size (put_port k h p q) _ h.phase ∙ put-size h p q

    judged-size : (q : PortEnd) (m : Packet) (r : Result Event SessionFault) → length (machine_judges k h p q m r).ports ≡ length h.ports
    judged-size q m (Ok v) = event-size q m v
    judged-size q m (Err f) = put-size h p q

    heard-size : (m : Decoded Cause) (o : Option PortEnd) → length (machine_hears_at k h p m o).ports ≡ length h.ports
    heard-size m None = refl
    heard-size (Valid m) (Some q) = judged-size _ m (take_packet q.session m).1
    heard-size (Malformed cause) (Some q) = refl

    pub take-keeps : (m : Decoded Cause) → length (machine_takes k h p m).ports ≡ length h.ports
    take-keeps m = heard-size m (slice_get h.ports p)

  -- what a call of the core leaves

  does-size : (a : Act M Cause) (old new : Core M) (before after : List ℕ) (t : Turn) → Keeps (length old.end.ports) a
      → Does a old new before after t → length new.end.ports ≡ length old.end.ports
  does-size (Works next) old new before after t keeps does = ap (λ h. length h.ports) does.1 ∙ keeps
  does-size (Sends p x next) old new before after t keeps does = ap (λ h. length h.ports) does.1 ∙ keeps
  does-size (Awaits p) old new before after t keeps does = ap (λ c. length c.end.ports) does.1
  does-size (Serves p next) old new before after t keeps does = ap (λ h. length h.ports) does.1 ∙ keeps
  does-size (Marks next) old new before after t keeps does = ap (λ h. length h.ports) does.1 ∙ keeps
  does-size Rests old new before after t keeps does = ap (λ c. length c.end.ports) does.1
  does-size (Fails p fault) old new before after t keeps does = absurd does
  does-size Lost old new before after t keeps does = absurd does

  pub acts-size : (old new : Core M) (before after : List ℕ) (r : Result Turn NoMemory) → Acts k old new before after r
      → length new.end.ports ≡ length old.end.ports
  acts-size old new before after (Ok t) acts =
      does-size (machine_acts k old.end) old new before after t (act-keeps old.end) acts
  acts-size old new before after (Err e) acts = ap (λ c. length c.end.ports) acts.0

  pub hears-size : (old new : Core M) (p : ℕ) (m : Packet) (r : Result Unit HearFault) → Hears k old new p m r
      → length new.end.ports ≡ length old.end.ports
  hears-size old new p m (Ok u) hears = ap (λ (h : MachineEnd M Cause). length h.ports) hears ∙ take-keeps old.end p (Valid m)
  hears-size old new p m (Err (hear.Session f)) hears =
      ap (λ (h : MachineEnd M Cause). length h.ports) hears ∙ take-keeps old.end p (Valid m)
  hears-size old new p m (Err (hear.LateWant at got)) hears =
      ap (λ (h : MachineEnd M Cause). length h.ports) hears ∙ take-keeps old.end p (Valid m)
