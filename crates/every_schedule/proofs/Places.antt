-- What an end has taken of what it received: packets, or packets and then the malformed one that it keeps as its fault.
use Rattle.std.proofs.Common.{◌≡◌, ℕ, zero, suc, ◌+◌, ◌<◌, Bool, true, false, ◌&&◌, List, [], ◌∷◌, ◌++◌, length, drop, get_or, set, map, replicate, Option, Some, None, slice_get, Result, Ok, Err, refl, sym, ap, ◌∙◌, subst, arith}
use Rattle.std.specs.Prelude.{nat_eq, nat_lt, if◌then◌else◌}
use Rattle.std.proofs.lemmas.Bool.Decides.{nat_tests}
use Rattle.std.proofs.lemmas.Option.{none-some, same_Some, slice_get_within}
use Rattle.std.proofs.lemmas.List.{length-set, length-map, length-replicate, set_past}
use Rattle.process_network.specs.Network.{Streams}
use Rattle.process_network.specs.StarTalk.{IsHubRun, IsLeafRun}
use Rattle.process_network.specs.PacketStar.{HubOutlook, HubEnd, LeafEnd, star_of, fresh_hub, fresh_leaf, hub_turn_by, hub_after_take, leaf_turn_by, leaf_after_take}
use Rattle.process_network.specs.PacketStar.HubOutlook.{HubActs, HubWaits, HubHalts}
use Rattle.cosim_model.specs.declared.values.Access.{Access}
use Rattle.cosim_model.specs.declared.values.Plan.{Plan}
use Rattle.cosim_model.specs.declared.values.Want.{Want}
use Rattle.cosim_model.specs.declared.values.Bus.{Bus}
use Rattle.cosim_model.specs.Values.{all_on}
use Rattle.cosim_model.specs.Parts.{DeviceModel, MasterModel}
use Rattle.cosim_model.specs.Packets.{Body, Packet, Decoded, Codec}
use Rattle.cosim_model.specs.Packets.Body.{Read, Write, Sync}
use Rattle.cosim_model.specs.Packets.Decoded.{Valid, Malformed}
use Rattle.cosim_model.specs.Streams.{HasTaken, kept_cause}
use Rattle.cosim_model.specs.declared.session.SessionFault.{SessionFault}
use Rattle.cosim_model.specs.declared.session.Event.{Event}
use Rattle.cosim_model.specs.declared.session.Event.TheVariants.{Nothing, Met, Asked, Told, Answered, SyncDone}
use Rattle.cosim_model.specs.declared.session.EndFault.{EndFault}
use Rattle.cosim_model.specs.Sessions.{take_packet, is_posted}
use Rattle.cosim_model.proofs.Streams.{one_more}
use Rattle.ends_model.specs.declared.ends.OpenSync.{OpenSync}
use Rattle.ends_model.specs.declared.ends.Phase.{Phase}
use Rattle.ends_model.specs.declared.ends.Phase.TheVariants.{Greet, Meet, Run, AnswerFrom, SyncTo, Gather, Done}
use Rattle.ends_model.specs.DeviceTurn.{DeviceEnd, is_device_size, is_answered, told, settle, next_of, joined, acts, answer_read, answer_write, do_posted, answered_own, device_takes, device_judges, device_looks}
use Rattle.ends_model.specs.MachineTurn.{MachineEnd, PortEnd, greeted, requested, after_greet, to_meet, after_sync, is_due, first_true, is_unknown, least, held_time, machine_takes, machine_hears_at, machine_judges, on_event, hold_request, met, answered, if_over, gathered, is_clear, put_port, time_of, waits_at}
use Rattle.ends_model.specs.World.{Side, ends, device_start, machine_start}
use Rattle.process_network.proofs.HubHalted.{none_past}
use Rattle.every_schedule.specs.Places.{cause_at}
use Rattle.every_schedule.proofs.Base.{same_number}
use Rattle.every_schedule.proofs.Outlooks.{machine_looks, phase_outlook, greet_outlook, run_outlook, sync_outlook, unit_outlook, access_outlook, gather_outlook, serve_outlook, serve_port, serve_held, serve_packet, settle_by, settle_want}

module _ {M S F : Type 0} (k : MasterModel M) (d : DeviceModel S) (codec : Codec F) where
  -- The device end.

  settle_fault : (n : ℕ) (e : DeviceEnd S F) → (settle d n e).0.fault ≡ e.fault
  settle_fault zero e = refl
  settle_fault (suc n) e = go e.session.hello_came e.own (d.want e.device) e.open_sync (λ e'. settle_fault n e')
    where
      wanted : (v : Want) (s : Option OpenSync) (b : Bool) → ((e' : DeviceEnd S F) → (settle d n e').0.fault ≡ e'.fault) → (joined (settle_want d e v s b) (settle d n (next_of (settle_want d e v s b)))).0.fault ≡ e.fault
      wanted v s true ih = refl
      wanted v None false ih = refl
      wanted v (Some o) false ih = ih (told d e v)

      go : (b : Bool) (own o : Option Want) (s : Option OpenSync) → ((e' : DeviceEnd S F) → (settle d n e').0.fault ≡ e'.fault) → (joined (settle_by d e b own o s) (settle d n (next_of (settle_by d e b own o s)))).0.fault ≡ e.fault
      go false own o s ih = refl
      go true (Some w) o s ih = refl
      go true None None None ih = refl
      go true None None (Some q) ih = refl
      go true None (Some v) s ih = wanted v s (is_answered (e.session.common.posted && e.answered_lines) v) ih

  acts_fault : (e : DeviceEnd S F) (b : Body) (v : Event) → (acts d e b v).0.fault ≡ e.fault
  acts_fault e (Read f) (Asked t) = reads (is_device_size f)
    where
      reads : (c : Bool) → (answer_read d e t f c).0.fault ≡ e.fault
      reads true = refl
      reads false = refl
  acts_fault e (Write f) (Asked t) = writes (is_device_size f)
    where
      writes : (c : Bool) → (answer_write d e t f c).0.fault ≡ e.fault
      writes true = refl
      writes false = refl
  acts_fault e (Write f) Told = does (is_device_size f)
    where
      does : (c : Bool) → (do_posted d e f c).0.fault ≡ e.fault
      does true = refl
      does false = refl
  acts_fault e (Sync time) (Asked t) = refl
  acts_fault e b Answered = feeds e.own
    where
      feeds : (o : Option Want) → (answered_own d e b o).0.fault ≡ e.fault
      feeds None = refl
      feeds (Some v) = refl
  acts_fault e b _ = refl

  -- A packet that was taken leaves no fault of its bytes.
  device_valid : (e : DeviceEnd S F) (p : Packet) → e.fault ≡ None → kept_cause (device_takes d e (Valid p)).0.fault ≡ None
  device_valid e p ok = by (take_packet e.session p).1
    where
      by : (r : Result Event SessionFault) → kept_cause (device_judges d e p (take_packet e.session p).0 r).0.fault ≡ None
      by (Err f) = refl
      by (Ok v) =
          let e' : DeviceEnd S F = record e { session = (take_packet e.session p).0 } in
          ap kept_cause (settle_fault (suc (d.left (acts d e' p.body v).0.device)) (acts d e' p.body v).0 ∙ acts_fault e' p.body v ∙ ok)

  module _ (x : List ℕ) where
    abbrev IsPlaced : LeafEnd (DeviceEnd S F) → Type 0
    IsPlaced l = HasTaken codec x l.taken (kept_cause l.core.fault)

    device_turn_placed : (l : LeafEnd (DeviceEnd S F)) (r : LeafEnd (DeviceEnd S F) × List ℕ) → IsPlaced l → (star_of (ends {M = M} k d codec)).leaf_turn l x ≡ Some r → IsPlaced r.0
    device_turn_placed l r placed t = by l.core.fault l.core.session.hello_went refl (λ f. f) t
      where
        took : (m : Decoded F) (n : ℕ) → codec.first (drop l.taken x) ≡ Some (m, n) → l.core.fault ≡ None → HasTaken codec x (l.taken + n) (kept_cause (device_takes d l.core m).0.fault)
        took (Malformed cause) n is ok =
            let was : HasTaken codec x l.taken None = subst (λ o. HasTaken codec x l.taken (kept_cause o)) ok placed in
            (l.taken, record { packets = was.0; before = was.1; size = n; malformed = is }, refl)
        took (Valid p) n is ok =
            let was : HasTaken codec x l.taken None = subst (λ o. HasTaken codec x l.taken (kept_cause o)) ok placed in
            subst (λ o. HasTaken codec x (l.taken + n) o) (sym (device_valid l.core p ok)) (was.0 ++ p ∷ [], one_more codec was.0 l.taken x p n was.1 is)

        takes : (o : Option (Decoded F × ℕ)) → codec.first (drop l.taken x) ≡ o → l.core.fault ≡ None → leaf_after_take (ends {M = M} k d codec) l o ≡ Some r → IsPlaced r.0
        takes None is ok s = absurd (none-some r s)
        takes (Some m) is ok s = subst (λ (r : LeafEnd (DeviceEnd S F) × List ℕ). HasTaken codec x r.0.taken (kept_cause r.0.core.fault)) (same_Some _ r s) (took m.0 m.1 is ok)

        by : (o : Option (EndFault F)) (w : Bool) → l.core.fault ≡ o → (IsPlaced l → IsPlaced l) → leaf_turn_by (ends {M = M} k d codec) l x (device_looks l.core o w) ≡ Some r → IsPlaced r.0
        by (Some f) w e i s = absurd (none-some r s)
        by None false e i s = subst (λ (r : LeafEnd (DeviceEnd S F) × List ℕ). HasTaken codec x r.0.taken (kept_cause r.0.core.fault)) (same_Some _ r s) placed
        by None true e i s = takes _ refl e s

    pub device_placed : (side : Side) (s : S) (turns : ℕ) (l : LeafEnd (DeviceEnd S F)) (o : List ℕ) → IsLeafRun (star_of (ends {M = M} k d codec)) (fresh_leaf (device_start F side s)) x turns l o → IsPlaced l
    device_placed side s zero l o run = subst (λ (l : LeafEnd (DeviceEnd S F)). HasTaken codec x l.taken (kept_cause l.core.fault)) (sym run.0) ([], refl)
    device_placed side s (suc n) l o run = device_turn_placed run.0 (l, run.2) (device_placed side s n run.0 run.1 run.3) run.4

  -- The machine end.

  abbrev H : Type 0
  H = MachineEnd M F

  -- A turn that takes nothing keeps the number of ports, and leaves no fault.
  abbrev Keeps : H → HubOutlook H (Decoded F) → Type 0
  Keeps h (HubActs next sends) = (length next.ports ≡ length h.ports) × (next.fault ≡ h.fault)
  Keeps h (HubWaits p) = Unit {0}
  Keeps h HubHalts = Unit {0}

  waits_length : (ports : List PortEnd) (p : ℕ) (o : Option PortEnd) → length (waits_at ports p o) ≡ length ports
  waits_length ports p None = refl
  waits_length ports p (Some q) = length-set ports p _

  meet_keeps : (h : H) (p : ℕ) (b : Bool) → (length (to_meet k h p b).ports ≡ length h.ports) × ((to_meet k h p b).fault ≡ h.fault)
  meet_keeps h p true = (waits_length h.ports p (slice_get h.ports p), refl)
  meet_keeps h p false = (refl, refl)

  greet_keeps : (h : H) (p : ℕ) (o : Option PortEnd) → Keeps h (greet_outlook k h p o)
  greet_keeps h p None = tt
  greet_keeps h p (Some q) = by (nat_lt (suc p) (length h.ports))
    where
      there : H
      there = put_port k h p (greeted q)

      by : (b : Bool) → (length (after_greet k (put_port k h p (greeted q)) p b).ports ≡ length h.ports) × ((after_greet k (put_port k h p (greeted q)) p b).fault ≡ h.fault)
      by true = (length-set h.ports p (greeted q), refl)
      by false = let r = meet_keeps (put_port k h p (greeted q)) 0 true in (r.0 ∙ length-set h.ports p (greeted q), r.1)

  sync_keeps : (h : H) (p : ℕ) (o : Option PortEnd) → Keeps h (sync_outlook k h p o)
  sync_keeps h p None = tt
  sync_keeps h p (Some q) = by (nat_lt (suc p) (length h.ports))
    where
      by : (b : Bool) → (length (after_sync k (put_port k h p (requested q false (Sync h.tick) 0 h.tick)) p b).ports ≡ length h.ports) × ((after_sync k (put_port k h p (requested q false (Sync h.tick) 0 h.tick)) p b).fault ≡ h.fault)
      by true = (length-set h.ports p _, refl)
      by false = (length-map _ _ ∙ length-set h.ports p _, refl)

  access_keeps : (h : H) (m : M) (p : ℕ) (a : Access) (o : Option PortEnd) (b : Bool) → Keeps h (access_outlook k h m p a o b)
  access_keeps h m p a None b = tt
  access_keeps h m p a (Some q) true = (length-set h.ports p _, refl)
  access_keeps h m p a (Some q) false = (length-set h.ports p _, refl)

  unit_keeps : (h : H) (m : M) (o : Option Bus) → Keeps h (unit_outlook k h m o)
  unit_keeps h m None = (refl, refl)
  unit_keeps h m (Some b) = access_keeps h m b.port b.access (slice_get h.ports b.port) b.access.posted

  run_keeps : (h : H) (b : Bool) (ports : List PortEnd) → Keeps h (run_outlook k h b ports)
  run_keeps h true [] = (refl, refl)
  run_keeps h true (q ∷ qs) = sync_keeps h 0 (Some q)
  run_keeps h false ports = unit_keeps h (k.issue h.master).0 (k.issue h.master).1

  packet_keeps : (h : H) (p : ℕ) (q : PortEnd) (m : Packet) (b : Bool) → Keeps h (serve_packet k h p q m b)
  packet_keeps h p q m true = (length-set h.ports p _, refl)
  packet_keeps h p q m false = (length-set h.ports p _, refl)

  held_keeps : (h : H) (p : ℕ) (q : PortEnd) (o : Option Packet) → Keeps h (serve_held k h p q o)
  held_keeps h p q None = tt
  held_keeps h p q (Some m) = packet_keeps h p q m (is_posted q.session.common m)

  port_keeps : (h : H) (p : ℕ) (o : Option PortEnd) → Keeps h (serve_port k h p o)
  port_keeps h p None = tt
  port_keeps h p (Some q) = held_keeps h p q q.held

  serve_keeps : (h : H) (o : Option (ℕ × ℕ)) → Keeps h (serve_outlook k h o)
  serve_keeps h None = tt
  serve_keeps h (Some r) = port_keeps h r.0 (slice_get h.ports r.0)

  gather_keeps : (h : H) (o : Option ℕ) → Keeps h (gather_outlook k h o)
  gather_keeps h (Some p) = tt
  gather_keeps h None = serve_keeps h (least (map held_time h.ports))

  phase_keeps : (h : H) (p : Phase) → Keeps h (phase_outlook k h p)
  phase_keeps h (Greet p) = greet_keeps h p (slice_get h.ports p)
  phase_keeps h (Meet p) = tt
  phase_keeps h Run = run_keeps h (is_due k h) h.ports
  phase_keeps h (AnswerFrom p a) = tt
  phase_keeps h (SyncTo p) = sync_keeps h p (slice_get h.ports p)
  phase_keeps h Gather = gather_keeps h (first_true (map is_unknown h.ports))
  phase_keeps h Done = tt

  -- A packet that is taken keeps the number of ports, and leaves no fault of its bytes.
  abbrev Took : H → H → Type 0
  Took h next = (length next.ports ≡ length h.ports) × ((p : ℕ) → cause_at p next.fault ≡ None)

  clear : (p : ℕ) (b : Bool) → ◌≡◌ {A = Option F} (if b then None else None) None
  clear p true = refl
  clear p false = refl

  no_cause : (h : H) → h.fault ≡ None → (p : ℕ) → cause_at p h.fault ≡ None
  no_cause h ok p = ap (cause_at p) ok

  holds_took : (h : H) (p : ℕ) (q : PortEnd) (m : Packet) (b : Bool) → h.fault ≡ None → Took h (hold_request k h p q m b)
  holds_took h p q m true ok = (length-set h.ports p q, λ i. clear i (nat_eq p i))
  holds_took h p q m false ok = (length-set h.ports p _, no_cause h ok)

  met_took : (h h' : H) (p : Phase) → length h'.ports ≡ length h.ports → h'.fault ≡ None → Took h (met k h' p)
  met_took h h' (Meet p) same ok = let r = meet_keeps h' (suc p) (nat_lt (suc p) (length h'.ports)) in (r.0 ∙ same, λ i. ap (cause_at i) (r.1 ∙ ok))
  met_took h h' (Greet p) same ok = (same, no_cause h' ok)
  met_took h h' Run same ok = (same, no_cause h' ok)
  met_took h h' (AnswerFrom p a) same ok = (same, no_cause h' ok)
  met_took h h' (SyncTo p) same ok = (same, no_cause h' ok)
  met_took h h' Gather same ok = (same, no_cause h' ok)
  met_took h h' Done same ok = (same, no_cause h' ok)

  answered_took : (h h' : H) (b : Body) (p : Phase) → length h'.ports ≡ length h.ports → h'.fault ≡ None → Took h (answered k h' b p)
  answered_took h h' b (AnswerFrom p a) same ok = (same, no_cause h' ok)
  answered_took h h' b (Greet p) same ok = (same, no_cause h' ok)
  answered_took h h' b (Meet p) same ok = (same, no_cause h' ok)
  answered_took h h' b Run same ok = (same, no_cause h' ok)
  answered_took h h' b (SyncTo p) same ok = (same, no_cause h' ok)
  answered_took h h' b Gather same ok = (same, no_cause h' ok)
  answered_took h h' b Done same ok = (same, no_cause h' ok)

  over_took : (h h' : H) (b : Bool) → length h'.ports ≡ length h.ports → h'.fault ≡ None → Took h (if_over k h' b)
  over_took h h' true same ok = (same, no_cause h' ok)
  over_took h h' false same ok = (same, no_cause h' ok)

  gathered_took : (h h' : H) (b : Bool) (p : Phase) → length h'.ports ≡ length h.ports → h'.fault ≡ None → Took h (gathered k h' b p)
  gathered_took h h' b Gather same ok = over_took h h' b same ok
  gathered_took h h' b (Greet p) same ok = (same, no_cause h' ok)
  gathered_took h h' b (Meet p) same ok = (same, no_cause h' ok)
  gathered_took h h' b Run same ok = (same, no_cause h' ok)
  gathered_took h h' b (AnswerFrom p a) same ok = (same, no_cause h' ok)
  gathered_took h h' b (SyncTo p) same ok = (same, no_cause h' ok)
  gathered_took h h' b Done same ok = (same, no_cause h' ok)

  event_took : (h : H) (p : ℕ) (q : PortEnd) (m : Packet) (v : Event) → h.fault ≡ None → Took h (on_event k h p q m v)
  event_took h p q m Nothing ok = (length-set h.ports p q, no_cause h ok)
  event_took h p q m Met ok = met_took h (put_port k h p q) h.phase (length-set h.ports p q) ok
  event_took h p q m (Asked t) ok = holds_took h p q m (nat_lt q.last (time_of m.body)) ok
  event_took h p q m Told ok = holds_took h p q m (nat_lt q.last (time_of m.body)) ok
  event_took h p q m Answered ok = answered_took h (put_port k h p q) m.body h.phase (length-set h.ports p q) ok
  event_took h p q m SyncDone ok = gathered_took h (put_port k h p q) (all_on (map is_clear (set h.ports p q))) h.phase (length-set h.ports p q) ok

  judges_took : (h : H) (p : ℕ) (q : PortEnd) (m : Packet) (r : Result Event SessionFault) → h.fault ≡ None → Took h (machine_judges k h p q m r)
  judges_took h p q m (Err f) ok = (length-set h.ports p q, λ i. clear i (nat_eq p i))
  judges_took h p q m (Ok v) ok = event_took h p q m v ok

  valid_took : (h : H) (p : ℕ) (m : Packet) → h.fault ≡ None → Took h (machine_takes k h p (Valid m))
  valid_took h p m ok = at_port (slice_get h.ports p)
    where
      at_port : (o : Option PortEnd) → Took h (machine_hears_at k h p (Valid m) o)
      at_port None = (refl, no_cause h ok)
      at_port (Some q) = judges_took h p (record q { session = (take_packet q.session m).0 }) m (take_packet q.session m).1 ok

  set_all : (P : ℕ → ℕ → Type 0) (ts : List ℕ) (p v : ℕ) → p < length ts → P p v → ((i : ℕ) → (i ≡ p → ⊥) → P i (get_or ts i 0)) → (i : ℕ) → P i (get_or (set ts p v) i 0)
  set_all P [] p v inside here there i = absurd (omega arith)
  set_all P (t ∷ ts) zero v inside here there zero = here
  set_all P (t ∷ ts) zero v inside here there (suc i) = there (suc i) (λ e. omega arith)
  set_all P (t ∷ ts) (suc p) v inside here there zero = there zero (λ e. omega arith)
  set_all P (t ∷ ts) (suc p) v inside here there (suc i) = set_all (λ i. P (suc i)) ts p v (omega arith) here (λ i ne. there (suc i) (λ e. ne (let f : suc i ≡ suc p = e in omega arith))) i

  apart : (i p : ℕ) → (i ≡ p → ⊥) → nat_eq p i ≡ false
  apart i p ne = go (nat_eq p i) refl
    where
      go : (b : Bool) → nat_eq p i ≡ b → nat_eq p i ≡ false
      go false e = e
      go true e = absurd (ne (grind (arith, nat_tests)))

  module _ (x : Streams) where
    abbrev IsPlacedHub : HubEnd H → Type 0
    IsPlacedHub h = (length h.taken ≡ length h.core.ports) × ((p : ℕ) → HasTaken codec (x p) (get_or h.taken p 0) (cause_at p h.core.fault))

    machine_turn_placed : (h : HubEnd H) (r : HubEnd H × Option (ℕ × List ℕ)) → IsPlacedHub h → (star_of (ends k d codec)).hub_turn h x ≡ Some r → IsPlacedHub r.0
    machine_turn_placed h r placed t = looks h.core.fault refl t
      where
        -- the bytes of each port before, where no fault was kept
        whole : h.core.fault ≡ None → (i : ℕ) → HasTaken codec (x i) (get_or h.taken i 0) None
        whole ok i = subst (λ o. HasTaken codec (x i) (get_or h.taken i 0) (cause_at i o)) ok (placed.1 i)

        took : (p : ℕ) (m : Decoded F) (n : ℕ) → codec.first (drop (get_or h.taken p 0) (x p)) ≡ Some (m, n) → h.core.fault ≡ None → IsPlacedHub (record { core = machine_takes k h.core p m; taken = set h.taken p (get_or h.taken p 0 + n) })
        took p (Valid m) n is ok = by (slice_get h.core.ports p) refl
          where
            now : length (machine_takes k h.core p (Valid m)).ports ≡ length h.core.ports
            now = (valid_took h.core p m ok).0

            size : length (set h.taken p (get_or h.taken p 0 + n)) ≡ length (machine_takes k h.core p (Valid m)).ports
            size = length-set h.taken p _ ∙ placed.0 ∙ sym now

            still : (i : ℕ) (t : ℕ) → HasTaken codec (x i) t None → HasTaken codec (x i) t (cause_at i (machine_takes k h.core p (Valid m)).fault)
            still i t w = subst (λ o. HasTaken codec (x i) t o) (sym ((valid_took h.core p m ok).1 i)) w

            more : HasTaken codec (x p) (get_or h.taken p 0 + n) None
            more = let w = whole ok p in (w.0 ++ m ∷ [], one_more codec w.0 (get_or h.taken p 0) (x p) m n w.1 is)

            by : (o : Option PortEnd) → slice_get h.core.ports p ≡ o → IsPlacedHub (record { core = machine_takes k h.core p (Valid m); taken = set h.taken p (get_or h.taken p 0 + n) })
            by None e = (size, λ i. still i _ (subst (λ ts. HasTaken codec (x i) (get_or ts i 0) None) (sym (set_past h.taken p _ (let a = none_past h.core.ports p e in let b : length h.taken ≡ length h.core.ports = placed.0 in omega arith))) (whole ok i)))
            by (Some q) e = (size, λ i. still i _ (set_all (λ i t. HasTaken codec (x i) t None) h.taken p _ (let a = slice_get_within h.core.ports p q e in let b : length h.taken ≡ length h.core.ports = placed.0 in omega arith) more (λ i ne. whole ok i) i))
        took p (Malformed cause) n is ok = by (slice_get h.core.ports p) refl
          where
            by : (o : Option PortEnd) → slice_get h.core.ports p ≡ o → IsPlacedHub (record { core = machine_hears_at k h.core p (Malformed cause) o; taken = set h.taken p (get_or h.taken p 0 + n) })
            by None e = (length-set h.taken p _ ∙ placed.0, λ i. subst (λ ts. HasTaken codec (x i) (get_or ts i 0) (cause_at i h.core.fault)) (sym (set_past h.taken p _ (let a = none_past h.core.ports p e in let b : length h.taken ≡ length h.core.ports = placed.0 in omega arith))) (placed.1 i))
            by (Some q) e = (length-set h.taken p _ ∙ placed.0, set_all (λ i t. HasTaken codec (x i) t (if nat_eq p i then Some cause else None)) h.taken p _ (let a = slice_get_within h.core.ports p q e in let b : length h.taken ≡ length h.core.ports = placed.0 in omega arith) here there)
              where
                here : HasTaken codec (x p) (get_or h.taken p 0 + n) (if nat_eq p p then Some cause else None)
                here = let w = whole ok p in
                    subst (λ b. HasTaken codec (x p) (get_or h.taken p 0 + n) (if b then Some cause else None)) (sym (same_number p)) (get_or h.taken p 0, record { packets = w.0; before = w.1; size = n; malformed = is }, refl)

                there : (i : ℕ) → (i ≡ p → ⊥) → HasTaken codec (x i) (get_or h.taken i 0) (if nat_eq p i then Some cause else None)
                there i ne = subst (λ b. HasTaken codec (x i) (get_or h.taken i 0) (if b then Some cause else None)) (sym (apart i p ne)) (whole ok i)

        takes : (p : ℕ) (o : Option (Decoded F × ℕ)) → codec.first (drop (get_or h.taken p 0) (x p)) ≡ o → h.core.fault ≡ None → hub_after_take (ends k d codec) h p o ≡ Some r → IsPlacedHub r.0
        takes p None is ok s = absurd (none-some r s)
        takes p (Some m) is ok s = subst (λ (r : HubEnd H × Option (ℕ × List ℕ)). IsPlacedHub r.0) (same_Some _ r s) (took p m.0 m.1 is ok)

        outlook : (v : HubOutlook H (Decoded F)) → Keeps h.core v → h.core.fault ≡ None → hub_turn_by (ends k d codec) h x v ≡ Some r → IsPlacedHub r.0
        outlook (HubActs next sends) kept ok s =
            subst (λ (r : HubEnd H × Option (ℕ × List ℕ)). IsPlacedHub r.0) (same_Some _ r s)
            (placed.0 ∙ sym kept.0, λ i. subst (λ o. HasTaken codec (x i) (get_or h.taken i 0) (cause_at i o)) (sym kept.1) (placed.1 i))
        outlook (HubWaits p) kept ok s = takes p _ refl ok s
        outlook HubHalts kept ok s = absurd (none-some r s)

        looks : (o : Option (ℕ × EndFault F)) → h.core.fault ≡ o → hub_turn_by (ends k d codec) h x (machine_looks k h.core o) ≡ Some r → IsPlacedHub r.0
        looks (Some f) e s = absurd (none-some r s)
        looks None e s = outlook (phase_outlook k h.core h.core.phase) (phase_keeps h.core h.core.phase) e s

    pub machine_placed : (plan : Plan) (m : M) (n : ℕ) (turns : ℕ) (h : HubEnd H) (sent : Streams) → IsHubRun (star_of (ends k d codec)) n (fresh_hub (machine_start F m n plan) n) x turns h sent → IsPlacedHub h
    machine_placed plan m n zero h sent run =
        subst IsPlacedHub (sym run.0) (length-replicate n _ ∙ sym (length-replicate n _), λ i. subst (λ t. HasTaken codec (x i) t None) (sym (zeros n i)) ([], refl))
      where
        zeros : (n i : ℕ) → ◌≡◌ {A = ℕ} (get_or (replicate n 0) i 0) 0
        zeros zero i = refl
        zeros (suc n) zero = refl
        zeros (suc n) (suc i) = zeros n i
    machine_placed plan m n (suc turns) h sent run = machine_turn_placed run.0 (h, run.2) (machine_placed plan m n turns run.0 run.1 run.3) run.4
