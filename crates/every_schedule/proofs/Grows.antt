-- A turn only adds to the calls, and is taken only where there is no fault.
use Rattle.std.proofs.Common.{◌≡◌, ℕ, zero, suc, Bool, true, false, ◌&&◌, List, [], ◌∷◌, ◌++◌, length, set, map, Option, Some, None, slice_get, Result, Ok, Err, refl, sym, ap, ◌∙◌, subst, append_assoc, append-nil}
use Rattle.std.proofs.lemmas.Option.{none-some, same_Some}
use Rattle.std.specs.Prelude.{nat_lt}
use Rattle.process_network.specs.Network.{IsPrefix, Streams}
use Rattle.process_network.specs.PacketStar.{HubOutlook, HubEnd, LeafEnd, star_of, hub_turn_by, hub_after_take, leaf_turn_by, leaf_after_take}
use Rattle.process_network.specs.PacketStar.HubOutlook.{HubActs, HubWaits, HubHalts}
use Rattle.cosim_model.specs.declared.values.Access.{Access}
use Rattle.cosim_model.specs.declared.values.Want.{Want}
use Rattle.cosim_model.specs.declared.values.Call.{Call}
use Rattle.cosim_model.specs.declared.values.Bus.{Bus}
use Rattle.cosim_model.specs.Values.{all_on}
use Rattle.cosim_model.specs.Parts.{DeviceModel, MasterModel}
use Rattle.cosim_model.specs.Packets.{Body, Packet, Decoded, Codec}
use Rattle.cosim_model.specs.Packets.Body.{Read, Write, Sync}
use Rattle.cosim_model.specs.Packets.Decoded.{Valid, Malformed}
use Rattle.cosim_model.specs.declared.session.SessionFault.{SessionFault}
use Rattle.cosim_model.specs.declared.session.Event.{Event}
use Rattle.cosim_model.specs.Sessions.{take_packet, is_posted}
use Rattle.cosim_model.specs.declared.session.Event.TheVariants.{Nothing, Met, Asked, Told, Answered, SyncDone}
use Rattle.cosim_model.specs.declared.session.EndFault.{EndFault}
use Rattle.ends_model.specs.declared.ends.OpenSync.{OpenSync}
use Rattle.ends_model.specs.DeviceTurn.{DeviceEnd, is_device_size, is_answered, told, settle, next_of, joined, settled, acts, answer_read, answer_write, do_posted, answered_own, device_takes, device_judges, device_looks}
use Rattle.ends_model.specs.declared.ends.Phase.{Phase}
use Rattle.ends_model.specs.MachineTurn.{MachineEnd, PortEnd, greeted, requested, machine_outlook, after_greet, to_meet, after_sync, is_due, first_true, is_unknown, least, held_time, machine_takes, machine_hears_at, machine_judges, on_event, hold_request, met, answered, if_over, gathered, is_clear, put_port, time_of}
use Rattle.ends_model.specs.declared.ends.Phase.TheVariants.{Greet, Meet, Run, AnswerFrom, SyncTo, Gather, Done}
use Rattle.ends_model.specs.World.{ends}
use Rattle.every_schedule.proofs.Outlooks.{machine_looks, phase_outlook, greet_outlook, run_outlook, sync_outlook, unit_outlook, access_outlook, gather_outlook, serve_outlook, serve_port, serve_held, serve_packet, settle_by, settle_want}

whole : {X : Type 0} (xs : List X) → IsPrefix xs xs
whole xs = ([], append-nil xs)

more : {X : Type 0} (xs ys : List X) → IsPrefix xs (xs ++ ys)
more xs ys = (ys, refl)

then : {X : Type 0} (xs ys zs : List X) → IsPrefix xs ys → IsPrefix ys zs → IsPrefix xs zs
then xs ys zs a b = (a.0 ++ b.0, sym (append_assoc xs a.0 b.0) ∙ ap (λ t. t ++ b.0) a.1 ∙ b.1)

module _ {M S F : Type 0} (k : MasterModel M) (d : DeviceModel S) (codec : Codec F) where
  abbrev Grows : MachineEnd M F → HubOutlook (MachineEnd M F) (Decoded F) → Type 0
  Grows h (HubActs next sends) = IsPrefix h.calls next.calls
  Grows h (HubWaits p) = Unit {0}
  Grows h HubHalts = Unit {0}

  meet_calls : (h : MachineEnd M F) (p : ℕ) (b : Bool) → (to_meet k h p b).calls ≡ h.calls
  meet_calls h p true = refl
  meet_calls h p false = refl

  greet_calls : (h : MachineEnd M F) (p : ℕ) (b : Bool) → (after_greet k h p b).calls ≡ h.calls
  greet_calls h p true = refl
  greet_calls h p false = refl

  sync_calls : (h : MachineEnd M F) (p : ℕ) (b : Bool) → (after_sync k h p b).calls ≡ h.calls
  sync_calls h p true = refl
  sync_calls h p false = refl

  same_prefix : (a b : List Call) → b ≡ a → IsPrefix a b
  same_prefix a b e = ([], append-nil a ∙ sym e)

  greet_grows : (h : MachineEnd M F) (p : ℕ) (o : Option PortEnd) → Grows h (greet_outlook k h p o)
  greet_grows h p None = tt
  greet_grows h p (Some q) = same_prefix h.calls _ (greet_calls (put_port k h p (greeted q)) p (nat_lt (suc p) (length h.ports)))

  sync_grows : (h : MachineEnd M F) (p : ℕ) (o : Option PortEnd) → Grows h (sync_outlook k h p o)
  sync_grows h p None = tt
  sync_grows h p (Some q) = same_prefix h.calls _ (sync_calls (put_port k h p (requested q false (Sync h.tick) 0 h.tick)) p (nat_lt (suc p) (length h.ports)))

  access_grows : (h : MachineEnd M F) (m : M) (p : ℕ) (a : Access) (o : Option PortEnd) (b : Bool) → Grows h (access_outlook k h m p a o b)
  access_grows h m p a None b = tt
  access_grows h m p a (Some q) true = more h.calls _
  access_grows h m p a (Some q) false = whole h.calls

  unit_grows : (h : MachineEnd M F) (m : M) (o : Option Bus) → Grows h (unit_outlook k h m o)
  unit_grows h m None = whole h.calls
  unit_grows h m (Some b) = access_grows h m b.port b.access (slice_get h.ports b.port) b.access.posted

  run_grows : (h : MachineEnd M F) (b : Bool) (ports : List PortEnd) → Grows h (run_outlook k h b ports)
  run_grows h true [] = whole h.calls
  run_grows h true (q ∷ qs) = sync_grows h 0 (Some q)
  run_grows h false ports = unit_grows h (k.issue h.master).0 (k.issue h.master).1

  packet_grows : (h : MachineEnd M F) (p : ℕ) (q : PortEnd) (m : Packet) (b : Bool) → Grows h (serve_packet k h p q m b)
  packet_grows h p q m true = more h.calls _
  packet_grows h p q m false = more h.calls _

  held_grows : (h : MachineEnd M F) (p : ℕ) (q : PortEnd) (o : Option Packet) → Grows h (serve_held k h p q o)
  held_grows h p q None = tt
  held_grows h p q (Some m) = packet_grows h p q m (is_posted q.session.common m)

  port_grows : (h : MachineEnd M F) (p : ℕ) (o : Option PortEnd) → Grows h (serve_port k h p o)
  port_grows h p None = tt
  port_grows h p (Some q) = held_grows h p q q.held

  serve_grows : (h : MachineEnd M F) (o : Option (ℕ × ℕ)) → Grows h (serve_outlook k h o)
  serve_grows h None = tt
  serve_grows h (Some r) = port_grows h r.0 (slice_get h.ports r.0)

  gather_grows : (h : MachineEnd M F) (o : Option ℕ) → Grows h (gather_outlook k h o)
  gather_grows h (Some p) = tt
  gather_grows h None = serve_grows h (least (map held_time h.ports))

  phase_grows : (h : MachineEnd M F) (p : Phase) → Grows h (phase_outlook k h p)
  phase_grows h (Greet p) = greet_grows h p (slice_get h.ports p)
  phase_grows h (Meet p) = tt
  phase_grows h Run = run_grows h (is_due k h) h.ports
  phase_grows h (AnswerFrom p a) = tt
  phase_grows h (SyncTo p) = sync_grows h p (slice_get h.ports p)
  phase_grows h Gather = gather_grows h (first_true (map is_unknown h.ports))
  phase_grows h Done = tt

  outlook_grows : (h : MachineEnd M F) → Grows h (machine_outlook k h)
  outlook_grows h = go h.fault
    where
      go : (o : Option (ℕ × EndFault F)) → Grows h (machine_looks k h o)
      go (Some f) = tt
      go None = phase_grows h h.phase

  -- a packet taken
  holds_grows : (h : MachineEnd M F) (p : ℕ) (q : PortEnd) (m : Packet) (b : Bool) → IsPrefix h.calls (hold_request k h p q m b).calls
  holds_grows h p q m true = whole h.calls
  holds_grows h p q m false = whole h.calls

  met_grows : (h : MachineEnd M F) (p : Phase) → IsPrefix h.calls (met k h p).calls
  met_grows h (Meet p) = same_prefix h.calls _ (meet_calls h (suc p) (nat_lt (suc p) (length h.ports)))
  met_grows h (Greet p) = whole h.calls
  met_grows h Run = whole h.calls
  met_grows h (AnswerFrom p a) = whole h.calls
  met_grows h (SyncTo p) = whole h.calls
  met_grows h Gather = whole h.calls
  met_grows h Done = whole h.calls

  answered_grows : (h : MachineEnd M F) (b : Body) (p : Phase) → IsPrefix h.calls (answered k h b p).calls
  answered_grows h b (AnswerFrom p a) = more h.calls _
  answered_grows h b (Greet p) = whole h.calls
  answered_grows h b (Meet p) = whole h.calls
  answered_grows h b Run = whole h.calls
  answered_grows h b (SyncTo p) = whole h.calls
  answered_grows h b Gather = whole h.calls
  answered_grows h b Done = whole h.calls

  over_grows : (h : MachineEnd M F) (b : Bool) → IsPrefix h.calls (if_over k h b).calls
  over_grows h true = whole h.calls
  over_grows h false = whole h.calls

  gathered_grows : (h : MachineEnd M F) (b : Bool) (p : Phase) → IsPrefix h.calls (gathered k h b p).calls
  gathered_grows h b Gather = over_grows h b
  gathered_grows h b (Greet p) = whole h.calls
  gathered_grows h b (Meet p) = whole h.calls
  gathered_grows h b Run = whole h.calls
  gathered_grows h b (AnswerFrom p a) = whole h.calls
  gathered_grows h b (SyncTo p) = whole h.calls
  gathered_grows h b Done = whole h.calls

  event_grows : (h : MachineEnd M F) (p : ℕ) (q : PortEnd) (m : Packet) (v : Event) → IsPrefix h.calls (on_event k h p q m v).calls
  event_grows h p q m Nothing = whole h.calls
  event_grows h p q m Met = met_grows (put_port k h p q) h.phase
  event_grows h p q m (Asked t) = holds_grows h p q m (nat_lt q.last (time_of m.body))
  event_grows h p q m Told = holds_grows h p q m (nat_lt q.last (time_of m.body))
  event_grows h p q m Answered = answered_grows (put_port k h p q) m.body h.phase
  event_grows h p q m SyncDone = gathered_grows (put_port k h p q) (all_on (map is_clear (set h.ports p q))) h.phase

  take_grows : (h : MachineEnd M F) (p : ℕ) (m : Decoded F) → IsPrefix h.calls (machine_takes k h p m).calls
  take_grows h p m = at_port (slice_get h.ports p) m
    where
      judges : (q : PortEnd) (x : Packet) (r : Result Event SessionFault) → IsPrefix h.calls (machine_judges k h p q x r).calls
      judges q x (Err f) = whole h.calls
      judges q x (Ok v) = event_grows h p q x v

      at_port : (o : Option PortEnd) (m : Decoded F) → IsPrefix h.calls (machine_hears_at k h p m o).calls
      at_port None m = whole h.calls
      at_port (Some q) (Malformed c) = whole h.calls
      at_port (Some q) (Valid x) = judges (record q { session = (take_packet q.session x).0 }) x (take_packet q.session x).1

  -- What each turn of the hub keeps.
  abbrev pub HubLater : HubEnd (MachineEnd M F) → HubEnd (MachineEnd M F) → Type 0
  HubLater a b = IsPrefix a.core.calls b.core.calls × (b.core.fault ≡ None → a.core.fault ≡ None)

  pub hub_later_self : (a : HubEnd (MachineEnd M F)) → HubLater a a
  hub_later_self a = (whole a.core.calls, λ f. f)

  pub hub_later : (h a : HubEnd (MachineEnd M F)) (x : Streams) (r : HubEnd (MachineEnd M F) × Option (ℕ × List ℕ)) → HubLater h a → (star_of (ends k d codec)).hub_turn a x ≡ Some r → HubLater h r.0
  hub_later h a x r l t = (then h.core.calls a.core.calls r.0.core.calls l.0 (grows (machine_outlook k a.core) (outlook_grows a.core) t), λ f. l.1 (sound a.core.fault refl))
    where
      took : (p : ℕ) (o : Option (Decoded F × ℕ)) → hub_after_take (ends k d codec) a p o ≡ Some r → IsPrefix a.core.calls r.0.core.calls
      took p None s = absurd (none-some r s)
      took p (Some m) s = subst (λ (r : HubEnd (MachineEnd M F) × Option (ℕ × List ℕ)). IsPrefix a.core.calls r.0.core.calls) (same_Some _ r s) (take_grows a.core p m.0)

      grows : (v : HubOutlook (MachineEnd M F) (Decoded F)) → Grows a.core v → hub_turn_by (ends k d codec) a x v ≡ Some r → IsPrefix a.core.calls r.0.core.calls
      grows (HubActs next sends) g s = subst (λ (r : HubEnd (MachineEnd M F) × Option (ℕ × List ℕ)). IsPrefix a.core.calls r.0.core.calls) (same_Some _ r s) g
      grows (HubWaits p) g s = took p _ s
      grows HubHalts g s = absurd (none-some r s)

      sound : (o : Option (ℕ × EndFault F)) → a.core.fault ≡ o → a.core.fault ≡ None
      sound None e = e
      sound (Some f) e = absurd (none-some r (sym (ap (λ o. hub_turn_by (ends k d codec) a x (machine_looks k a.core o)) e) ∙ t))

  -- The device end.
  settle_grows : (n : ℕ) (e : DeviceEnd S F) → IsPrefix e.calls (settle d n e).0.calls
  settle_grows zero e = whole e.calls
  settle_grows (suc n) e = go e.session.hello_came e.own (d.want e.device) e.open_sync (λ e'. settle_grows n e')
    where
      wanted : (v : Want) (s : Option OpenSync) (b : Bool) → ((e' : DeviceEnd S F) → IsPrefix e'.calls (settle d n e').0.calls) → IsPrefix e.calls (joined (settle_want d e v s b) (settle d n (next_of (settle_want d e v s b)))).0.calls
      wanted v s true ih = whole e.calls
      wanted v None false ih = whole e.calls
      wanted v (Some o) false ih = then e.calls (told d e v).calls (settle d n (told d e v)).0.calls (more e.calls _) (ih (told d e v))

      go : (b : Bool) (own o : Option Want) (s : Option OpenSync) → ((e' : DeviceEnd S F) → IsPrefix e'.calls (settle d n e').0.calls) → IsPrefix e.calls (joined (settle_by d e b own o s) (settle d n (next_of (settle_by d e b own o s)))).0.calls
      go false own o s ih = whole e.calls
      go true (Some w) o s ih = whole e.calls
      go true None None None ih = whole e.calls
      go true None None (Some q) ih = whole e.calls
      go true None (Some v) s ih = wanted v s (is_answered (e.session.common.posted && e.answered_lines) v) ih

  acts_grows : (e : DeviceEnd S F) (b : Body) (v : Event) → IsPrefix e.calls (acts d e b v).0.calls
  acts_grows e (Read f) (Asked t) = reads (is_device_size f)
    where
      reads : (c : Bool) → IsPrefix e.calls (answer_read d e t f c).0.calls
      reads true = more e.calls _
      reads false = whole e.calls
  acts_grows e (Write f) (Asked t) = writes (is_device_size f)
    where
      writes : (c : Bool) → IsPrefix e.calls (answer_write d e t f c).0.calls
      writes true = more e.calls _
      writes false = whole e.calls
  acts_grows e (Write f) Told = links (is_device_size f)
    where
      links : (c : Bool) → IsPrefix e.calls (do_posted d e f c).0.calls
      links true = more e.calls _
      links false = whole e.calls
  acts_grows e (Sync time) (Asked t) = whole e.calls
  acts_grows e b Answered = feeds e.own
    where
      feeds : (o : Option Want) → IsPrefix e.calls (answered_own d e b o).0.calls
      feeds None = whole e.calls
      feeds (Some v) = more e.calls _
  acts_grows e b _ = whole e.calls

  device_grows : (e : DeviceEnd S F) (m : Decoded F) → IsPrefix e.calls (device_takes d e m).0.calls
  device_grows e (Malformed c) = whole e.calls
  device_grows e (Valid p) = by (take_packet e.session p).1
    where
      by : (r : Result Event SessionFault) → IsPrefix e.calls (device_judges d e p (take_packet e.session p).0 r).0.calls
      by (Err f) = whole e.calls
      by (Ok v) =
          let e' : DeviceEnd S F = record e { session = (take_packet e.session p).0 } in
          then e.calls (acts d e' p.body v).0.calls (settled d (acts d e' p.body v).0).0.calls (acts_grows e' p.body v) (settle_grows (suc (d.left (acts d e' p.body v).0.device)) (acts d e' p.body v).0)

  abbrev pub LeafLater : LeafEnd (DeviceEnd S F) → LeafEnd (DeviceEnd S F) → Type 0
  LeafLater a b = IsPrefix a.core.calls b.core.calls × (b.core.fault ≡ None → a.core.fault ≡ None)

  pub leaf_later_self : (a : LeafEnd (DeviceEnd S F)) → LeafLater a a
  leaf_later_self a = (whole a.core.calls, λ f. f)

  pub leaf_later : (l a : LeafEnd (DeviceEnd S F)) (x : List ℕ) (r : LeafEnd (DeviceEnd S F) × List ℕ) → LeafLater l a → (star_of (ends k d codec)).leaf_turn a x ≡ Some r → LeafLater l r.0
  leaf_later l a x r h t = (then l.core.calls a.core.calls r.0.core.calls h.0 (by a.core.fault a.core.session.hello_went refl t), λ f. h.1 (sound a.core.fault refl))
    where
      took : (o : Option (Decoded F × ℕ)) → leaf_after_take (ends k d codec) a o ≡ Some r → IsPrefix a.core.calls r.0.core.calls
      took None s = absurd (none-some r s)
      took (Some m) s = subst (λ (r : LeafEnd (DeviceEnd S F) × List ℕ). IsPrefix a.core.calls r.0.core.calls) (same_Some _ r s) (device_grows a.core m.0)

      by : (o : Option (EndFault F)) (w : Bool) → a.core.fault ≡ a.core.fault → leaf_turn_by (ends k d codec) a x (device_looks a.core o w) ≡ Some r → IsPrefix a.core.calls r.0.core.calls
      by (Some f) w e s = absurd (none-some r s)
      by None false e s = subst (λ (r : LeafEnd (DeviceEnd S F) × List ℕ). IsPrefix a.core.calls r.0.core.calls) (same_Some _ r s) (whole a.core.calls)
      by None true e s = took _ s

      sound : (o : Option (EndFault F)) → a.core.fault ≡ o → a.core.fault ≡ None
      sound None e = e
      sound (Some f) e = absurd (none-some r (sym (ap (λ o. leaf_turn_by (ends k d codec) a x (device_looks a.core o a.core.session.hello_went)) e) ∙ t))
