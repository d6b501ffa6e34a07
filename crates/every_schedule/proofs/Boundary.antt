-- A boundary, after its syncs: each port is gathered, and the wants are served.
use Rattle.std.proofs.Common.{◌≡◌, ℕ, ◌+◌, ◌^◌, ◌<◌, ◌≤◌, ◌⊎◌, inl, inr, Bool, true, false, ◌&&◌, List, map, Option, Some, None, is_some, refl, sym, ap, ap₂, ◌∙◌, subst, arith}
use Rattle.std.specs.Prelude.{is_none, option_map}
use Rattle.std.proofs.lemmas.Option.{none-some}
use Rattle.process_network.specs.PacketStar.{PacketWorld}
use Rattle.cosim_model.specs.declared.values.Want.{Want}
use Rattle.cosim_model.specs.declared.values.Call.{Call}
use Rattle.cosim_model.specs.Parts.{DeviceModel, MasterModel, IsDevice, IsMaster, IsWant}
use Rattle.cosim_model.specs.Packets.{Packet, Decoded, Codec}
use Rattle.cosim_model.specs.Packets.Body.{Sync}
use Rattle.ends_model.specs.DeviceTurn.{DeviceEnd, settled}
use Rattle.cosim_model.specs.declared.values.Plan.{Plan}
use Rattle.ends_model.specs.MachineTurn.{MachineEnd, is_unknown, is_clear, time_of, held_time}
use Rattle.ends_model.specs.declared.ends.Phase.TheVariants.{Gather}
use Rattle.every_schedule.specs.Wires.{Wire, unsettled, sends_of, behind, gathered, gathered_by, take_request, take_synced, wired}
use Rattle.cosim_model.specs.Direct.{want_time, due_of}
use Rattle.every_schedule.specs.Mirror.{port_of, post_of, front, own_if}
use Rattle.every_schedule.proofs.PacketFacts.{IsClearWant}
use Rattle.every_schedule.proofs.Settles.{settles_synced}
use Rattle.every_schedule.proofs.Takes.{packet}
use Rattle.every_schedule.proofs.Syncs.{state}
use Rattle.every_schedule.proofs.Gathers.{IsOpen, answered_at, request_packet, settles_open, request_time, in_boundary}
use Rattle.every_schedule.proofs.Spelt.{HasTail, IsSpelt, one_more, sync_fits, want_fits}
use Rattle.every_schedule.proofs.Moves.{Leads}

-- What never changes at a port.
abbrev pub IsPort : {S : Type 0} → DeviceModel S → Wire S → Type 0
IsPort d w = (d.needs w.device ≡ w.side.needs) × (w.side.needs.base && w.side.needs.enables ≡ true → w.side.offer.base && w.side.offer.enables ≡ true) × IsSpelt w

-- A port in a boundary at t whose sync is not answered.
pub record IsOpenAt {S : Type 0} (d : DeviceModel S) (t : ℕ) (w : Wire S) : Type 0 where
  pub port : IsPort d w
  pub small : t < 2 ^ 64
  pub tail : HasTail w
  pub seen : d.seen w.device ≡ t
  pub last : w.last ≡ t
  pub synced : w.synced ≡ true
  pub heard : w.heard ≤ d.due w.device
  pub held : w.held ≡ true → is_some (d.want w.device) ≡ true
  pub room : w.count + d.left w.device ≤ 4096

-- One whose request is held, or whose sync is answered.
pub record IsKnown {S : Type 0} (d : DeviceModel S) (t : ℕ) (w : Wire S) : Type 0 where
  pub port : IsPort d w
  pub small : t < 2 ^ 64
  pub tail : HasTail w
  pub seen : d.seen w.device ≡ t
  pub last : w.last ≡ t
  pub heard : w.heard ≤ d.due w.device
  pub room : w.count + d.left w.device ≤ 4097
  pub kind : ((v : Want) × (d.want w.device ≡ Some v) × (w.synced ≡ true) × (w.held ≡ true)) ⊎ ((d.want w.device ≡ None) × (w.synced ≡ false) × (w.held ≡ false))

true_false : true ≡ false → ⊥
true_false e = cc

module _ {M S F : Type 0} (k : MasterModel M) (d : DeviceModel S) (codec : Codec F) (plan : Plan) (laws : IsDevice d) (laws' : IsMaster k) (t : ℕ) (mk : Bool) where
  abbrev Lead : PacketWorld (MachineEnd M F) (DeviceEnd S F) (Decoded F) → PacketWorld (MachineEnd M F) (DeviceEnd S F) (Decoded F) → Type 0
  Lead = Leads k d codec plan

  abbrev st : M → List Call → List (Wire S) → PacketWorld (MachineEnd M F) (DeviceEnd S F) (Decoded F)
  st m calls ws = state k d codec plan laws Gather m calls t mk ws

  abbrev pub bound : M → List Call → List (Wire S) → PacketWorld (MachineEnd M F) (DeviceEnd S F) (Decoded F)
  bound m calls ws = in_boundary k d codec plan laws m calls t mk (map (port_of F d) ws) (map (post_of F d) ws)

  pub is_open : (w : Wire S) → IsOpenAt d t w → IsOpen d w
  is_open w o = record {
    synced = o.synced;
    late = (let s = laws.due_seen w.device in let a = o.seen in let b = o.last in omega arith);
    heard = o.heard;
    count = (let r = o.room in omega arith);
  }

  pub clear_want : (w : Wire S) → IsPort d w → (v : Want) → d.want w.device ≡ Some v → IsClearWant w.side.offer v
  clear_want w port v e = (w.side.needs, subst (λ c. IsWant c v) port.0 (laws.want_is w.device v e), port.1)

  -- what gathering makes of a port
  gathered_want : (w : Wire S) → w.synced ≡ true → w.held ≡ false → (v : Want) → d.want w.device ≡ Some v → gathered F d w ≡ take_request w (request_packet w.side.offer w.asks (d.due w.device) v (answered_at w v))
  gathered_want w es eh v e =
      ap₂ (λ h o. gathered_by w h o (behind h (settled {F = F} d (unsettled w)).1)) eh e
      ∙ ap (λ (r : DeviceEnd S F × List Packet). gathered_by w false (Some v) r.1) (settles_open k d codec plan laws w v es e (answered_at w v) refl)

  gathered_none : (w : Wire S) → w.synced ≡ true → w.held ≡ false → d.want w.device ≡ None → gathered F d w ≡ take_synced w (packet w.sync_id 2 (Sync w.last))
  gathered_none w es eh e =
      ap₂ (λ h o. gathered_by w h o (behind h (settled {F = F} d (unsettled w)).1)) eh e
      ∙ ap (λ (r : DeviceEnd S F × List Packet). gathered_by w false None r.1) (settles_synced F d w es e)

  pub gathered_known : (w : Wire S) → IsOpenAt d t w → w.held ≡ false → IsKnown d t (gathered F d w)
  gathered_known w o eh = by (d.want w.device) refl
    where
      spelt : IsSpelt w
      spelt = o.port.2

      by : (v : Option Want) → d.want w.device ≡ v → IsKnown d t (gathered F d w)
      by None e = subst (IsKnown d t) (sym (gathered_none w o.synced eh e)) (record {
        port = (o.port.0, o.port.1, (spelt.0, one_more w.back (packet w.sync_id 2 (Sync w.last)) spelt.1 (sync_fits w.sync_id 2 w.last spelt.4 (omega arith) (let l = o.last in let b = o.small in omega arith)), spelt.2, spelt.3, spelt.4));
        small = o.small;
        tail = o.tail;
        seen = o.seen;
        last = o.last;
        heard = o.heard;
        room = (let r = o.room in omega arith);
        kind = inr (e, refl, eh);
      })
      by (Some v) e = subst (IsKnown d t) (sym (gathered_want w o.synced eh v e)) (record {
        port = (o.port.0, o.port.1, (spelt.0, one_more w.back (request_packet w.side.offer w.asks (d.due w.device) v (answered_at w v)) spelt.1 (want_fits w.side.offer (d.needs w.device) w.asks (d.due w.device) v (answered_at w v) spelt.3 (let l = laws.due_seen w.device in let n = o.seen in let b = o.small in omega arith) (laws.want_is w.device v e)), spelt.2, spelt.3, spelt.4));
        small = o.small;
        tail = o.tail;
        seen = o.seen;
        last = o.last;
        heard = (let s = request_time k d codec plan laws w.side.offer w.asks (d.due w.device) v (answered_at w v) in omega arith);
        room = (let r = o.room in omega arith);
        kind = inl (v, e, o.synced, refl);
      })

  -- a held port stays as it is
  pub gathered_held : (w : Wire S) → w.held ≡ true → gathered F d w ≡ w
  gathered_held w eh = ap (λ h. gathered_by w h (d.want w.device) (behind h (settled {F = F} d (unsettled w)).1)) eh

  pub held_known : (w : Wire S) → IsOpenAt d t w → w.held ≡ true → IsKnown d t w
  held_known w o eh = by (d.want w.device) refl (o.held eh)
    where
      by : (v : Option Want) → d.want w.device ≡ v → is_some (d.want w.device) ≡ true → IsKnown d t w
      by None e s = absurd (true_false (sym (sym (ap is_some e) ∙ s)))
      by (Some v) e s = record { port = o.port; small = o.small; tail = o.tail; seen = o.seen; last = o.last; heard = o.heard; room = (let r = o.room in omega arith); kind = inl (v, e, o.synced, eh) }

  pub gathered_all : (w : Wire S) → IsOpenAt d t w → IsKnown d t (gathered F d w)
  gathered_all w o = by w.held refl
    where
      by : (h : Bool) → w.held ≡ h → IsKnown d t (gathered F d w)
      by false e = gathered_known w o e
      by true e = subst (IsKnown d t) (sym (gathered_held w e)) (held_known w o e)

  -- Ports by what the machine knows of them.

  pub unknown_open : (w : Wire S) → w.synced ≡ true → w.held ≡ false → is_unknown (port_of F d w) ≡ true
  unknown_open w es eh = ap₂ (λ h s. is_none (front h (sends_of F d w)) && is_some (own_if s w.sync_id)) eh es

  pub known_not : (w : Wire S) → IsKnown d t w → is_unknown (port_of F d w) ≡ false
  known_not w n = by n.kind
    where
      by : ((v : Want) × (d.want w.device ≡ Some v) × (w.synced ≡ true) × (w.held ≡ true)) ⊎ ((d.want w.device ≡ None) × (w.synced ≡ false) × (w.held ≡ false)) → is_unknown (port_of F d w) ≡ false
      by (inl q) = ap₂ (λ h (r : DeviceEnd S F × List Packet). is_none (front h r.1) && is_some (own_if w.synced w.sync_id)) q.3 (settles_open k d codec plan laws w q.0 q.2 q.1 (answered_at w q.0) refl)
      by (inr q) = ap₂ (λ h s. is_none (front h (sends_of F d w)) && is_some (own_if s w.sync_id)) q.2 q.1

  pub open_unclear : (w : Wire S) → w.synced ≡ true → is_clear (port_of F d w) ≡ false
  open_unclear w es = go (is_none (front w.held (sends_of F d w))) ∙ refl
    where
      go : (b : Bool) → (b && is_none (own_if w.synced w.sync_id)) ≡ false
      go true = ap (λ s. is_none (own_if s w.sync_id)) es
      go false = refl

  pub known_time : (w : Wire S) → IsKnown d t w → held_time (port_of F d w) ≡ want_time k (wired F d) plan w
  known_time w n = by n.kind
    where
      by : ((v : Want) × (d.want w.device ≡ Some v) × (w.synced ≡ true) × (w.held ≡ true)) ⊎ ((d.want w.device ≡ None) × (w.synced ≡ false) × (w.held ≡ false)) → held_time (port_of F d w) ≡ want_time k (wired F d) plan w
      by (inl q) = ap₂ (λ h (r : DeviceEnd S F × List Packet). option_map (λ (m : Packet). time_of m.body) (front h r.1)) q.3 (settles_open k d codec plan laws w q.0 q.2 q.1 (answered_at w q.0) refl)
          ∙ ap Some (request_time k d codec plan laws w.side.offer w.asks (d.due w.device) q.0 (answered_at w q.0))
          ∙ sym (ap (due_of k (wired F d) plan w) q.1)
      by (inr q) = ap (λ h. option_map (λ (m : Packet). time_of m.body) (front h (sends_of F d w))) q.2 ∙ sym (ap (due_of k (wired F d) plan w) q.0)

  pub none_clear : (w : Wire S) → IsKnown d t w → d.want w.device ≡ None → is_clear (port_of F d w) ≡ true
  none_clear w n e = by n.kind
    where
      by : ((v : Want) × (d.want w.device ≡ Some v) × (w.synced ≡ true) × (w.held ≡ true)) ⊎ ((d.want w.device ≡ None) × (w.synced ≡ false) × (w.held ≡ false)) → is_clear (port_of F d w) ≡ true
      by (inl q) = absurd (none-some q.0 (sym e ∙ q.1))
      by (inr q) = ap₂ (λ h s. is_none (front h (sends_of F d w)) && is_none (own_if s w.sync_id)) q.2 q.1
