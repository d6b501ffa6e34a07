-- The syncs of a boundary.
use Rattle.process_network.proofs.MovesAtPort.{get_set}
use Rattle.std.proofs.Common.{inr, ◌≡◌, ℕ, suc, ◌<◌, ◌≤◌, ◌⊎◌, inl, inr, Bool, true, false, ◌&&◌, List, [], ◌∷◌, length, set, map, Option, Some, None, slice_get, refl, sym, ap, ap₂, ◌∙◌, subst}
use Rattle.std.specs.Prelude.{nat_lt}
use Rattle.std.proofs.lemmas.List.{map-append, append-nil, map-set, set-set, length-set}
use Rattle.process_network.specs.PacketStar.{PacketLink, PacketWorld, with_sent, with_leaf}
use Rattle.process_network.proofs.MovesAtPort.{set_same, focus, hub_sends_one, leaf_takes_one}
use Rattle.cosim_model.specs.declared.values.Want.{Want}
use Rattle.cosim_model.specs.declared.values.Call.{Call}
use Rattle.cosim_model.specs.declared.values.Caps.{Caps}
use Rattle.cosim_model.specs.Parts.{DeviceModel, MasterModel, IsDevice}
use Rattle.cosim_model.specs.Packets.{body_size, Packet, Decoded, Codec}
use Rattle.cosim_model.specs.Packets.Body.{Sync}
use Rattle.cosim_model.specs.Packets.Decoded.{Valid}
use Rattle.cosim_model.specs.declared.session.OwnRequest.{OwnRequest}
use Rattle.cosim_model.specs.Sessions.{request_of, next_number}
use Rattle.ends_model.specs.DeviceTurn.{DeviceEnd, device_takes, device_took, device_looks, then_settled, settled, is_answered}
use Rattle.ends_model.specs.declared.ends.Phase.{Phase}
use Rattle.cosim_model.specs.declared.values.Plan.{Plan}
use Rattle.ends_model.specs.MachineTurn.{MachineEnd, PortEnd, requested, with_wait, after_sync, put_port}
use Rattle.ends_model.specs.declared.ends.Phase.TheVariants.{SyncTo, Gather}
use Rattle.every_schedule.specs.Wires.{Wire, unsettled, behind, sync_sent, sync_ticket}
use Rattle.ends_model.specs.World.{ends}
use Rattle.every_schedule.specs.Mirror.{port_of, post_of}
use Rattle.every_schedule.proofs.Lists.{get_mapped}
use Rattle.every_schedule.proofs.Takes.{device_s, own, packet, gets_sync}
use Rattle.every_schedule.proofs.Accesses.{want_cmd, want_len, device, asking_leaf, asking_packet, port_with, post_with, settles_asks}
use Rattle.every_schedule.proofs.AtPort.{IsFine, IsQuiet, IsAsking, kind_of}
use Rattle.every_schedule.proofs.Leads.{IsFew, HasFew, hub_sends, leaf_moves}
use Rattle.every_schedule.proofs.Short.{want_short}
use Rattle.every_schedule.proofs.Moves.{arrive, leads_on, Leads, frame, here}
use Rattle.every_schedule.proofs.Outlooks.{sync_outlook}

module _ {S : Type 0} (F : Type 0) (d : DeviceModel S) (s : S) (lines : Bool) (offer needs : Caps) (next : ℕ) (oo : Option OwnRequest) (last : ℕ) (own : Option Want) (calls : List Call) where
  pub device_syncs : (id t : ℕ) → last ≤ t → device_takes d (device F s lines (device_s offer needs next oo None None last) None own calls) (Valid (packet id 0 (Sync t))) ≡ then_settled d (device F (d.advance s t) lines (device_s offer needs next oo (Some (sync_ticket id)) None t) (Some (record { ticket = sync_ticket id; time = t })) own calls, [])
  device_syncs id t l = ap (device_took d (device F s lines (device_s offer needs next oo None None last) None own calls) (packet id 0 (Sync t))) (gets_sync offer needs next oo None last id t None l)

-- A port whose sync went out, before the count of its wait begins.
abbrev pub half : {S : Type 0} → (F : Type 0) → DeviceModel S → Wire S → ℕ → Wire S
half F d w t = record (sync_sent F d w t) { count = w.count }

abbrev pub restarted : {S : Type 0} → Wire S → Wire S
restarted w = record w { count = 0 }

module _ {M S F : Type 0} (k : MasterModel M) (d : DeviceModel S) (codec : Codec F) (plan : Plan) (laws : IsDevice d) where
  abbrev pub state : Phase → M → List Call → ℕ → Bool → List (Wire S) → PacketWorld (MachineEnd M F) (DeviceEnd S F) (Decoded F)
  state phase m calls t mk ws = record { hub = frame k d codec plan phase m calls t mk (map (port_of F d) ws); links = map (post_of F d) ws }

  pub enter : (phase : Phase) (m : M) (calls : List Call) (t : ℕ) (mk : Bool) (ws : List (Wire S)) (p : ℕ) (w : Wire S) → slice_get ws p ≡ Some w → state phase m calls t mk ws ≡ focus (map (post_of F d) ws) p (frame k d codec plan phase m calls t mk (set (map (port_of F d) ws) p (port_of F d w))) (post_of F d w)
  enter phase m calls t mk ws p w e = λ i. record { hub = frame k d codec plan phase m calls t mk (sym (set_same (map (port_of F d) ws) p (port_of F d w) (get_mapped (port_of F d) ws p w e)) i); links = sym (set_same (map (post_of F d) ws) p (post_of F d w) (get_mapped (post_of F d) ws p w e)) i }

  pub leave : (phase : Phase) (m : M) (calls : List Call) (t : ℕ) (mk : Bool) (ws : List (Wire S)) (p : ℕ) (w : Wire S) → focus (map (post_of F d) ws) p (frame k d codec plan phase m calls t mk (set (map (port_of F d) ws) p (port_of F d w))) (post_of F d w) ≡ state phase m calls t mk (set ws p w)
  leave phase m calls t mk ws p w = λ i. record { hub = frame k d codec plan phase m calls t mk (sym (map-set (port_of F d) ws p w) i); links = sym (map-set (post_of F d) ws p w) i }

  -- after the hub's move
  abbrev pub synced_hub : M → List Call → ℕ → Bool → List PortEnd → ℕ → Bool → MachineEnd M F
  synced_hub m calls t mk ports p true = frame k d codec plan (SyncTo (suc p)) m calls t mk ports
  synced_hub m calls t mk ports p false = frame k d codec plan Gather m calls t mk (map with_wait ports)

  module _ (links : List (PacketLink (DeviceEnd S F) (Decoded F))) (ports : List PortEnd) (p : ℕ) (inside : p < length links) (inside' : p < length ports) (phase : Phase) (m : M) (calls : List Call) (t : ℕ) (mk : Bool) where
    sends_sync : (q : PortEnd) (l : PacketLink (DeviceEnd S F) (Decoded F)) → (ends k d codec).hub_outlook (frame k d codec plan phase m calls t mk (set ports p q)) ≡ sync_outlook k (frame k d codec plan phase m calls t mk (set ports p q)) p (Some q) → IsFew l → Leads k d codec plan (here k d codec plan links ports p inside inside' phase m calls t mk q l) (focus links p (synced_hub m calls t mk (set ports p (requested q false (Sync t) 0 t)) p (nat_lt (suc p) (length ports))) (with_sent l (Valid (request_of q.session false (Sync t)))))
    sends_sync q l f few = hub_sends k d codec _ _ _ p (request_of q.session false (Sync t)) l f (get_set links p l inside) few (
        hub_sends_one (ends k d codec) links p inside (frame k d codec plan phase m calls t mk (set ports p q)) _ l (Valid (request_of q.session false (Sync t))) f
        ∙ ap (λ n. focus links p (after_sync k (put_port k (frame k d codec plan phase m calls t mk (set ports p q)) p (requested q false (Sync t) 0 t)) p (nat_lt (suc p) n)) (with_sent l (Valid (request_of q.session false (Sync t))))) (length-set ports p q)
        ∙ by (nat_lt (suc p) (length ports)))
      where
        by : (b : Bool) → focus links p (after_sync k (put_port k (frame k d codec plan phase m calls t mk (set ports p q)) p (requested q false (Sync t) 0 t)) p b) (with_sent l (Valid (request_of q.session false (Sync t)))) ≡ focus links p (synced_hub m calls t mk (set ports p (requested q false (Sync t) 0 t)) p b) (with_sent l (Valid (request_of q.session false (Sync t))))
        by true = ap (λ v. focus links p (frame k d codec plan (SyncTo (suc p)) m calls t mk v) (with_sent l (Valid (request_of q.session false (Sync t))))) (set-set ports p q (requested q false (Sync t) 0 t))
        by false = ap (λ v. focus links p (frame k d codec plan Gather m calls t mk (map with_wait v)) (with_sent l (Valid (request_of q.session false (Sync t))))) (set-set ports p q (requested q false (Sync t) 0 t))

    -- The device takes the sync, whatever the machine does.
    device_takes_it : (h : MachineEnd M F) (l : PacketLink (DeviceEnd S F) (Decoded F)) (x : Packet) (r : DeviceEnd S F × List Packet) → l.leaf.fault ≡ None → l.leaf.session.hello_went ≡ true → l.out_waiting ≡ Valid x ∷ [] → device_takes d l.leaf (Valid x) ≡ r → Leads k d codec plan (focus links p h l) (focus links p h (with_leaf l (Valid x) [] (r.0, map Valid r.1)))
    device_takes_it h l x r ok went new f = leaf_moves k d codec _ _ p (
        leaf_takes_one (ends k d codec) links p inside h l (Valid x) [] (ap₂ (λ o w. device_looks l.leaf o w) ok went) new
        ∙ ap (λ (r : DeviceEnd S F × List Packet). focus links p h (with_leaf l (Valid x) [] (r.0, map Valid r.1))) f)

    abbrev still : Wire S → Bool → Wire S
    still w h = record w { held = h; synced = false }

    abbrev hub_with : Wire S → Bool → DeviceEnd S F × List Packet → MachineEnd M F
    hub_with w h r = frame k d codec plan phase m calls t mk (set ports p (port_with w h r))

    -- the sync goes out and is taken, from a port whose settling gives r to one whose settling gives r'
    abbrev synced : Wire S → DeviceEnd S F × List Packet → Wire S → DeviceEnd S F × List Packet → Type 0
    synced w r w' r' = (ends k d codec).hub_outlook (hub_with w w.held r) ≡ sync_outlook k (hub_with w w.held r) p (Some (port_with w w.held r)) → Leads k d codec plan (focus links p (hub_with w w.held r) (post_with w w.held r)) (focus links p (synced_hub m calls t mk (set ports p (port_with w' w'.held r')) p (nat_lt (suc p) (length ports))) (post_with w' w'.held r'))

    module _ (w : Wire S) (l : w.last ≤ t) where
      abbrev pkt : Packet
      pkt = packet w.next 0 (Sync t)

      sync_quiet : synced (still w false) (unsettled (still w false), []) (half F d (still w false) t) (settled {F = F} d (unsettled (half F d (still w false) t)))
      sync_quiet f = leads_on k d codec plan _ _ _ (sends_sync (port_with (still w false) false r) (post_with (still w false) false r) f (refl, refl, inl refl)) (arrive k d codec plan _ _ _
          (device_takes_it (synced_hub m calls t mk (set ports p (port_with {F = F} hw false r')) p (nat_lt (suc p) (length ports))) (with_sent (post_with (still w false) false r) (Valid pkt)) pkt _ refl refl refl (device_syncs F d w.device w.side.answered_lines w.side.offer w.side.needs w.asks None w.last None w.calls w.next t l))
          (ap (λ (u : List (Decoded F)). focus links p (synced_hub m calls t mk (set ports p (port_with {F = F} hw false r')) p (nat_lt (suc p) (length ports))) (record { leaf = r'.0; out_taken = u; out_waiting = []; back_taken = map Valid w.back; back_waiting = map Valid r'.1 })) (sym (map-append Valid w.out (pkt ∷ [])))))
        where
          r : DeviceEnd S F × List Packet
          r = (unsettled (still w false), [])

          hw : Wire S
          hw = half F d (still w false) t

          r' : DeviceEnd S F × List Packet
          r' = settled d (unsettled hw)

      sync_asking : (v : Want) (h : Bool) (ask_m : Packet) → body_size ask_m.body ≤ 208 → synced (still w h) (asking_leaf F (still w h) v, ask_m ∷ []) (half F d (still w h) t) (asking_leaf F (half F d (still w h) t) v, ask_m ∷ [])
      sync_asking v h ask_m fits f = leads_on k d codec plan _ _ _ (sends_sync (port_with (still w h) h r) (post_with (still w h) h r) f (refl, refl, few h)) (arrive k d codec plan _ _ _
          (device_takes_it (synced_hub m calls t mk (set ports p (port_with {F = F} hw h r')) p (nat_lt (suc p) (length ports))) (with_sent (post_with (still w h) h r) (Valid pkt)) pkt _ refl refl refl (device_syncs F d w.device w.side.answered_lines w.side.offer w.side.needs (next_number w.asks) (own (want_cmd v) w.asks (want_len v)) w.last (Some v) w.calls w.next t l))
          (ap₂ (λ (u u' : List (Decoded F)). focus links p (synced_hub m calls t mk (set ports p (port_with {F = F} hw h r')) p (nat_lt (suc p) (length ports))) (record { leaf = r'.0; out_taken = u; out_waiting = []; back_taken = map Valid w.back; back_waiting = u' })) (sym (map-append Valid w.out (pkt ∷ []))) (append-nil (map Valid (behind h (ask_m ∷ []))))))
        where
          few : (h : Bool) → HasFew (map {B = Decoded F} Valid (behind h (ask_m ∷ [])))
          few true = inl refl
          few false = inr (ask_m, refl, fits)

          r : DeviceEnd S F × List Packet
          r = (asking_leaf F (still w h) v, ask_m ∷ [])

          hw : Wire S
          hw = half F d (still w h) t

          r' : DeviceEnd S F × List Packet
          r' = (asking_leaf F hw v, ask_m ∷ [])

    abbrev sync_goal : Wire S → Type 0
    sync_goal w = synced w (settled {F = F} d (unsettled w)) (half F d w t) (settled {F = F} d (unsettled (half F d w t)))

    -- A sync, whatever the device wants.
    pub sync_at : (w : Wire S) → IsFine d t w → sync_goal w
    sync_at w fine = by (kind_of F d t w fine)
      where
        is_still : (h : Bool) → w.held ≡ h → w ≡ still w h
        is_still h e = λ i. record w { held = e i; synced = fine.synced i }

        quiet_case : IsQuiet F d w → sync_goal w
        quiet_case e = subst sync_goal (sym (is_still false e.0)) (subst (λ r. synced (still w false) r (half F d (still w false) t) (settled {F = F} d (unsettled (half F d (still w false) t)))) (sym (subst (λ u. settled {F = F} d (unsettled u) ≡ (unsettled u, [])) (is_still false e.0) e.1)) (sync_quiet w fine.last))

        asking_case : (h : Bool) → w.held ≡ h → (v : Want) → d.want w.device ≡ Some v → is_answered (w.side.offer.posted && w.side.answered_lines) v ≡ true → sync_goal w
        asking_case h eh v e ask = subst sync_goal (sym (is_still h eh)) (subst (λ r. synced (still w h) r (half F d (still w h) t) (settled {F = F} d (unsettled (half F d (still w h) t)))) (sym (settles_asks F d (still w h) v e ask)) (subst (λ r. synced (still w h) (asking_leaf F (still w h) v, asking_packet w.side.offer w.asks (d.due w.device) v ∷ []) (half F d (still w h) t) r) (sym ends_at) (sync_asking w fine.last v h (asking_packet w.side.offer w.asks (d.due w.device) v) (want_short w.side.offer (d.needs w.device) (d.due w.device) v (laws.want_is w.device v e)))))
          where
            kept_want : (d.want (d.advance w.device t) ≡ Some v) × (d.due (d.advance w.device t) ≡ d.due w.device)
            kept_want = laws.advance_keeps w.device t v fine.seen e

            ends_at : settled {F = F} d (unsettled (half F d (still w h) t)) ≡ (asking_leaf F (half F d (still w h) t) v, asking_packet w.side.offer w.asks (d.due w.device) v ∷ [])
            ends_at = settles_asks F d (half F d (still w h) t) v kept_want.0 ask ∙ ap (λ (n : ℕ). (asking_leaf F (half F d (still w h) t) v, asking_packet w.side.offer w.asks n v ∷ [])) kept_want.1

        by : IsQuiet F d w ⊎ IsAsking d w → sync_goal w
        by (inl q) = quiet_case q
        by (inr q) = asking_case w.held refl q.0 q.1 q.2
