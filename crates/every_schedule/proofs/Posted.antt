-- A posted write at a port: the machine sends it and goes on, and the device takes it.
use Rattle.std.proofs.Common.{inl, inr, ◌≤◌, ◌≡◌, ℕ, suc, ◌<◌, ◌≤◌, Bool, true, false, List, [], ◌∷◌, ◌++◌, length, map, Option, Some, None, refl, sym, ap, ap₂, ◌∙◌}
use Rattle.std.proofs.lemmas.List.{map-append, append-nil}
use Rattle.process_network.specs.PacketStar.{PacketLink, PacketWorld, with_sent}
use Rattle.cosim_model.specs.declared.values.Access.{Access}
use Rattle.cosim_model.specs.declared.values.Answer.{Answer}
use Rattle.cosim_model.specs.declared.values.Want.{Want}
use Rattle.cosim_model.specs.declared.values.Call.{Call}
use Rattle.cosim_model.specs.declared.values.Caps.{Caps}
use Rattle.cosim_model.specs.Values.{plain, bytes_of, bits_of}
use Rattle.cosim_model.specs.declared.values.Call.TheVariants as call
use Rattle.cosim_model.specs.Parts.{DeviceModel, MasterModel, IsAccess}
use Rattle.cosim_model.specs.Packets.{body_size, BusFields, Packet, Decoded, Codec}
use Rattle.cosim_model.specs.Packets.Body.{Write}
use Rattle.cosim_model.specs.Packets.Decoded.{Valid}
use Rattle.cosim_model.specs.declared.session.OwnRequest.{OwnRequest}
use Rattle.cosim_model.specs.Sessions.{next_number}
use Rattle.ends_model.specs.DeviceTurn.{want_body, DeviceEnd, device_takes, device_took, then_settled, do_posted, settled}
use Rattle.ends_model.specs.declared.ends.Phase.{Phase}
use Rattle.cosim_model.specs.declared.values.Plan.{Plan}
use Rattle.ends_model.specs.MachineTurn.{MachineEnd, PortEnd, access_body, access_fields, is_boundary_due}
use Rattle.ends_model.specs.declared.ends.Phase.TheVariants.{Run}
use Rattle.every_schedule.specs.Wires.{Wire, unsettled, behind, access_sent, did_access}
use Rattle.every_schedule.proofs.Takes.{device_s, own, packet, nothing_beyond, gets_posted}
use Rattle.every_schedule.proofs.PacketFacts.{IsClear, device_size, same_access}
use Rattle.every_schedule.proofs.Accesses.{want_cmd, want_len, device, asking_leaf, asking_packet, port_with, post_with}
use Rattle.every_schedule.proofs.Leads.{IsFew, HasFew}
use Rattle.every_schedule.proofs.Moves.{arrive, leads_on, Leads, here, send_posted, device_moves}

module _ {S : Type 0} (F : Type 0) (d : DeviceModel S) (s : S) (lines : Bool) (offer needs : Caps) (next : ℕ) (oo : Option OwnRequest) (last : ℕ) (own : Option Want) (calls : List Call) where
  abbrev was : DeviceEnd S F
  was = device F s lines (device_s offer needs next oo None None last) None own calls

  abbrev posted_of : Access → Access
  posted_of b = record b { write = true; posted = true }

  abbrev did : ℕ → Access → DeviceEnd S F
  did t a = device F (d.access s t a).0 lines (device_s offer needs next oo None None t) None own (calls ++ call.Access t 0 a (plain a (d.access s t a).1) ∷ [])

  pub device_posts : (id t : ℕ) (b : Access) → last ≤ t → IsAccess (posted_of b) → IsClear offer (posted_of b) → device_takes d was (Valid (packet id 4 (access_body offer t (posted_of b)))) ≡ then_settled d (did t (posted_of b), [])
  device_posts id t b l la clear =
      ap (device_took d was (packet id 4 (Write f))) (gets_posted offer needs next oo None last id f None (nothing_beyond offer t b.addr b.size (bytes_of b.value b.size) (bits_of b.lanes b.size)) l)
      ∙ ap (λ v. then_settled d (do_posted d (device F s lines (device_s offer needs next oo None None t) None own calls) f v)) (device_size offer t (posted_of b) la)
      ∙ ap (λ (c : Access). then_settled d (did t c, [])) (same_access offer t (posted_of b) la clear)
    where
      f : BusFields
      f = access_fields offer t (posted_of b)

module _ {M S F : Type 0} (k : MasterModel M) (d : DeviceModel S) (codec : Codec F) (plan : Plan) (links : List (PacketLink (DeviceEnd S F) (Decoded F))) (ports : List PortEnd) (p : ℕ) (inside : p < length links) (inside' : p < length ports)
    (b : Access) (w : Wire S) (m : M) (calls : List Call) (t : ℕ) (mk : Bool)
    (l : w.last ≤ t) (la : IsAccess (record b { write = true; posted = true })) (clear : IsClear w.side.offer (record b { write = true; posted = true }))
    (due : is_boundary_due k plan m t mk ≡ false)
    (issues : (k.issue m).1 ≡ Some (record { port = p; access = record b { write = true; posted = true } })) where
  abbrev at : Phase → M → List Call → ℕ → Bool → PortEnd → PacketLink (DeviceEnd S F) (Decoded F) → PacketWorld (MachineEnd M F) (DeviceEnd S F) (Decoded F)
  at phase m calls t b q l = here k d codec plan links ports p inside inside' phase m calls t b q l

  abbrev a : Access
  a = record b { write = true; posted = true }

  abbrev x : Answer
  x = record { code = 0; value = 0 }

  abbrev pkt : Packet
  pkt = packet w.next 4 (access_body w.side.offer t a)

  abbrev ask_m : Want → Packet
  ask_m v = asking_packet w.side.offer w.asks (d.due w.device) v

  abbrev was_held : Bool → Wire S
  was_held h = record w { held = h; synced = false }

  abbrev after_w : Bool → Wire S
  after_w h = did_access F d (access_sent F d (was_held h) t a) t a

  abbrev goal : DeviceEnd S F × List Packet → DeviceEnd S F × List Packet → Bool → Type 0
  goal r r' h = Leads k d codec plan (at Run m calls t mk (port_with (was_held h) h r) (post_with (was_held h) h r)) (at Run (k.finish (k.issue m).0 x) (calls ++ call.Access t p a x ∷ []) (suc t) false (port_with {S = S} {F = F} (after_w h) h r') (post_with (after_w h) h r'))

  sends_it : (h : Bool) (r : DeviceEnd S F × List Packet) → IsFew (post_with (was_held h) h r) → Leads k d codec plan (at Run m calls t mk (port_with (was_held h) h r) (post_with (was_held h) h r)) (at Run (k.finish (k.issue m).0 x) (calls ++ call.Access t p a x ∷ []) (suc t) false (port_with {S = S} {F = F} (after_w h) h r) (with_sent (post_with (was_held h) h r) (Valid pkt)))
  sends_it h r few = send_posted k d codec plan links ports p inside inside' m calls t mk a (port_with (was_held h) h r) (post_with (was_held h) h r) due issues refl few

  pub posted_quiet : goal (unsettled (was_held false), []) (settled d (unsettled (after_w false))) false
  posted_quiet = leads_on k d codec plan _ _ _ (sends_it false (unsettled (was_held false), []) (refl, refl, inl refl)) (arrive k d codec plan _ _ _
      (device_moves k d codec plan links ports p inside inside' Run (k.finish (k.issue m).0 x) (calls ++ call.Access t p a x ∷ []) (suc t) false (port_with {S = S} {F = F} (after_w false) false (unsettled (was_held false), [])) (with_sent (post_with (was_held false) false (unsettled (was_held false), [])) (Valid pkt)) pkt _ refl refl refl (device_posts F d w.device w.side.answered_lines w.side.offer w.side.needs w.asks None w.last None w.calls w.next t b l la clear))
      (ap (λ (u : List (Decoded F)). at Run (k.finish (k.issue m).0 x) (calls ++ call.Access t p a x ∷ []) (suc t) false (port_with {S = S} {F = F} (after_w false) false (settled d (unsettled (after_w false)))) (record { leaf = (settled {F = F} d (unsettled (after_w false))).0; out_taken = u; out_waiting = []; back_taken = map Valid w.back; back_waiting = map Valid (settled {F = F} d (unsettled (after_w false))).1 })) (sym (map-append Valid w.out (pkt ∷ [])))))

  pub posted_asking : (v : Want) (h : Bool) → body_size (want_body w.side.offer (d.due w.device) v) ≤ 208 → goal (asking_leaf F (was_held h) v, ask_m v ∷ []) (asking_leaf F (after_w h) v, ask_m v ∷ []) h
  posted_asking v h fits = leads_on k d codec plan _ _ _ (sends_it h (asking_leaf F (was_held h) v, ask_m v ∷ []) (refl, refl, few h)) (arrive k d codec plan _ _ _
      (device_moves k d codec plan links ports p inside inside' Run (k.finish (k.issue m).0 x) (calls ++ call.Access t p a x ∷ []) (suc t) false (port_with {S = S} {F = F} (after_w h) h (asking_leaf F (was_held h) v, ask_m v ∷ [])) (with_sent (post_with (was_held h) h (asking_leaf F (was_held h) v, ask_m v ∷ [])) (Valid pkt)) pkt _ refl refl refl (device_posts F d w.device w.side.answered_lines w.side.offer w.side.needs (next_number w.asks) (own (want_cmd v) w.asks (want_len v)) w.last (Some v) w.calls w.next t b l la clear))
      (ap₂ (λ (u u' : List (Decoded F)). at Run (k.finish (k.issue m).0 x) (calls ++ call.Access t p a x ∷ []) (suc t) false (port_with {S = S} {F = F} (after_w h) h (asking_leaf F (after_w h) v, ask_m v ∷ [])) (record { leaf = asking_leaf F (after_w h) v; out_taken = u; out_waiting = []; back_taken = map Valid w.back; back_waiting = u' })) (sym (map-append Valid w.out (pkt ∷ []))) (append-nil (map Valid (behind h (ask_m v ∷ []))))))
    where
      few : (h : Bool) → HasFew (map {B = Decoded F} Valid (behind h (ask_m v ∷ [])))
      few true = inl refl
      few false = inr (ask_m v, refl, fits)
