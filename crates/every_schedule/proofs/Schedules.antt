-- The statement on schedules.
use Rattle.std.proofs.Common.{◌≡◌, ℕ, zero, suc, ◌⊎◌, inl, inr, true, List, [], ◌∷◌, ◌++◌, length, map, get_or, Option, Some, None, is_some, slice_get, false, refl, sym, ap, ap₂, ◌∙◌, subst, arith}
use Rattle.std.proofs.lemmas.List.{append-nil}
use Rattle.std.proofs.lemmas.Option.{get_or_from_slice_get}
use Rattle.process_network.specs.Network.{IsPrefix}
use Rattle.process_network.specs.Star.{Star, IsStarMonotone, leaf_received, leaf_turn_of, StarWorld, StarStep, IsStarQuiescent, star_all, star_start, star_effective, link, Link, new_link}
use Rattle.process_network.specs.CalmRun.{Calm, IsCalmResult, all_delivered, traffic_at, delivered_link, no_traffic, script_of, calm_start}
use Rattle.process_network.proofs.HubHalted.{hub_leads, leaf_leads}
use Rattle.process_network.proofs.CalmRuns.{leaf_heard_calm, script_ends, script_quiescent}
use Rattle.process_network.proofs.PacketRuns.{ends_monotone}
use Rattle.process_network.specs.PacketStar.{Ends, HubEnd, LeafEnd, PacketLink, star_of, fresh_hub, fresh_leaf, written, in_bytes, link_traffic, link_leaf}
use Rattle.cosim_model.specs.Parts.{DeviceModel, MasterModel, IsDevice, IsMaster}
use Rattle.cosim_model.specs.Packets.{Packet, Decoded, Codec, IsCodec, spell}
use Rattle.cosim_model.specs.Packets.Decoded.{Valid}
use Rattle.ends_model.specs.DeviceTurn.{DeviceEnd, settled}
use Rattle.cosim_model.specs.declared.values.Plan.{Plan}
use Rattle.ends_model.specs.MachineTurn.{MachineEnd}
use Rattle.cosim_model.specs.Direct.{Direct, direct_start}
use Rattle.ends_model.specs.World.{Side}
use Rattle.every_schedule.specs.Wires.{Wire, unsettled, met_wire}
use Rattle.ends_model.specs.World.{ends, machine_start, device_start, Fit, of_port, world}
use Rattle.ends_model.specs.declared.ends.Phase.TheVariants.{Done}
use Rattle.ends_model.specs.Traffic.{Sent, wire_out, out_device}
use Rattle.every_schedule.proofs.WireTraffic.{sent_from, sides_from}
use Rattle.every_schedule.proofs.OutDevice.{run_is_out}
use Rattle.process_network.proofs.EndRuns.{star_leaf_runs}
use Rattle.process_network.specs.Star.StarStep.{LeafTurn}
use Rattle.every_schedule.specs.Mirror.{post_of}
use Rattle.every_schedule.specs.Schedules.{directly, bytes_out, bytes_back, IsEnd, IsDelivered, IsEverySchedule}
use Rattle.every_schedule.proofs.Lists.{unmapped, Each, each_at, get_mapped, map_both, map_each, each_to}
use Rattle.every_schedule.proofs.Whole.{IsSpent}
use Rattle.every_schedule.proofs.Forget.{mapped}
use Rattle.every_schedule.proofs.Grows.{HubLater, LeafLater, hub_later, hub_later_self, leaf_later, leaf_later_self}
use Rattle.every_schedule.proofs.DeviceCalls.{from_keeps}
use Rattle.every_schedule.proofs.Headline.{hub_start, leaf_starts, run_moves, run_rests, run_ends, ran, last, mirrored, spent_rests, unread_none, every_schedule, is_direct}

module _ {M S F : Type 0} (k : MasterModel M) (d : DeviceModel S) (codec : Codec F) (plan : Plan) (laws : IsDevice d) (laws' : IsMaster k) (coded : IsCodec codec) (m : M) (xs : List (Side × S)) (fit : Fit k d plan m xs) where
  abbrev e : Ends (MachineEnd M F) (DeviceEnd S F) (Decoded F)
  e = ends k d codec

  abbrev final : Calm (HubEnd (MachineEnd M F)) (LeafEnd (DeviceEnd S F))
  final = in_bytes e (last k d codec plan laws laws' coded m xs fit)

  abbrev wires : List (Wire S)
  wires = (ran k d codec plan laws laws' coded m xs fit).devices

  spent : Each (IsSpent k d codec plan laws laws') wires
  spent = (mirrored k d codec plan laws laws' coded m xs fit).1

  -- The bytes of packets.
  valid_bytes : (ps : List Packet) → written (spell codec) (map Valid ps) ≡ written codec.write ps
  valid_bytes [] = refl
  valid_bytes (x ∷ ps) = ap (λ (bs : List ℕ). codec.write x ++ bs) (valid_bytes ps)

  pub wire_traffic : (p : ℕ) (w : Wire S) → slice_get wires p ≡ Some w → ◌≡◌ {A = List ℕ × List ℕ} (traffic_at final.traffic p) (written codec.write w.out, written codec.write w.back)
  wire_traffic p w g =
      get_or_from_slice_get (map (link_traffic e) (map (post_of F d) wires)) p (link_traffic e (post_of F d w)) no_traffic (get_mapped (link_traffic e) (map (post_of F d) wires) p (post_of F d w) (get_mapped (post_of F d) wires p w g))
      ∙ ap₂ (λ (u v : List (Decoded F)). (written (spell codec) u, written (spell codec) v)) (append-nil (map Valid w.out)) (ap (λ (ms : List (Decoded F)). map Valid w.back ++ ms) (unread_none k d codec plan laws laws' coded m xs fit w (each_at (IsSpent k d codec plan laws laws') wires p w spent g)) ∙ append-nil (map Valid w.back))
      ∙ ap₂ (λ (u v : List ℕ). (u, v)) (valid_bytes w.out) (valid_bytes w.back)

  met : List (Wire S)
  met = map (λ (x : Side × S). met_wire x.0 x.1) xs

  pub run_sides : map (λ (w : Wire S). w.side) (ran k d codec plan laws laws' coded m xs fit).devices ≡ map (λ (x : Side × S). x.0) xs
  run_sides = sides_from F k d plan laws plan.units (direct_start m (map (λ (x : Side × S). met_wire x.0 x.1) xs)) ∙ map_both (λ (w : Wire S). w.side) (λ (x : Side × S). met_wire x.0 x.1) (λ (x : Side × S). x.0) (λ x. refl) xs

  -- the wire of a port
  pub wire_at : (p : ℕ) (x : Side × S) → slice_get xs p ≡ Some x → (w : Wire S) × (slice_get wires p ≡ Some w) × (w.side ≡ x.0)
  wire_at p x g = unmapped (λ (w : Wire S). w.side) wires p x.0
      (ap (λ (ss : List Side). slice_get ss p) (sides_from F k d plan laws plan.units (direct_start m (map (λ (x : Side × S). met_wire x.0 x.1) xs)) ∙ map_both (λ (w : Wire S). w.side) (λ (x : Side × S). met_wire x.0 x.1) (λ (x : Side × S). x.0) (λ x. refl) xs)
      ∙ get_mapped (λ (x : Side × S). x.0) xs p x g)

  -- and what it keeps of the machine end's packets
  pub wire_is : (p : ℕ) (w : Wire S) → slice_get wires p ≡ Some w → w.out ≡ wire_out w.side p (directly k d codec plan m xs).history
  wire_is p w g =
      ap (λ (s : Sent). s.out) (sent_from F k d plan laws plan.units (direct_start m (map (λ (x : Side × S). met_wire x.0 x.1) xs)) (λ p w g. let u = unmapped (λ (x : Side × S). met_wire x.0 x.1) xs p w g in ap (λ (w : Wire S). record { next = w.next; asks = w.asks; out = w.out }) (sym u.2)) p w g)
      ∙ ap (λ (r : Direct M S). wire_out w.side p r.history) (is_direct k d codec plan laws laws' coded m xs fit)

  link_is : (c : Calm (HubEnd (MachineEnd M F)) (LeafEnd (DeviceEnd S F))) (p : ℕ) → link (all_delivered c) p ≡ delivered_link (traffic_at c.traffic p)
  link_is c p = go c.traffic p
    where
      go : (ts : List (List ℕ × List ℕ)) (p : ℕ) → get_or (map delivered_link ts) p new_link ≡ delivered_link (get_or ts p no_traffic)
      go [] p = refl
      go (t ∷ ts) zero = refl
      go (t ∷ ts) (suc p) = go ts p

  kept_calls : (p : ℕ) (w : Wire S) → slice_get wires p ≡ Some w → w.calls ≡ of_port p (directly k d codec plan m xs).calls
  kept_calls p w g =
      (from_keeps F k d plan laws plan.units (direct_start m (map (λ (x : Side × S). met_wire x.0 x.1) xs)) (λ p w g. let u = unmapped (λ (x : Side × S). met_wire x.0 x.1) xs p w g in ((let s = fit.seen p u.0 u.1 in let e : d.seen w.device ≡ d.seen u.0.1 = ap (λ (w : Wire S). d.seen w.device) (sym u.2) in omega arith), ap (λ (w : Wire S). w.calls) (sym u.2))) p w g).1
      ∙ ap (λ (r : Direct M S). of_port p r.calls) (is_direct k d codec plan laws laws' coded m xs fit)

  end_calls : (p : ℕ) (l : LeafEnd (DeviceEnd S F)) → slice_get final.leaves p ≡ Some l → l.core.calls ≡ of_port p (directly k d codec plan m xs).calls
  end_calls p l g =
      let u = unmapped (link_leaf e) (map (post_of F d) wires) p l g in
      let v = unmapped (post_of F d) wires p u.0 u.1 in
      ap (λ (l : LeafEnd (DeviceEnd S F)). l.core.calls) (sym u.2)
      ∙ ap (λ (q : PacketLink (DeviceEnd S F) (Decoded F)). q.leaf.calls) (sym v.2)
      ∙ ap (λ (r : DeviceEnd S F × List Packet). r.0.calls) (spent_rests k d codec plan laws laws' coded m xs fit v.0 (each_at (IsSpent k d codec plan laws laws') wires p v.0 spent v.1))
      ∙ kept_calls p v.0 v.1

  result : IsCalmResult (star_of e) (fresh_hub (machine_start F m (length xs) plan) (length (map (λ (x : Side × S). device_start F x.0 x.1) xs))) (map fresh_leaf (map (λ (x : Side × S). device_start F x.0 x.1) xs)) (every_schedule k d codec plan laws laws' coded m xs fit).0 final
  result = (every_schedule k d codec plan laws laws' coded m xs fit).1

  -- Whatever the schedule, each end is before its last state.
  abbrev st : Star (HubEnd (MachineEnd M F)) (LeafEnd (DeviceEnd S F))
  st = star_of e

  steady : IsStarMonotone (star_of e)
  steady = ends_monotone e coded.decided

  abbrev hub0 : HubEnd (MachineEnd M F)
  hub0 = hub_start k d codec plan laws laws' coded m xs fit

  abbrev leaves0 : List (LeafEnd (DeviceEnd S F))
  leaves0 = leaf_starts k d codec plan laws laws' coded m xs fit

  abbrev sc : List StarStep
  sc = script_of (star_of e) (calm_start hub0 leaves0) (run_moves k d codec plan laws laws' coded m xs fit)

  sc_ends : star_all (star_of e) (star_start hub0 leaves0) sc ≡ all_delivered final
  sc_ends = script_ends (star_of e) steady hub0 leaves0 (run_moves k d codec plan laws laws' coded m xs fit) (run_rests k d codec plan laws laws' coded m xs fit) ∙ ap all_delivered (run_ends k d codec plan laws laws' coded m xs fit)

  pub final_out : (p : ℕ) (x : Side × S) → slice_get xs p ≡ Some x → (traffic_at final.traffic p).0 ≡ bytes_out k d codec plan m xs p x
  final_out p x g =
      let w = wire_at p x g in
      ap (λ (t : List ℕ × List ℕ). t.0) (wire_traffic p w.0 w.1)
      ∙ ap (λ (ps : List Packet). written codec.write ps) (wire_is p w.0 w.1)
      ∙ ap (λ (s : Side). written codec.write (wire_out s p (directly k d codec plan m xs).history)) w.2

  -- What a device end sent is what it sends over the bytes that it received.
  leaf_start : (p : ℕ) (x : Side × S) → slice_get xs p ≡ Some x → slice_get leaves0 p ≡ Some (fresh_leaf (device_start F x.0 x.1))
  leaf_start p x g = get_mapped fresh_leaf (map (λ (x : Side × S). device_start F x.0 x.1) xs) p (device_start F x.0 x.1) (get_mapped (λ (x : Side × S). device_start F x.0 x.1) xs p x g)

  pub final_back : (p : ℕ) (x : Side × S) → slice_get xs p ≡ Some x → (traffic_at final.traffic p).1 ≡ bytes_back k d codec plan m xs p x
  final_back p x g =
      let run = star_leaf_runs st steady hub0 leaves0 sc p (fresh_leaf (device_start F x.0 x.1)) (leaf_start p x g) in
      let all = sc_ends in
      let received : leaf_received (star_all (star_of e) (star_start hub0 leaves0) sc) p ≡ (traffic_at final.traffic p).0 = ap (λ (w : StarWorld (HubEnd (MachineEnd M F)) (LeafEnd (DeviceEnd S F))). leaf_received w p) all ∙ leaf_heard_calm final p in
      let sent : (link (star_all (star_of e) (star_start hub0 leaves0) sc) p).back ≡ (traffic_at final.traffic p).1 = ap (λ (w : StarWorld (HubEnd (MachineEnd M F)) (LeafEnd (DeviceEnd S F))). (link w p).back) all ∙ ap (λ (l : Link). l.back) (link_is final p) in
      let quiet = script_quiescent (star_of e) steady hub0 leaves0 (run_moves k d codec plan laws laws' coded m xs fit) (run_rests k d codec plan laws laws' coded m xs fit) in
      let stops : (star_of e).leaf_turn run.1 (leaf_received (star_all (star_of e) (star_start hub0 leaves0) sc) p) ≡ None = no_turn _ (ap (λ (o : Option (LeafEnd (DeviceEnd S F))). is_some (leaf_turn_of st o (leaf_received (star_all (star_of e) (star_start hub0 leaves0) sc) p))) (sym run.2) ∙ quiet (LeafTurn p)) in
      sym sent
      ∙ run_is_out k d codec coded.decided (device_start F x.0 x.1) (leaf_received (star_all (star_of e) (star_start hub0 leaves0) sc) p) run.0 run.1 (link (star_all (star_of e) (star_start hub0 leaves0) sc) p).back refl run.3 stops
      ∙ ap (out_device d codec (device_start F x.0 x.1)) (received ∙ final_out p x g)
    where
      no_turn : {A : Type 0} (o : Option A) → is_some o ≡ false → o ≡ None
      no_turn None f = refl
      no_turn (Some a) f = absurd (true_false f)
        where
          true_false : true ≡ false → ⊥
          true_false f = cc

  pub final_is_end : IsEnd k d codec plan m xs (all_delivered final)
  final_is_end = record {
    phase = refl;
    master = ap (λ (r : Direct M S). r.master) same;
    calls = ap (λ (r : Direct M S). r.calls) same;
    tick = ap (λ (r : Direct M S). r.tick) same;
    devices = devs ∙ ap (λ (r : Direct M S). r.devices) same;
    device_calls = end_calls;
    out = λ p x g. ap (λ (l : Link). l.out) (link_is final p) ∙ final_out p x g;
    back = λ p x g. ap (λ (l : Link). l.back) (link_is final p) ∙ final_back p x g;
  }
    where
      same : mapped (λ (w : Wire S). w.device) (ran k d codec plan laws laws' coded m xs fit) ≡ directly k d codec plan m xs
      same = is_direct k d codec plan laws laws' coded m xs fit

      devs : map (λ (l : LeafEnd (DeviceEnd S F)). l.core.device) (map (link_leaf e) (map (post_of F d) wires)) ≡ map (λ (w : Wire S). w.device) wires
      devs = map_both (λ (l : LeafEnd (DeviceEnd S F)). l.core.device) (link_leaf e) (λ (q : PacketLink (DeviceEnd S F) (Decoded F)). q.leaf.device) (λ q. refl) (map (post_of F d) wires)
          ∙ map_both (λ (q : PacketLink (DeviceEnd S F) (Decoded F)). q.leaf.device) (post_of F d) (λ w. (settled {F = F} d (unsettled w)).0.device) (λ w. refl) wires
          ∙ map_each (λ w. (settled {F = F} d (unsettled w)).0.device) (λ (w : Wire S). w.device) wires (each_to (IsSpent k d codec plan laws laws') (λ w. (settled {F = F} d (unsettled w)).0.device ≡ w.device) (λ w s. ap (λ (r : DeviceEnd S F × List Packet). r.0.device) (spent_rests k d codec plan laws laws' coded m xs fit w s)) wires spent)

  pub final_delivered : IsDelivered k d codec plan m xs (all_delivered final)
  final_delivered = record {
    out = λ p. ap (λ (l : Link). l.out_delivered) (link_is final p) ∙ sym (ap (λ (l : Link). length l.out) (link_is final p));
    back = λ p. ap (λ (l : Link). l.back_delivered) (link_is final p) ∙ sym (ap (λ (l : Link). length l.back) (link_is final p));
  }

  at_end : (ss : List StarStep) → IsStarQuiescent (star_of e) (world k d codec plan m xs ss) → IsEnd k d codec plan m xs (world k d codec plan m xs ss)
  at_end ss stuck = subst (IsEnd k d codec plan m xs) (sym (result.same ss stuck)) final_is_end

  hub_before : (ss : List StarStep) → HubLater k d codec (world k d codec plan m xs ss).hub final.hub
  hub_before ss = subst (λ (w : StarWorld (HubEnd (MachineEnd M F)) (LeafEnd (DeviceEnd S F))). HubLater k d codec (world k d codec plan m xs ss).hub w.hub) sc_ends
      (hub_leads (star_of e) steady hub0 leaves0 sc (script_quiescent (star_of e) steady hub0 leaves0 (run_moves k d codec plan laws laws' coded m xs fit) (run_rests k d codec plan laws laws' coded m xs fit)) ss (HubLater k d codec) (hub_later_self k d codec) (hub_later k d codec))

  leaf_before : (ss : List StarStep) (p : ℕ) (l l' : LeafEnd (DeviceEnd S F)) → slice_get (world k d codec plan m xs ss).leaves p ≡ Some l → slice_get final.leaves p ≡ Some l' → LeafLater k d codec l l'
  leaf_before ss p l l' g g' = leaf_leads (star_of e) steady hub0 leaves0 sc (script_quiescent (star_of e) steady hub0 leaves0 (run_moves k d codec plan laws laws' coded m xs fit) (run_rests k d codec plan laws laws' coded m xs fit)) ss (LeafLater k d codec) (leaf_later_self k d codec) (leaf_later k d codec) p l l' g
      (ap (λ (w : StarWorld (HubEnd (MachineEnd M F)) (LeafEnd (DeviceEnd S F))). slice_get w.leaves p) sc_ends ∙ g')

  last_leaf : (p : ℕ) (w : Wire S) → slice_get wires p ≡ Some w → slice_get final.leaves p ≡ Some (link_leaf e (post_of F d w))
  last_leaf p w g = get_mapped (link_leaf e) (map (post_of F d) wires) p (post_of F d w) (get_mapped (post_of F d) wires p w g)

  leaf_rests : (p : ℕ) (w : Wire S) → slice_get wires p ≡ Some w → settled {F = F} d (unsettled w) ≡ (unsettled w, [])
  leaf_rests p w g = spent_rests k d codec plan laws laws' coded m xs fit w (each_at (IsSpent k d codec plan laws laws') wires p w spent g)

  device_before : (ss : List StarStep) (p : ℕ) (l : LeafEnd (DeviceEnd S F)) (w : Wire S) → slice_get (world k d codec plan m xs ss).leaves p ≡ Some l → slice_get wires p ≡ Some w → IsPrefix l.core.calls w.calls × (l.core.fault ≡ None)
  device_before ss p l w g g' =
      let r = leaf_before ss p l (link_leaf e (post_of F d w)) g (last_leaf p w g') in (
        subst (IsPrefix l.core.calls) (ap (λ (r : DeviceEnd S F × List Packet). r.0.calls) (leaf_rests p w g')) r.0,
        r.1 (ap (λ (r : DeviceEnd S F × List Packet). r.0.fault) (leaf_rests p w g')),
      )

  direct_calls : (ss : List StarStep) → IsPrefix (world k d codec plan m xs ss).hub.core.calls (directly k d codec plan m xs).calls
  direct_calls ss = subst (IsPrefix (world k d codec plan m xs ss).hub.core.calls) (ap (λ (r : Direct M S). r.calls) same) (hub_before ss).0
    where
      same : mapped (λ (w : Wire S). w.device) (ran k d codec plan laws laws' coded m xs fit) ≡ directly k d codec plan m xs
      same = is_direct k d codec plan laws laws' coded m xs fit

  -- An end before its last state.
  pub goes_on : (ss : List StarStep) → IsEnd k d codec plan m xs (world k d codec plan m xs ss) ⊎ ((s : StarStep) × (star_effective (star_of e) (world k d codec plan m xs ss) s ≡ true))
  goes_on ss = by (result.progress ss)
    where
      by : IsStarQuiescent (star_of e) (world k d codec plan m xs ss) ⊎ ((s : StarStep) × (star_effective (star_of e) (world k d codec plan m xs ss) s ≡ true)) → IsEnd k d codec plan m xs (world k d codec plan m xs ss) ⊎ ((s : StarStep) × (star_effective (star_of e) (world k d codec plan m xs ss) s ≡ true))
      by (inl s) = inl (at_end ss s)
      by (inr s) = inr s

  pub no_fault : (ss : List StarStep) → (world k d codec plan m xs ss).hub.core.fault ≡ None
  no_fault ss = (hub_before ss).1 refl

  pub schedules : ((ss : List StarStep) → (world k d codec plan m xs ss).hub.core.phase ≡ Done → IsEnd k d codec plan m xs (world k d codec plan m xs ss) × IsDelivered k d codec plan m xs (world k d codec plan m xs ss)) → IsEverySchedule k d codec plan m xs
  schedules done = record {
    out = λ ss p x g. subst (IsPrefix (link (world k d codec plan m xs ss) p).out) (final_out p x g) (result.out_prefix ss p);
    back = λ ss p x g. subst (IsPrefix (link (world k d codec plan m xs ss) p).back) (final_back p x g) (result.back_prefix ss p);
    calls = direct_calls;
    sound = no_fault;
    device_calls = λ ss p l x g g'. let w = wire_at p x g' in subst (IsPrefix l.core.calls) (kept_calls p w.0 w.1) (device_before ss p l w.0 g w.1).0;
    device_sound = λ ss p l x g g'. let w = wire_at p x g' in (device_before ss p l w.0 g w.1).1;
    goes_on = goes_on;
    ends_there = done;
  }
