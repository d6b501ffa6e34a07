-- A unit of the machine.
use Rattle.ends_model.specs.World.{Side}
use Rattle.cosim_model.specs.Direct.Moment.{Called}
use Rattle.every_schedule.proofs.Leads.{hub_alone, between}
use Rattle.every_schedule.proofs.Counted.{IsCount, Counted, count_one, count_tick, lonely_called}
use Rattle.std.proofs.Common.{◌≡◌, ℕ, zero, suc, ◌^◌, ◌<◌, ◌≤◌, ◌⊎◌, inl, inr, Bool, true, false, ◌&&◌, List, [], ◌∷◌, ◌++◌, length, set, map, Option, Some, None, slice_get, refl, sym, ap, ap₂, ◌∙◌, subst, arith}
use Rattle.std.proofs.lemmas.List.{length-set, length-map}
use Rattle.std.proofs.lemmas.Option.{slice_get_within}
use Rattle.process_network.specs.PacketStar.{PacketWorld, hub_packet_move}
use Rattle.process_network.proofs.MovesAtPort.{focus}
use Rattle.cosim_model.specs.declared.values.Access.{Access}
use Rattle.cosim_model.specs.declared.values.Answer.{Answer}
use Rattle.cosim_model.specs.declared.values.Want.{Want}
use Rattle.cosim_model.specs.declared.values.Bus.{Bus}
use Rattle.cosim_model.specs.Values.{plain, all_on, bits_of}
use Rattle.cosim_model.specs.declared.values.Call.TheVariants as call
use Rattle.cosim_model.specs.Parts.{DeviceModel, MasterModel, IsDevice, IsMaster, IsAccess}
use Rattle.cosim_model.specs.Packets.{Packet, Decoded, Codec}
use Rattle.ends_model.specs.DeviceTurn.{DeviceEnd, is_answered}
use Rattle.cosim_model.specs.declared.values.Plan.{Plan}
use Rattle.ends_model.specs.MachineTurn.{MachineEnd, is_boundary_due}
use Rattle.ends_model.specs.declared.ends.Phase.TheVariants.{Run}
use Rattle.ends_model.specs.World.{Side}
use Rattle.every_schedule.specs.Wires.{Wire, unread, behind, wired, access_wire}
use Rattle.cosim_model.specs.Direct.{Direct, unit, unit_of, access_device}
use Rattle.ends_model.specs.World.{ends}
use Rattle.every_schedule.specs.Mirror.{port_of, post_of}
use Rattle.every_schedule.proofs.Lists.{Each, each_at, each_set, each_to}
use Rattle.every_schedule.proofs.PacketFacts.{IsClear}
use Rattle.every_schedule.proofs.Accesses.{access_with, asking_packet, settles_asks, time_is}
use Rattle.every_schedule.proofs.AtPort.{IsFine, IsQuiet, IsAsking, kind_of, access_at}
use Rattle.every_schedule.proofs.Syncs.{enter, leave}
use Rattle.every_schedule.proofs.Boundary.{IsPort}
use Rattle.every_schedule.proofs.Runs.{IsReady, at}
use Rattle.cosim_model.specs.Packets.{IsWritable}
use Rattle.cosim_model.specs.Sessions.{request_flags, answered_flags}
use Rattle.ends_model.specs.MachineTurn.{access_fields}
use Rattle.every_schedule.specs.Wires.{access_answer, access_packet, answer_body}
use Rattle.every_schedule.proofs.Spelt.{IsSpelt, one_more, request_fits, answer_fits, want_fits, number_fits}
use Rattle.every_schedule.proofs.Moves.{Leads, frame}
use Rattle.every_schedule.proofs.Outlooks.{run_outlook, unit_outlook}

true_false : true ≡ false → ⊥
true_false e = cc

pub get_below : {A : Type 0} (xs : List A) (p : ℕ) → p < length xs → (x : A) × (slice_get xs p ≡ Some x)
get_below [] p l = absurd (omega arith)
get_below (x ∷ xs) zero l = (x, refl)
get_below (x ∷ xs) (suc p) l = get_below xs p (omega arith)

-- Capabilities 1 and 2.
abbrev pub IsRich : {S : Type 0} → Wire S → Type 0
IsRich w = w.side.offer.base && w.side.offer.enables ≡ true

module _ {M S F : Type 0} (k : MasterModel M) (d : DeviceModel S) (codec : Codec F) (plan : Plan) (laws : IsDevice d) (laws' : IsMaster k) where
  abbrev Lead : PacketWorld (MachineEnd M F) (DeviceEnd S F) (Decoded F) → PacketWorld (MachineEnd M F) (DeviceEnd S F) (Decoded F) → Type 0
  Lead = Leads k d codec plan

  -- The machine names ports that are there, and disables no lane where a port can't say so.
  abbrev pub IsGoing : Direct M (Wire S) → Type 0
  IsGoing r = Each (IsReady d r.tick) r.devices × (k.reach r.master ≤ length r.devices) × ((k.full r.master ≡ true) ⊎ Each IsRich r.devices)

  later_ready : (t : ℕ) (w : Wire S) → IsReady d t w → IsReady d (suc t) w
  later_ready t w f = (record { seen = (let a = f.0.seen in omega arith); last = (let a = f.0.last in omega arith); heard = f.0.heard; synced = f.0.synced; held = f.0.held }, f.1)

  same_side : (w : Wire S) (t : ℕ) (a : Access) (po : Bool) → (access_wire F d w t a po).side ≡ w.side
  same_side w t a true = refl
  same_side w t a false = by (unread F d w)
    where
      by : (us : List Packet) → (access_with F d w t a us).side ≡ w.side
      by [] = refl
      by (m ∷ ms) = refl

  -- The answer of an answered access.
  answer_fit : (w : Wire S) (t : ℕ) (a : Access) → t < 2 ^ 64 → IsAccess a → a.posted ≡ false → w.next < 2 ^ 32 → (x : Answer) → IsWritable (access_answer F d w t a (plain a x))
  answer_fit w t a small la ep n x = subst (λ po. IsWritable (record { id = w.next; flags = answered_flags (request_flags po); dev = 0; body = answer_body (access_fields w.side.offer t a) a.write (plain a x) })) (sym ep) (answer_fits a.write w.side.offer w.next t a x n small la)

  access_ready : (w : Wire S) (t : ℕ) (a : Access) (po : Bool) → t < 2 ^ 64 → IsAccess a → a.posted ≡ po → IsReady d t w → IsReady d (suc t) (access_wire F d w t a po)
  access_ready w t a po small la ep f = (fine po, needs_same po ep)
    where
      seen : d.seen (d.access w.device t a).0 ≤ suc t
      seen = let a = laws.access_seen w.device t a f.0.seen in omega arith

      heard : w.heard ≤ d.due (d.access w.device t a).0
      heard = let b = f.0.heard in let c = laws.access_due w.device t a f.0.seen in omega arith

      held : w.held ≡ true → (v : Want) × (d.want (d.access w.device t a).0 ≡ Some v) × (is_answered (w.side.offer.posted && w.side.answered_lines) v ≡ true)
      held e = let h = f.0.held e in (h.0, (laws.access_keeps w.device t a h.0 f.0.seen h.1).0, h.2)

      needs : d.needs (d.access w.device t a).0 ≡ w.side.needs
      needs = laws.access_needs w.device t a ∙ f.1.0

      spelt : IsSpelt w
      spelt = f.1.2

      out : Each IsWritable (w.out ++ access_packet F d w t a ∷ [])
      out = one_more w.out (access_packet F d w t a) spelt.0 (request_fits a.write a.posted w.side.offer w.next t a spelt.2 small la)

      x : Answer
      x = (d.access w.device t a).1

      empty_us : a.posted ≡ false → IsPort d (access_with F d w t a [])
      empty_us e = (needs, f.1.1, (out, one_more w.back (access_answer F d w t a (plain a x)) spelt.1 (answer_fit w t a small la e spelt.2 x), number_fits w.next, spelt.3, spelt.4))

      one_us : a.posted ≡ false → (v : Want) → d.want w.device ≡ Some v → IsPort d (access_with F d w t a (asking_packet w.side.offer w.asks (d.due w.device) v ∷ []))
      one_us e v ev = (needs, f.1.1, (out, one_more (w.back ++ asking_packet w.side.offer w.asks (d.due w.device) v ∷ []) (access_answer F d w t a (plain a x)) (one_more w.back (asking_packet w.side.offer w.asks (d.due w.device) v) spelt.1 (want_fits w.side.offer (d.needs w.device) w.asks (d.due w.device) v true spelt.3 (let l = laws.due_seen w.device in let n = f.0.seen in omega arith) (laws.want_is w.device v ev))) (answer_fit w t a small la e spelt.2 x), number_fits w.next, spelt.3, spelt.4))

      port_asking : a.posted ≡ false → (v : Want) → d.want w.device ≡ Some v → (h : Bool) → IsPort d (access_with F d w t a (behind h (asking_packet w.side.offer w.asks (d.due w.device) v ∷ [])))
      port_asking e v ev true = empty_us e
      port_asking e v ev false = one_us e v ev

      port_kind : a.posted ≡ false → IsQuiet F d w ⊎ IsAsking d w → IsPort d (access_with F d w t a (unread F d w))
      port_kind e (inl q) = subst (λ us. IsPort d (access_with F d w t a us)) (sym (ap₂ (λ h (r : DeviceEnd S F × List Packet). behind h r.1) q.0 q.1)) (empty_us e)
      port_kind e (inr q) = subst (λ (r : DeviceEnd S F × List Packet). IsPort d (access_with F d w t a (behind w.held r.1))) (sym (settles_asks F d w q.0 q.1 q.2)) (port_asking e q.0 q.1 w.held)

      needs_same : (po : Bool) → a.posted ≡ po → IsPort d (access_wire F d w t a po)
      needs_same true e = (needs, f.1.1, (out, spelt.1, number_fits w.next, spelt.3, spelt.4))
      needs_same false e = port_kind e (kind_of F d t w f.0)

      idle : IsFine d (suc t) (access_with F d w t a [])
      idle = record { seen = seen; last = (omega arith); heard = heard; synced = f.0.synced; held = held }

      crossing : (v : Want) → d.want w.device ≡ Some v → is_answered (w.side.offer.posted && w.side.answered_lines) v ≡ true → IsFine d (suc t) (access_with F d w t a (asking_packet w.side.offer w.asks (d.due w.device) v ∷ []))
      crossing v e ask = record {
        seen = seen;
        last = (omega arith);
        heard = (let b = time_is w.side.offer (d.due w.device) v in let c = laws.access_due w.device t a f.0.seen in omega arith);
        synced = f.0.synced;
        held = λ h. (v, (laws.access_keeps w.device t a v f.0.seen e).0, ask);
      }

      asking : (v : Want) → d.want w.device ≡ Some v → is_answered (w.side.offer.posted && w.side.answered_lines) v ≡ true → (h : Bool) → IsFine d (suc t) (access_with F d w t a (behind h (asking_packet w.side.offer w.asks (d.due w.device) v ∷ [])))
      asking v e ask true = idle
      asking v e ask false = crossing v e ask

      by_kind : IsQuiet F d w ⊎ IsAsking d w → IsFine d (suc t) (access_with F d w t a (unread F d w))
      by_kind (inl q) = subst (λ us. IsFine d (suc t) (access_with F d w t a us)) (sym (ap₂ (λ h (r : DeviceEnd S F × List Packet). behind h r.1) q.0 q.1)) idle
      by_kind (inr q) = subst (λ (r : DeviceEnd S F × List Packet). IsFine d (suc t) (access_with F d w t a (behind w.held r.1))) (sym (settles_asks F d w q.0 q.1 q.2)) (asking q.0 q.1 q.2 w.held)

      fine : (po : Bool) → IsFine d (suc t) (access_wire F d w t a po)
      fine true = record { seen = seen; last = (omega arith); heard = heard; synced = f.0.synced; held = held }
      fine false = by_kind (kind_of F d t w f.0)

  abbrev Goes_to : List Side → Bool → Direct M (Wire S) → Direct M (Wire S) → Type 0
  Goes_to sides mk r r' = Counted k d codec sides r.tick (suc r.tick) r.history r'.history (at k d codec plan laws laws' Run mk r) (at k d codec plan laws laws' Run false r') × IsGoing r' × (r'.tick ≡ suc r.tick)

  clear_access : (m : M) (ws : List (Wire S)) (p : ℕ) (w : Wire S) (a : Access) → slice_get ws p ≡ Some w → (k.full m ≡ true) ⊎ Each IsRich ws → (k.full m ≡ true → all_on (bits_of a.lanes a.size) ≡ true) → IsClear w.side.offer a
  clear_access m ws p w a g (inl f) all = inl (all f)
  clear_access m ws p w a g (inr f) all = inr (each_at IsRich ws p w f g)

  -- A unit where no boundary is due.
  pub unit_leads : (sides : List Side) (r : Direct M (Wire S)) (mk : Bool) → r.tick < 2 ^ 64 → is_boundary_due k plan r.master r.tick mk ≡ false → IsGoing r → Goes_to sides mk r (unit k (wired F d) plan r)
  unit_leads sides r mk small due going = by (k.issue r.master).1 refl
    where
      m : M
      m = r.master

      m' : M
      m' = (k.issue r.master).0

      looks : (ends k d codec).hub_outlook (frame k d codec plan Run r.master r.calls r.tick mk (map (port_of F d) r.devices)) ≡ unit_outlook k (frame k d codec plan Run r.master r.calls r.tick mk (map (port_of F d) r.devices)) m' (k.issue r.master).1
      looks = ap (λ v. run_outlook k (frame k d codec plan Run r.master r.calls r.tick mk (map (port_of F d) r.devices)) v (map (port_of F d) r.devices)) due

      still_full : (k.full m ≡ true) ⊎ Each IsRich r.devices → (k.full m' ≡ true) ⊎ Each IsRich r.devices
      still_full (inl f) = inl (laws'.issue_full m f)
      still_full (inr f) = inr f

      by : (o : Option Bus) → (k.issue r.master).1 ≡ o → Goes_to sides mk r (unit_of k (wired F d) plan r m' (k.issue r.master).1)
      by None e = subst (λ o. Goes_to sides mk r (unit_of k (wired F d) plan r m' o)) (sym e) (
        (1, hub_alone k d codec _ _ _ (looks ∙ ap (unit_outlook k (frame k d codec plan Run r.master r.calls r.tick mk (map (port_of F d) r.devices)) m') e) (ap (hub_packet_move (ends k d codec) (at k d codec plan laws laws' Run mk r)) (looks ∙ ap (unit_outlook k (frame k d codec plan Run r.master r.calls r.tick mk (map (port_of F d) r.devices)) m') e)), count_tick sides r.tick r.history),
        (each_to (IsReady d r.tick) (IsReady d (suc r.tick)) (later_ready r.tick) r.devices going.0, (let a = laws'.issue_reach m in let b = going.1 in omega arith), still_full going.2),
        refl,
      )
      by (Some b) e = subst (λ o. Goes_to sides mk r (unit_of k (wired F d) plan r m' o)) (sym e) (at_port (get_below r.devices b.port (let a = is.0 in let c = going.1 in omega arith)))
        where
          is : (b.port < k.reach m) × IsAccess b.access × (k.issued (k.issue m).0 ≡ Some b) × (k.full m ≡ true → all_on (bits_of b.access.lanes b.access.size) ≡ true)
          is = laws'.issue_access m b e

          a : Access
          a = b.access

          p : ℕ
          p = b.port

          at_port : (w : Wire S) × (slice_get r.devices b.port ≡ Some w) → Goes_to sides mk r (access_device k (wired F d) plan r m' b (slice_get r.devices b.port))
          at_port h = subst (λ o. Goes_to sides mk r (access_device k (wired F d) plan r m' b o)) (sym h.1) (
            (0, between k d codec 0 _ _ _ _ (enter k d codec plan laws Run m r.calls r.tick mk r.devices p w h.1) one (leave k d codec plan laws Run (k.finish m' x) (r.calls ++ call.Access r.tick p a x ∷ []) (suc r.tick) false r.devices p w'), counted),
            (
              each_set (IsReady d (suc r.tick)) r.devices p w' (each_to (IsReady d r.tick) (IsReady d (suc r.tick)) (later_ready r.tick) r.devices going.0) (access_ready w r.tick a a.posted small is.1 refl (each_at (IsReady d r.tick) r.devices p w going.0 h.1)),
              (let c = laws'.issue_reach m in let f = laws'.finish_reach m' x in let g = going.1 in let l = length-set r.devices p w' in omega arith),
              rich going.2,
            ),
            refl,
          )
            where
              counted : IsCount sides 0 r.tick (suc r.tick) r.history (r.history ++ Called (call.Access r.tick b.port b.access (plain b.access (d.access h.0.device r.tick b.access).1)) ∷ [])
              counted =
                  let lone = lonely_called sides (call.Access r.tick b.port b.access (plain b.access (d.access h.0.device r.tick b.access).1)) in
                  count_one sides 0 r.tick (suc r.tick) r.history (Called (call.Access r.tick b.port b.access (plain b.access (d.access h.0.device r.tick b.access).1))) (omega arith)

              w : Wire S
              w = h.0

              x : Answer
              x = plain a (d.access w.device r.tick a).1

              w' : Wire S
              w' = access_wire F d w r.tick a a.posted

              inside : p < length r.devices
              inside = slice_get_within r.devices p w h.1

              one : Lead (focus (map (post_of F d) r.devices) p (frame k d codec plan Run m r.calls r.tick mk (set (map (port_of F d) r.devices) p (port_of F d w))) (post_of F d w)) (focus (map (post_of F d) r.devices) p (frame k d codec plan Run (k.finish m' x) (r.calls ++ call.Access r.tick p a x ∷ []) (suc r.tick) false (set (map (port_of F d) r.devices) p (port_of F d w'))) (post_of F d w'))
              one = access_at k d codec plan laws (map (post_of F d) r.devices) (map (port_of F d) r.devices) p (subst (λ n. p < n) (sym (length-map r.devices (post_of F d))) inside) (subst (λ n. p < n) (sym (length-map r.devices (port_of F d))) inside) m r.calls r.tick mk due a w (each_at (IsReady d r.tick) r.devices p w going.0 h.1).0 is.1 (clear_access m r.devices p w a h.1 going.2 is.3) e

              rich : (k.full m ≡ true) ⊎ Each IsRich r.devices → (k.full (k.finish m' x) ≡ true) ⊎ Each IsRich (set r.devices p w')
              rich (inl f) = inl (laws'.finish_full m' x (laws'.issue_full m f))
              rich (inr f) = inr (each_set IsRich r.devices p w' f (subst (λ (s : Side). s.offer.base && s.offer.enables ≡ true) (sym (same_side w r.tick a a.posted)) (each_at IsRich r.devices p w f h.1)))
