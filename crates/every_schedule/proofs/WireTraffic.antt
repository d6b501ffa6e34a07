-- What a port's wire keeps of the machine end's packets is made from the history of the run.
use Rattle.std.proofs.Common.{◌≡◌, ℕ, zero, suc, ◌⊎◌, inl, inr, Bool, true, false, not, List, [], ◌∷◌, ◌++◌, set, map, Option, Some, None, is_some, slice_get, refl, sym, ap, ◌∙◌, subst}
use Rattle.std.specs.Prelude.{nat_eq, if◌then◌else◌}
use Rattle.std.proofs.lemmas.Bool.{eqb-true}
use Rattle.cosim_model.specs.declared.values.Access.{Access}
use Rattle.cosim_model.specs.declared.values.Bus.{Bus}
use Rattle.cosim_model.specs.declared.values.Call.{Call}
use Rattle.cosim_model.specs.declared.values.Call.TheVariants as call
use Rattle.cosim_model.specs.declared.values.Plan.{Plan}
use Rattle.cosim_model.specs.declared.values.Reply.{Reply}
use Rattle.cosim_model.specs.declared.values.Want.{Want}
use Rattle.cosim_model.specs.Values.{plain}
use Rattle.cosim_model.specs.Parts.{DeviceModel, MasterModel, IsDevice, served}
use Rattle.cosim_model.specs.Packets.{Packet}
use Rattle.cosim_model.specs.Packets.Body.{Sync}
use Rattle.ends_model.specs.DeviceTurn.{DeviceEnd}
use Rattle.ends_model.specs.MachineTurn.{access_body}
use Rattle.cosim_model.specs.Order.{least, at_quantum}
use Rattle.cosim_model.specs.Direct.{Direct, Moment, mark, unit, unit_of, access_device, boundary, boundary_if, met_quantum, direct_from, advance_all, serve_all, serve_one, serve_next, serve_device, serve_want, all_left, want_time}
use Rattle.cosim_model.specs.Direct.Moment.{Called, Boundary}
use Rattle.ends_model.specs.Traffic.{Sent, replies, with_request, with_reply, after_call, after_moment, after_history, after_hello}
use Rattle.ends_model.specs.World.{Side}
use Rattle.every_schedule.specs.Wires.{Wire, unread, sends_of, early, gathered_by, fed_wire, sync_sent, access_wire, access_sent, replies_to, reply_packets, wired}
use Rattle.every_schedule.proofs.Base.{same_number}
use Rattle.std.proofs.lemmas.List.{map-set}
use Rattle.process_network.proofs.MovesAtPort.{set_same}
use Rattle.every_schedule.proofs.Lists.{unmapped, get_mapped, map_both}
use Rattle.every_schedule.proofs.DeviceCalls.{set_cases}
use Rattle.every_schedule.proofs.Gathers.{answered_at, request_packet}
use Rattle.every_schedule.proofs.Serves.{posted_request}
use Rattle.every_schedule.proofs.Settles.{settles_waiting, settles_asking, settles_posting}

after_append : (side : Side) (p : ℕ) (s : Sent) (a b : List Moment) → after_history side p s (a ++ b) ≡ after_history side p (after_history side p s a) b
after_append side p s [] b = refl
after_append side p s (e ∷ a) b = after_append side p (after_moment side p s e) a b

module _ {M S : Type 0} (F : Type 0) (k : MasterModel M) (d : DeviceModel S) (plan : Plan) (laws : IsDevice d) where
  -- what has been sent on the wire
  abbrev now : Wire S → Sent
  now w = record { next = w.next; asks = w.asks; out = w.out }

  abbrev IsSent : ℕ → List Moment → Wire S → Type 0
  IsSent p history w = now w ≡ after_history w.side p after_hello history

  abbrev Keeps : Direct M (Wire S) → Type 0
  Keeps r = (p : ℕ) (w : Wire S) → slice_get r.devices p ≡ Some w → IsSent p r.history w

  -- one more moment
  sent_on : (p : ℕ) (history : List Moment) (e : Moment) (w w' : Wire S) → w'.side ≡ w.side → now w' ≡ after_moment w.side p (now w) e → IsSent p history w → IsSent p (history ++ e ∷ []) w'
  sent_on p history e w w' side step was =
      step
      ∙ ap (λ s. after_moment w.side p s e) was
      ∙ sym (after_append w.side p after_hello history (e ∷ []))
      ∙ ap (λ s. after_history s p after_hello (history ++ e ∷ [])) (sym side)

  gathered_now : (w : Wire S) (h : Bool) (o : Option Want) (ms : List Packet) → (now (gathered_by w h o ms) ≡ now w) × ((gathered_by w h o ms).side ≡ w.side)
  gathered_now w true o ms = (refl, refl)
  gathered_now w false None [] = (refl, refl)
  gathered_now w false None (m ∷ ms) = (refl, refl)
  gathered_now w false (Some v) [] = (refl, refl)
  gathered_now w false (Some v) (m ∷ ms) = (refl, refl)

  early_now : (w : Wire S) (ms : List Packet) → (now (early w ms) ≡ now w) × ((early w ms).side ≡ w.side)
  early_now w [] = (refl, refl)
  early_now w (m ∷ ms) = (refl, refl)

  access_now : (w : Wire S) (t : ℕ) (a : Access) (po : Bool) → (now (access_wire F d w t a po) ≡ with_request (now w) a.posted (access_body w.side.offer t a)) × ((access_wire F d w t a po).side ≡ w.side)
  access_now w t a true = (refl, refl)
  access_now w t a false = early_now (record (access_sent F d w t a) { count = 0 }) (unread F d w)

  -- the answers that a served want gets
  replies_are : (w : Wire S) (r : Reply) (v : Want) → d.want w.device ≡ Some v → replies_to F d r w.side.offer (sends_of F d w) ≡ replies w.side w.asks (d.due w.device) v r (answered_at w v)
  replies_are w r v e = by (answered_at w v) refl w.synced refl
    where
      one : (a : Bool) → answered_at w v ≡ a → reply_packets F d r (request_packet w.side.offer w.asks (d.due w.device) v a) (not a) ≡ replies w.side w.asks (d.due w.device) v r a → reply_packets F d r (request_packet w.side.offer w.asks (d.due w.device) v a) (not a) ≡ replies w.side w.asks (d.due w.device) v r (answered_at w v)
      one a f g = g ∙ ap (replies w.side w.asks (d.due w.device) v r) (sym f)

      by : (a : Bool) → answered_at w v ≡ a → (s : Bool) → w.synced ≡ s → replies_to F d r w.side.offer (sends_of F d w) ≡ replies w.side w.asks (d.due w.device) v r (answered_at w v)
      by true f s g =
          ap (λ (x : DeviceEnd S F × List Packet). replies_to F d r w.side.offer x.1) (settles_asking F d w v e f)
          ∙ ap (reply_packets F d r (request_packet w.side.offer w.asks (d.due w.device) v true)) (posted_request w w.asks (d.due w.device) v true f)
          ∙ one true f refl
      by false f true g =
          ap (λ (x : DeviceEnd S F × List Packet). replies_to F d r w.side.offer x.1) (settles_posting F d laws w v g e f)
          ∙ ap (reply_packets F d r (request_packet w.side.offer w.asks (d.due w.device) v false)) (posted_request w w.asks (d.due w.device) v false f)
          ∙ one false f refl
      by false f false g =
          ap (λ (x : DeviceEnd S F × List Packet). replies_to F d r w.side.offer x.1) (settles_waiting F d w v g e f)
          ∙ one false f refl

  fed_now : (w : Wire S) (r : Reply) (v : Want) → d.want w.device ≡ Some v → (now ((wired F d).feed w r) ≡ with_reply w.side (now w) (d.due w.device) v r) × (((wired F d).feed w r).side ≡ w.side)
  fed_now w r v e =
      let w2 : Wire S = fed_wire F d w r (d.want w.device) (sends_of F d w) in
      let g = gathered_now w2 w2.held (d.want w2.device) (unread F d w2) in (
        g.0 ∙ ap (λ o. now (fed_wire F d w r o (sends_of F d w))) e ∙ ap (λ (ms : List Packet). with_out (w.out ++ ms)) (replies_are w r v e),
        g.1 ∙ ap (λ o. (fed_wire F d w r o (sends_of F d w)).side) e,
      )
    where
      with_out : List Packet → Sent
      with_out out = record (with_reply w.side (now w) (d.due w.device) v r) { out = out }

  sync_now : (w : Wire S) (t : ℕ) → (now ((wired F d).advance w t) ≡ with_request (now w) false (Sync t)) × (((wired F d).advance w t).side ≡ w.side)
  sync_now w t = gathered_now (sync_sent F d w t) w.held (d.want (d.advance w.device t)) (unread F d (sync_sent F d w t))

  -- a call of port p, seen from port q
  here : (p : ℕ) (side : Side) (s : Sent) (c : Call) (x y : Sent) → after_call side p s c ≡ (if nat_eq p p then x else y) → after_call side p s c ≡ x
  here p side s c x y e = e ∙ ap (λ (b : Bool). if b then x else y) (same_number p)

  unit_keeps : (r : Direct M (Wire S)) → Keeps r → Keeps (unit k (wired F d) plan r)
  unit_keeps r h = by (k.issue r.master).1
    where
      at_port : (b : Bus) (o : Option (Wire S)) → slice_get r.devices b.port ≡ o → Keeps (access_device k (wired F d) plan r (k.issue r.master).0 b o)
      at_port b None e q x g = h q x g
      at_port b (Some w) e q x g = cases (set_cases r.devices b.port w' q x g)
        where
          w' : Wire S
          w' = access_wire F d w r.tick b.access b.access.posted

          one : Moment
          one = Called (call.Access r.tick b.port b.access (plain b.access (d.access w.device r.tick b.access).1))

          made : IsSent b.port (r.history ++ one ∷ []) w'
          made =
              let a = access_now w r.tick b.access b.access.posted in
              sent_on b.port r.history one w w' a.1 (a.0 ∙ sym (here b.port w.side (now w) (call.Access r.tick b.port b.access (plain b.access (d.access w.device r.tick b.access).1)) (with_request (now w) b.access.posted (access_body w.side.offer r.tick b.access)) (now w) refl)) (h b.port w e)

          cases : ((nat_eq b.port q ≡ true) × (x ≡ access_wire F d w r.tick b.access b.access.posted)) ⊎ ((nat_eq b.port q ≡ false) × (slice_get r.devices q ≡ Some x)) → IsSent q (r.history ++ Called (call.Access r.tick b.port b.access (plain b.access (d.access w.device r.tick b.access).1)) ∷ []) x
          cases (inl z) = subst (λ q. IsSent q (r.history ++ one ∷ []) x) (eqb-true b.port q z.0) (subst (IsSent b.port (r.history ++ one ∷ [])) (sym z.1) made)
          cases (inr z) = sent_on q r.history one x x refl (sym (ap (λ (b' : Bool). if b' then with_request (now x) b.access.posted (access_body x.side.offer r.tick b.access) else now x) z.0)) (h q x z.1)

      by : (o : Option Bus) → Keeps (unit_of k (wired F d) plan r (k.issue r.master).0 o)
      by None = h
      by (Some b) = at_port b (slice_get r.devices b.port) refl

  serve_keeps : (r : Direct M (Wire S)) → Keeps r → Keeps (serve_one k (wired F d) plan r)
  serve_keeps r h = by (least (map (want_time k (wired F d) plan) r.devices))
    where
      wanted : (p : ℕ) (w : Wire S) → slice_get r.devices p ≡ Some w → (o : Option Want) → d.want w.device ≡ o → Keeps (serve_want k (wired F d) plan r p w o)
      wanted p w e None f q x g = h q x g
      wanted p w e (Some v) f q x g = cases (set_cases r.devices p w' q x g)
        where
          rep : Reply
          rep = (served k r.master v).1

          w' : Wire S
          w' = (wired F d).feed w (served k r.master v).1

          one : Moment
          one = Called (call.Served r.tick p (d.due w.device) v (served k r.master v).1)

          made : IsSent p (r.history ++ one ∷ []) w'
          made =
              let a = fed_now w rep v f in
              sent_on p r.history one w w' a.1 (a.0 ∙ sym (here p w.side (now w) (call.Served r.tick p (d.due w.device) v rep) (with_reply w.side (now w) (d.due w.device) v rep) (now w) refl)) (h p w e)

          cases : ((nat_eq p q ≡ true) × (x ≡ (wired F d).feed w (served k r.master v).1)) ⊎ ((nat_eq p q ≡ false) × (slice_get r.devices q ≡ Some x)) → IsSent q (r.history ++ Called (call.Served r.tick p (d.due w.device) v (served k r.master v).1) ∷ []) x
          cases (inl z) = subst (λ q. IsSent q (r.history ++ one ∷ []) x) (eqb-true p q z.0) (subst (IsSent p (r.history ++ one ∷ [])) (sym z.1) made)
          cases (inr z) = sent_on q r.history one x x refl (sym (ap (λ (b : Bool). if b then with_reply x.side (now x) (d.due w.device) v rep else now x) z.0)) (h q x z.1)

      at_port : (p : ℕ) (o : Option (Wire S)) → slice_get r.devices p ≡ o → Keeps (serve_device k (wired F d) plan r p o)
      at_port p None e = h
      at_port p (Some w) e = wanted p w e (d.want w.device) refl

      by : (l : Option (ℕ × ℕ)) → Keeps (serve_next k (wired F d) plan r l)
      by None = h
      by (Some q) = at_port q.0 (slice_get r.devices q.0) refl

  serves_keep : (n : ℕ) (r : Direct M (Wire S)) → Keeps r → Keeps (serve_all k (wired F d) plan n r)
  serves_keep zero r h = h
  serves_keep (suc n) r h = serves_keep n (serve_one k (wired F d) plan r) (serve_keeps r h)

  boundary_keeps : (r : Direct M (Wire S)) → Keeps r → Keeps (boundary k (wired F d) plan r)
  boundary_keeps r h =
      serves_keep (all_left k (wired F d) plan (advance_all k (wired F d) plan (mark k (wired F d) plan r)).devices) (advance_all k (wired F d) plan (mark k (wired F d) plan r)) advanced
    where
      advanced : Keeps (advance_all k (wired F d) plan (mark k (wired F d) plan r))
      advanced q x g =
          let u = unmapped (λ w. (wired F d).advance w r.tick) r.devices q x g in
          let s = sync_now u.0 r.tick in
          subst (IsSent q (r.history ++ Boundary r.tick ∷ [])) u.2 (sent_on q r.history (Boundary r.tick) u.0 ((wired F d).advance u.0 r.tick) s.1 s.0 (h q u.0 u.1))

  if_keeps : (b : Bool) (r : Direct M (Wire S)) → Keeps r → Keeps (boundary_if k (wired F d) plan b r)
  if_keeps true r h = boundary_keeps r h
  if_keeps false r h = h

  pub sent_from : (n : ℕ) (r : Direct M (Wire S)) → Keeps r → Keeps (direct_from k (wired F d) plan n r)
  sent_from zero r h = boundary_keeps r h
  sent_from (suc n) r h = by (is_some (k.stopped r.master)) (sent_from n (unit k (wired F d) plan (met_quantum k (wired F d) plan r)) (unit_keeps (met_quantum k (wired F d) plan r) (if_keeps (at_quantum plan r.tick) r h)))
    where
      by : (c : Bool) → Keeps (direct_from k (wired F d) plan n (unit k (wired F d) plan (met_quantum k (wired F d) plan r))) → Keeps (if c then boundary k (wired F d) plan r else direct_from k (wired F d) plan n (unit k (wired F d) plan (met_quantum k (wired F d) plan r)))
      by true more = boundary_keeps r h
      by false more = more

  -- Each port keeps what its end was made with.
  abbrev pub sides : List (Wire S) → List Side
  sides ws = map (λ (w : Wire S). w.side) ws

  put_side : (ws : List (Wire S)) (p : ℕ) (w w' : Wire S) → slice_get ws p ≡ Some w → w'.side ≡ w.side → sides (set ws p w') ≡ sides ws
  put_side ws p w w' g f = map-set (λ (w : Wire S). w.side) ws p w' ∙ ap (set (sides ws) p) f ∙ set_same (sides ws) p w.side (get_mapped (λ (w : Wire S). w.side) ws p w g)

  pub unit_sides : (r : Direct M (Wire S)) → sides (unit k (wired F d) plan r).devices ≡ sides r.devices
  unit_sides r = by (k.issue r.master).1
    where
      at_port : (b : Bus) (o : Option (Wire S)) → slice_get r.devices b.port ≡ o → sides (access_device k (wired F d) plan r (k.issue r.master).0 b o).devices ≡ sides r.devices
      at_port b None e = refl
      at_port b (Some w) e = put_side r.devices b.port w (access_wire F d w r.tick b.access b.access.posted) e (access_now w r.tick b.access b.access.posted).1

      by : (o : Option Bus) → sides (unit_of k (wired F d) plan r (k.issue r.master).0 o).devices ≡ sides r.devices
      by None = refl
      by (Some b) = at_port b (slice_get r.devices b.port) refl

  pub serve_sides : (r : Direct M (Wire S)) → sides (serve_one k (wired F d) plan r).devices ≡ sides r.devices
  serve_sides r = by (least (map (want_time k (wired F d) plan) r.devices))
    where
      wanted : (p : ℕ) (w : Wire S) → slice_get r.devices p ≡ Some w → (o : Option Want) → d.want w.device ≡ o → sides (serve_want k (wired F d) plan r p w o).devices ≡ sides r.devices
      wanted p w e None f = refl
      wanted p w e (Some v) f = put_side r.devices p w ((wired F d).feed w (served k r.master v).1) e (fed_now w (served k r.master v).1 v f).1

      at_port : (p : ℕ) (o : Option (Wire S)) → slice_get r.devices p ≡ o → sides (serve_device k (wired F d) plan r p o).devices ≡ sides r.devices
      at_port p None e = refl
      at_port p (Some w) e = wanted p w e (d.want w.device) refl

      by : (l : Option (ℕ × ℕ)) → sides (serve_next k (wired F d) plan r l).devices ≡ sides r.devices
      by None = refl
      by (Some q) = at_port q.0 (slice_get r.devices q.0) refl

  serves_sides : (n : ℕ) (r : Direct M (Wire S)) → sides (serve_all k (wired F d) plan n r).devices ≡ sides r.devices
  serves_sides zero r = refl
  serves_sides (suc n) r = serves_sides n (serve_one k (wired F d) plan r) ∙ serve_sides r

  pub advance_sides : (t : ℕ) (ws : List (Wire S)) → map (λ (w : Wire S). w.side) (map (λ w. (wired F d).advance w t) ws) ≡ map (λ (w : Wire S). w.side) ws
  advance_sides t ws = map_both (λ (w : Wire S). w.side) (λ w. (wired F d).advance w t) (λ (w : Wire S). w.side) (λ w. (sync_now w t).1) ws

  pub boundary_sides : (r : Direct M (Wire S)) → sides (boundary k (wired F d) plan r).devices ≡ sides r.devices
  boundary_sides r =
      serves_sides (all_left k (wired F d) plan (advance_all k (wired F d) plan (mark k (wired F d) plan r)).devices) (advance_all k (wired F d) plan (mark k (wired F d) plan r))
      ∙ map_both (λ (w : Wire S). w.side) (λ w. (wired F d).advance w r.tick) (λ (w : Wire S). w.side) (λ w. (sync_now w r.tick).1) r.devices

  if_sides : (b : Bool) (r : Direct M (Wire S)) → sides (boundary_if k (wired F d) plan b r).devices ≡ sides r.devices
  if_sides true r = boundary_sides r
  if_sides false r = refl

  pub sides_from : (n : ℕ) (r : Direct M (Wire S)) → map (λ (w : Wire S). w.side) (direct_from k (wired F d) plan n r).devices ≡ map (λ (w : Wire S). w.side) r.devices
  sides_from zero r = boundary_sides r
  sides_from (suc n) r = by (is_some (k.stopped r.master)) (sides_from n (unit k (wired F d) plan (met_quantum k (wired F d) plan r)) ∙ unit_sides (met_quantum k (wired F d) plan r) ∙ if_sides (at_quantum plan r.tick) r)
    where
      by : (c : Bool) → sides (direct_from k (wired F d) plan n (unit k (wired F d) plan (met_quantum k (wired F d) plan r))).devices ≡ sides r.devices → sides (if c then boundary k (wired F d) plan r else direct_from k (wired F d) plan n (unit k (wired F d) plan (met_quantum k (wired F d) plan r))).devices ≡ sides r.devices
      by true more = boundary_sides r
      by false more = more
