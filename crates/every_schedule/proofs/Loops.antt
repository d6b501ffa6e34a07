-- The loops of a boundary.
use Rattle.cosim_model.specs.Direct.Moment.{Called}
use Rattle.ends_model.specs.World.{Side}
use Rattle.every_schedule.specs.Counts.{if_posted, posted_by}
use Rattle.every_schedule.proofs.Leads.{LeadsBy, recount, leads_by, arrives, between}
use Rattle.every_schedule.proofs.Counted.{IsCount, Counted, counted_on, uncounted, count_one, lonely_called}
use Rattle.every_schedule.proofs.WireTraffic.{serve_sides}
use Rattle.every_schedule.proofs.Moves.{still_there, arrive}
use Rattle.std.proofs.Common.{◌≡◌, ℕ, zero, suc, ◌+◌, ◌<◌, ◌≤◌, ◌⊎◌, inl, inr, Bool, true, false, List, [], ◌∷◌, ◌++◌, length, set, map, Option, Some, None, slice_get, refl, sym, ap, ap₂, ◌∙◌, subst, arith}
use Rattle.std.specs.Prelude.{if◌then◌else◌}
use Rattle.std.proofs.lemmas.List.{append_assoc, map-set, set-set, length-map}
use Rattle.std.proofs.lemmas.Option.{none-some, same_Some, slice_get_within}
use Rattle.process_network.specs.PacketStar.{PacketWorld}
use Rattle.process_network.proofs.MovesAtPort.{set_same, get_set, focus}
use Rattle.cosim_model.specs.declared.values.Want.{Want}
use Rattle.cosim_model.specs.declared.values.Reply.{Reply}
use Rattle.cosim_model.specs.declared.values.Call.{Call}
use Rattle.cosim_model.specs.declared.values.Caps.{Caps}
use Rattle.cosim_model.specs.Values.{all_on}
use Rattle.cosim_model.specs.declared.values.Call.TheVariants as call
use Rattle.cosim_model.specs.Parts.{DeviceModel, MasterModel, IsDevice, IsMaster, served}
use Rattle.cosim_model.specs.Packets.{Packet, Decoded, Codec}
use Rattle.ends_model.specs.DeviceTurn.{DeviceEnd}
use Rattle.cosim_model.specs.declared.values.Plan.{Plan}
use Rattle.ends_model.specs.MachineTurn.{MachineEnd, first_true, is_unknown, is_clear, if_over, least, held_time, is_last_boundary}
use Rattle.ends_model.specs.declared.ends.Phase.TheVariants.{Gather, Run, Done}
use Rattle.every_schedule.specs.Wires.{Wire, sends_of, unread, gathered, gathered_by, fed_wire, wired}
use Rattle.cosim_model.specs.Direct.{Direct, Moment, serve_one, serve_all, serve_next, serve_device, serve_want, want_time, due_of, all_left, serve_left}
use Rattle.every_schedule.specs.Mirror.{port_of, post_of}
use Rattle.every_schedule.proofs.Lists.{get_mid, set_mid, get_mapped, map_both, Each, each_at, each_set, each_append, each_to, first_mid, first_set, first_none, all_clear, map_each, least_stands, least_none, off_at, off_mid}
use Rattle.every_schedule.proofs.Takes.{packet}
use Rattle.every_schedule.proofs.Syncs.{state, enter, leave}
use Rattle.every_schedule.proofs.Gathers.{answered_at, request_packet, settles_open, rest_of, in_boundary, gather_at}
use Rattle.every_schedule.proofs.Serves.{serve_at}
use Rattle.every_schedule.proofs.Boundary.{IsOpenAt, IsKnown, bound, is_open, clear_want, gathered_known, gathered_held, gathered_all, unknown_open, known_not, open_unclear, known_time, none_clear}
use Rattle.cosim_model.specs.Packets.{IsWritable}
use Rattle.cosim_model.specs.Sessions.{is_posted}
use Rattle.ends_model.specs.DeviceTurn.{want_body}
use Rattle.every_schedule.specs.Wires.{reply_packets, replies_to}
use Rattle.ends_model.specs.Traffic.{reply_body}
use Rattle.every_schedule.proofs.Serves.{posted_request}
use Rattle.cosim_model.specs.declared.values.Want.TheVariants.{Fetch, Store, Line}
use Rattle.every_schedule.proofs.Tails.{IsReplyBody}
use Rattle.every_schedule.proofs.Spelt.{IsReplyPacket, number_fits, reply_fits}
use Rattle.every_schedule.proofs.Moves.{Leads, leads_on, frame}

true_false : true ≡ false → ⊥
true_false e = cc

module _ {M S F : Type 0} (k : MasterModel M) (d : DeviceModel S) (codec : Codec F) (plan : Plan) (laws : IsDevice d) (laws' : IsMaster k) (t : ℕ) (mk : Bool) where
  abbrev Lead : PacketWorld (MachineEnd M F) (DeviceEnd S F) (Decoded F) → PacketWorld (MachineEnd M F) (DeviceEnd S F) (Decoded F) → Type 0
  Lead = Leads k d codec plan

  abbrev st : M → List Call → List (Wire S) → PacketWorld (MachineEnd M F) (DeviceEnd S F) (Decoded F)
  st m calls ws = state k d codec plan laws Gather m calls t mk ws

  abbrev bd : M → List Call → List (Wire S) → PacketWorld (MachineEnd M F) (DeviceEnd S F) (Decoded F)
  bd m calls ws = bound k d codec plan laws laws' t mk m calls ws

  -- While some port is not clear, the machine gathers.
  pub not_over : (m : M) (calls : List Call) (ws : List (Wire S)) → all_on (map is_clear (map (port_of F d) ws)) ≡ false → bd m calls ws ≡ st m calls ws
  not_over m calls ws e = ap (λ b. record { hub = if_over k (frame k d codec plan Gather m calls t mk (map (port_of F d) ws)) b; links = map (post_of F d) ws }) e

  -- The next packet of port p.
  gather_step : (m : M) (calls : List Call) (ws : List (Wire S)) (p : ℕ) (w : Wire S) → slice_get ws p ≡ Some w → IsOpenAt d t w → w.held ≡ false → first_true (map is_unknown (map (port_of F d) ws)) ≡ Some p → Lead (st m calls ws) (bd m calls (set ws p (gathered F d w)))
  gather_step m calls ws p w g o eh next =
      let inside : p < length ws = slice_get_within ws p w g in
      let same : set (map (port_of F d) ws) p (port_of F d w) ≡ map (port_of F d) ws = set_same (map (port_of F d) ws) p (port_of F d w) (get_mapped (port_of F d) ws p w g) in
      let r = gather_at k d codec plan laws (map (post_of F d) ws) (map (port_of F d) ws) p (subst (λ n. p < n) (sym (length-map ws (post_of F d))) inside) (subst (λ n. p < n) (sym (length-map ws (port_of F d))) inside) m calls t mk w (is_open k d codec plan laws laws' t mk w o) eh (ap (λ ports. first_true (map is_unknown ports)) same ∙ next) in
      between k d codec 0 _ _ _ _ (enter k d codec plan laws Gather m calls t mk ws p w g) r (
      ap₂ (λ ports links. in_boundary k d codec plan laws m calls t mk ports links) (sym (map-set (port_of F d) ws p (gathered F d w))) (sym (map-set (post_of F d) ws p (gathered F d w)))
      )

  -- All ports, from the first.
  abbrev Known : List (Wire S) → Type 0
  Known ws = Each (IsKnown d t) ws

  unknown_of : (ws : List (Wire S)) → Known ws → Each (λ w. is_unknown (port_of F d w) ≡ false) ws
  unknown_of ws n = each_to (IsKnown d t) (λ w. is_unknown (port_of F d w) ≡ false) (known_not k d codec plan laws laws' t mk) ws n

  mapped : (ws : List (Wire S)) → map is_unknown (map (port_of F d) ws) ≡ map (λ w. is_unknown (port_of F d w)) ws
  mapped ws = map_both is_unknown (port_of F d) (λ w. is_unknown (port_of F d w)) (λ w. refl) ws

  pub clears : (ws : List (Wire S)) → map is_clear (map (port_of F d) ws) ≡ map (λ w. is_clear (port_of F d w)) ws
  clears ws = map_both is_clear (port_of F d) (λ w. is_clear (port_of F d w)) (λ w. refl) ws

  pub gather_rest : (m : M) (calls : List Call) (a b : List (Wire S)) → Known a → Each (IsOpenAt d t) b → Lead (bd m calls (a ++ b)) (bd m calls (a ++ map (gathered F d) b))
  gather_rest m calls a [] n o = (still_there k d codec plan _ _ (refl))
  gather_rest m calls a (w ∷ b) n o = go w.held refl (gather_rest m calls (a ++ gathered F d w ∷ []) b (each_append (IsKnown d t) a (gathered F d w ∷ []) n (gathered_all k d codec plan laws laws' t mk w o.0, tt)) o.1)
    where
      g : Wire S
      g = gathered F d w

      join : (x : Wire S) → x ≡ g → Lead (bd m calls ((a ++ g ∷ []) ++ b)) (bd m calls ((a ++ g ∷ []) ++ map (gathered F d) b)) → Lead (bd m calls (a ++ g ∷ b)) (bd m calls (a ++ g ∷ map (gathered F d) b))
      join x e more = subst (λ (u : List (Wire S)). Lead (bd m calls (a ++ g ∷ b)) (bd m calls u)) (append_assoc a (g ∷ []) (map (gathered F d) b)) (subst (λ (u : List (Wire S)). Lead (bd m calls u) (bd m calls ((a ++ g ∷ []) ++ map (gathered F d) b))) (append_assoc a (g ∷ []) b) more)

      go : (h : Bool) → w.held ≡ h → Lead (bd m calls ((a ++ g ∷ []) ++ b)) (bd m calls ((a ++ g ∷ []) ++ map (gathered F d) b)) → Lead (bd m calls (a ++ w ∷ b)) (bd m calls (a ++ g ∷ map (gathered F d) b))
      go true e more = subst (λ u. Lead (bd m calls (a ++ u ∷ b)) (bd m calls (a ++ g ∷ map (gathered F d) b))) (gathered_held k d codec plan laws laws' t mk w e) (join g refl more)
      go false e more =
          let next : first_true (map is_unknown (map (port_of F d) (a ++ w ∷ b))) ≡ Some (length a) = ap first_true (mapped (a ++ w ∷ b)) ∙ first_mid (λ w. is_unknown (port_of F d w)) a b w (unknown_of a n) (unknown_open k d codec plan laws laws' t mk w o.0.synced e) in
          let one = gather_step m calls (a ++ w ∷ b) (length a) w (get_mid a b w) o.0 e next in
          let begins : bd m calls (a ++ w ∷ b) ≡ st m calls (a ++ w ∷ b) = not_over m calls (a ++ w ∷ b) (ap all_on (clears (a ++ w ∷ b)) ∙ off_mid (λ w. is_clear (port_of F d w)) a b w (open_unclear k d codec plan laws laws' t mk w o.0.synced)) in
          leads_on k d codec plan _ _ _ (still_there k d codec plan _ _ (begins)) (leads_on k d codec plan _ _ _ one (leads_on k d codec plan _ _ _ (still_there k d codec plan _ _ (ap (bd m calls) (set_mid a b w g))) (join g refl more)))

  -- The want with the least due time is served, and its port's next packet is taken.

  abbrev fedw : Wire S → Reply → Want → List Packet → Wire S
  fedw w r v ms = fed_wire F d w r (Some v) ms

  abbrev sent : Wire S → Want → List Packet
  sent w v = request_packet w.side.offer w.asks (d.due w.device) v (answered_at w v) ∷ rest_of k d codec plan laws w v (answered_at w v)

  fed_is : (w : Wire S) (r : Reply) (v : Want) → d.want w.device ≡ Some v → w.synced ≡ true → fed_wire F d w r (d.want w.device) (sends_of F d w) ≡ fedw w r v (sent w v)
  fed_is w r v e es = ap₂ (λ o (r' : DeviceEnd S F × List Packet). fed_wire F d w r o r'.1) e (settles_open k d codec plan laws w v es e (answered_at w v) refl)

  -- the answer that goes out
  replies_fit : (w : Wire S) (r : Reply) (v : Want) → IsWritable (packet w.asks 2 (reply_body r (want_body w.side.offer (d.due w.device) v))) → (a : Bool) → answered_at w v ≡ a → Each IsWritable (reply_packets F d r (request_packet w.side.offer w.asks (d.due w.device) v a) (is_posted w.side.offer (request_packet w.side.offer w.asks (d.due w.device) v a)))
  replies_fit w r v f true e = subst (λ b. Each IsWritable (reply_packets F d r (request_packet w.side.offer w.asks (d.due w.device) v true) b)) (sym (posted_request w w.asks (d.due w.device) v true e)) (f, tt)
  replies_fit w r v f false e = subst (λ b. Each IsWritable (reply_packets F d r (request_packet w.side.offer w.asks (d.due w.device) v false) b)) (sym (posted_request w w.asks (d.due w.device) v false e)) tt

  reply_is : (r : Reply) (offer : Caps) (due : ℕ) (v : Want) → IsReplyBody (reply_body r (want_body offer due v))
  reply_is r offer due (Fetch addr size) = tt
  reply_is r offer due (Store addr size bytes mask) = tt
  reply_is r offer due (Line number level) = tt

  replies_reply : (w : Wire S) (r : Reply) (v : Want) (a : Bool) → answered_at w v ≡ a → Each IsReplyPacket (reply_packets F d r (request_packet w.side.offer w.asks (d.due w.device) v a) (is_posted w.side.offer (request_packet w.side.offer w.asks (d.due w.device) v a)))
  replies_reply w r v true e = subst (λ b. Each IsReplyPacket (reply_packets F d r (request_packet w.side.offer w.asks (d.due w.device) v true) b)) (sym (posted_request w w.asks (d.due w.device) v true e)) ((refl, reply_is r w.side.offer (d.due w.device) v), tt)
  replies_reply w r v false e = subst (λ b. Each IsReplyPacket (reply_packets F d r (request_packet w.side.offer w.asks (d.due w.device) v false) b)) (sym (posted_request w w.asks (d.due w.device) v false e)) tt

  fed_open : (w : Wire S) (r : Reply) (v : Want) → IsKnown d t w → d.want w.device ≡ Some v → w.synced ≡ true → IsWritable (packet w.asks 2 (reply_body r (want_body w.side.offer (d.due w.device) v))) → IsOpenAt d t (fedw w r v (sent w v))
  fed_open w r v n e es f = record {
    port = (laws.feed_needs w.device r ∙ n.port.0, n.port.1, (each_append IsWritable w.out (replies_to F d r w.side.offer (sent w v)) n.port.2.0 (replies_fit w r v f (answered_at w v) refl), n.port.2.1, n.port.2.2, number_fits w.asks, n.port.2.4));
    small = n.small;
    tail = (n.tail.0, n.tail.1, n.tail.2 ++ replies_to F d r w.side.offer (sent w v), ap (λ (ps : List Packet). ps ++ replies_to F d r w.side.offer (sent w v)) n.tail.3 ∙ append_assoc n.tail.0 (n.tail.1 ∷ n.tail.2) (replies_to F d r w.side.offer (sent w v)), n.tail.4, each_append IsReplyPacket n.tail.2 (replies_to F d r w.side.offer (sent w v)) n.tail.5 (replies_reply w r v (answered_at w v) refl));
    seen = laws.feed_seen w.device r ∙ n.seen;
    last = n.last;
    synced = es;
    heard = (let a = n.heard in let b = laws.feed_due w.device r in omega arith);
    held = λ f. absurd (true_false (sym f));
    room = (let a = n.room in let b = laws.feed_left w.device r v e in omega arith);
  }

  abbrev at_run : M → List Call → List (Wire S) → List Moment → Direct M (Wire S)
  at_run m calls ws history = record { master = m; devices = ws; calls = calls; tick = t; history = history }

  abbrev Leads_to : List Side → M → List Call → List (Wire S) → List Moment → Direct M (Wire S) → Type 0
  Leads_to sides m calls ws history r = Known r.devices × (r.tick ≡ t) × Counted k d codec sides t t history r.history (bd m calls ws) (bd r.master r.calls r.devices)

  abbrev sides_of : List (Wire S) → List Side
  sides_of ws = map (λ (w : Wire S). w.side) ws

  -- a want that is served, as it is counted
  served_count : (sides : List Side) (history : List Moment) (ws : List (Wire S)) (p : ℕ) (w : Wire S) (v : Want) (r : Reply) → sides_of ws ≡ sides → slice_get ws p ≡ Some w → IsCount sides (if_posted (answered_at w v)) t t history (history ++ Called (call.Served t p (d.due w.device) v r) ∷ [])
  served_count sides history ws p w v r same g =
      let lone = lonely_called sides (call.Served t p (d.due w.device) v r) in
      let side : posted_by v (slice_get sides p) ≡ if_posted (answered_at w v) = ap (posted_by v) (ap (λ (ss : List Side). slice_get ss p) (sym same) ∙ get_mapped (λ (w : Wire S). w.side) ws p w g) in
      count_one sides (if_posted (answered_at w v)) t t history (Called (call.Served t p (d.due w.device) v r)) (omega arith)

  reply_fit : (m : M) (w : Wire S) (v : Want) → IsKnown d t w → d.want w.device ≡ Some v → IsWritable (packet w.asks 2 (reply_body (served k m v).1 (want_body w.side.offer (d.due w.device) v)))
  reply_fit m w v n e = reply_fits k laws' m w.side.offer (d.needs w.device) w.asks (d.due w.device) v n.port.2.3 (let l = laws.due_seen w.device in let a = n.seen in let b = n.small in omega arith) (laws.want_is w.device v e)

  serve_port_step : (m : M) (calls : List Call) (ws : List (Wire S)) (p : ℕ) (w : Wire S) (v : Want) (u : ℕ) → Known ws → slice_get ws p ≡ Some w → d.want w.device ≡ Some v → w.synced ≡ true → w.held ≡ true → least (map (want_time k (wired F d) plan) ws) ≡ Some (p, u) → LeadsBy k d codec (if_posted (answered_at w v)) (bd m calls ws) (bd (served k m v).0 (calls ++ call.Served t p (d.due w.device) v (served k m v).1 ∷ []) (set ws p ((wired F d).feed w (served k m v).1)))
  serve_port_step m calls ws p w v u n g e es eh first =
      let n : ℕ = if_posted (answered_at w v) in
      recount k d codec (0 + (n + 0)) n _ _ (omega arith)
      (leads_by k d codec 0 (n + 0) _ _ _ (still_there k d codec plan _ _ begins)
      (leads_by k d codec n 0 _ _ _ (between k d codec n _ _ _ _ (enter k d codec plan laws Gather m calls t mk ws p w g) one (leave k d codec plan laws Gather m' calls' t mk ws p w2))
      (arrive k d codec plan _ _ _ two (ap (bd m' calls') (set-set ws p w2 (gathered F d w2))))))
    where
      m' : M
      m' = (served k m v).0

      r : Reply
      r = (served k m v).1

      calls' : List Call
      calls' = calls ++ call.Served t p (d.due w.device) v r ∷ []

      w2 : Wire S
      w2 = fed_wire F d w r (d.want w.device) (sends_of F d w)

      known : IsKnown d t w
      known = each_at (IsKnown d t) ws p w n g

      fits : IsWritable (packet w.asks 2 (reply_body r (want_body w.side.offer (d.due w.device) v)))
      fits = reply_fit m w v known e

      inside : p < length ws
      inside = slice_get_within ws p w g

      same : set (map (port_of F d) ws) p (port_of F d w) ≡ map (port_of F d) ws
      same = set_same (map (port_of F d) ws) p (port_of F d w) (get_mapped (port_of F d) ws p w g)

      begins : bd m calls ws ≡ st m calls ws
      begins = not_over m calls ws (ap all_on (clears ws) ∙ off_at (λ w. is_clear (port_of F d w)) ws p w g (open_unclear k d codec plan laws laws' t mk w es))

      none_left : first_true (map is_unknown (set (map (port_of F d) ws) p (port_of F d w))) ≡ None
      none_left = ap (λ ports. first_true (map is_unknown ports)) same ∙ ap first_true (mapped ws) ∙ first_none (λ w. is_unknown (port_of F d w)) ws (unknown_of ws n)

      turn : least (map held_time (set (map (port_of F d) ws) p (port_of F d w))) ≡ Some (p, u)
      turn = ap (λ ports. least (map held_time ports)) same ∙ ap least (map_both held_time (port_of F d) (λ w. held_time (port_of F d w)) (λ w. refl) ws ∙ map_each (λ w. held_time (port_of F d w)) (want_time k (wired F d) plan) ws (each_to (IsKnown d t) (λ w. held_time (port_of F d w) ≡ want_time k (wired F d) plan w) (known_time k d codec plan laws laws' t mk) ws n)) ∙ first

      one : LeadsBy k d codec (if_posted (answered_at w v)) (focus (map (post_of F d) ws) p (frame k d codec plan Gather m calls t mk (set (map (port_of F d) ws) p (port_of F d w))) (post_of F d w)) (focus (map (post_of F d) ws) p (frame k d codec plan Gather m' calls' t mk (set (map (port_of F d) ws) p (port_of F d w2))) (post_of F d w2))
      one = serve_at k d codec plan laws laws' (map (post_of F d) ws) (map (port_of F d) ws) p (subst (λ n. p < n) (sym (length-map ws (post_of F d))) inside) (subst (λ n. p < n) (sym (length-map ws (port_of F d))) inside) m calls t mk w es eh v e (clear_want k d codec plan laws laws' t mk w known.port v e) (none_left, (u, turn))

      opened : IsOpenAt d t w2
      opened = subst (IsOpenAt d t) (sym (fed_is w r v e es)) (fed_open w r v known e es fits)

      unheld : w2.held ≡ false
      unheld = ap (λ (w : Wire S). w.held) (fed_is w r v e es)

      next : first_true (map is_unknown (map (port_of F d) (set ws p w2))) ≡ Some p
      next = ap first_true (mapped (set ws p w2)) ∙ first_set (λ w. is_unknown (port_of F d w)) ws p w2 inside (unknown_of ws n) (unknown_open k d codec plan laws laws' t mk w2 opened.synced unheld)

      two : Lead (st m' calls' (set ws p w2)) (bd m' calls' (set (set ws p w2) p (gathered F d w2)))
      two = gather_step m' calls' (set ws p w2) p w2 (get_set ws p w2 inside) opened unheld next

  serve_known : (ws : List (Wire S)) (p : ℕ) (w : Wire S) (v : Want) (r : Reply) → Known ws → slice_get ws p ≡ Some w → d.want w.device ≡ Some v → w.synced ≡ true → IsWritable (packet w.asks 2 (reply_body r (want_body w.side.offer (d.due w.device) v))) → Known (set ws p ((wired F d).feed w r))
  serve_known ws p w v r n g e es fits = each_set (IsKnown d t) ws p ((wired F d).feed w r) n (gathered_known k d codec plan laws laws' t mk (fed_wire F d w r (d.want w.device) (sends_of F d w)) (subst (IsOpenAt d t) (sym (fed_is w r v e es)) (fed_open w r v (each_at (IsKnown d t) ws p w n g) e es fits)) (ap (λ (w : Wire S). w.held) (fed_is w r v e es)))

  pub serve_step : (sides : List Side) (m : M) (calls : List Call) (ws : List (Wire S)) (history : List Moment) → sides_of ws ≡ sides → Known ws → Leads_to sides m calls ws history (serve_one k (wired F d) plan (at_run m calls ws history))
  serve_step sides m calls ws history same n = go (least (map (want_time k (wired F d) plan) ws)) refl
    where
      go : (l : Option (ℕ × ℕ)) → least (map (want_time k (wired F d) plan) ws) ≡ l → Leads_to sides m calls ws history (serve_one k (wired F d) plan (at_run m calls ws history))
      go None e = subst (λ l. Leads_to sides m calls ws history (serve_next k (wired F d) plan (at_run m calls ws history) l)) (sym e) (n, refl, uncounted k d codec sides t history _ _ (still_there k d codec plan _ _ refl))
      go (Some q) e = subst (λ l. Leads_to sides m calls ws history (serve_next k (wired F d) plan (at_run m calls ws history) l)) (sym e) (at_port (least_stands (want_time k (wired F d) plan) ws q e))
        where
          at_port : (w : Wire S) × (slice_get ws q.0 ≡ Some w) × (want_time k (wired F d) plan w ≡ Some q.1) → Leads_to sides m calls ws history (serve_device k (wired F d) plan (at_run m calls ws history) q.0 (slice_get ws q.0))
          at_port h = subst (λ o. Leads_to sides m calls ws history (serve_device k (wired F d) plan (at_run m calls ws history) q.0 o)) (sym h.1) (by (each_at (IsKnown d t) ws q.0 h.0 n h.1).kind)
            where
              by : ((v : Want) × (d.want h.0.device ≡ Some v) × (h.0.synced ≡ true) × (h.0.held ≡ true)) ⊎ ((d.want h.0.device ≡ None) × (h.0.synced ≡ false) × (h.0.held ≡ false)) → Leads_to sides m calls ws history (serve_want k (wired F d) plan (at_run m calls ws history) q.0 h.0 (d.want h.0.device))
              by (inl z) = subst (λ o. Leads_to sides m calls ws history (serve_want k (wired F d) plan (at_run m calls ws history) q.0 h.0 o)) (sym z.1) (serve_known ws q.0 h.0 z.0 (served k m z.0).1 n h.1 z.1 z.2 (reply_fit m h.0 z.0 (each_at (IsKnown d t) ws q.0 h.0 n h.1) z.1), refl, (if_posted (answered_at h.0 z.0), serve_port_step m calls ws q.0 h.0 z.0 q.1 n h.1 z.1 z.2 z.3 e, served_count sides history ws q.0 h.0 z.0 (served k m z.0).1 same h.1))
              by (inr z) = absurd (none-some q.1 (sym (ap (due_of k (wired F d) plan h.0) z.0) ∙ h.2))

  served_one : (sides : List Side) (r : Direct M (Wire S)) → r.tick ≡ t → sides_of r.devices ≡ sides → Known r.devices → Leads_to sides r.master r.calls r.devices r.history (serve_one k (wired F d) plan r)
  served_one sides r e same known = subst (λ (r' : Direct M (Wire S)). Leads_to sides r'.master r'.calls r'.devices r'.history (serve_one k (wired F d) plan r')) (λ i. record r { tick = sym e i }) (serve_step sides r.master r.calls r.devices r.history same known)

  gathered_dev : (w : Wire S) (h : Bool) (o : Option Want) (ms : List Packet) → (gathered_by w h o ms).device ≡ w.device
  gathered_dev w true o ms = refl
  gathered_dev w false None [] = refl
  gathered_dev w false None (m ∷ ms) = refl
  gathered_dev w false (Some v) [] = refl
  gathered_dev w false (Some v) (m ∷ ms) = refl

  fed_dev : (w : Wire S) (r : Reply) (v : Want) → d.want w.device ≡ Some v → w.synced ≡ true → ((wired F d).feed w r).device ≡ d.feed w.device r
  fed_dev w r v e es = let w2 : Wire S = fed_wire F d w r (d.want w.device) (sends_of F d w) in
      gathered_dev w2 w2.held (d.want w2.device) (unread F d w2) ∙ ap (λ (w : Wire S). w.device) (fed_is w r v e es)

  pub serve_loop : (sides : List Side) (n : ℕ) (r : Direct M (Wire S)) → r.tick ≡ t → sides_of r.devices ≡ sides → Known r.devices → Leads_to sides r.master r.calls r.devices r.history (serve_all k (wired F d) plan n r)
  serve_loop sides zero r e same known = (known, e, uncounted k d codec sides t r.history _ _ (still_there k d codec plan _ _ refl))
  serve_loop sides (suc n) r e same known =
      let one = served_one sides r e same known in
      let more = serve_loop sides n (serve_one k (wired F d) plan r) one.1 (serve_sides F k d plan laws r ∙ same) one.0 in
      (more.0, more.1, counted_on k d codec sides t t t _ _ _ _ _ _ one.2 more.2)

  -- After enough of them no want is left.

  abbrev left_in : List (Wire S) → ℕ
  left_in ws = all_left k (wired F d) plan ws

  left_set : (ws : List (Wire S)) (p : ℕ) (w w' : Wire S) → slice_get ws p ≡ Some w → left_in (set ws p w') + d.left w.device ≡ left_in ws + d.left w'.device
  left_set [] p w w' g = absurd (none-some w g)
  left_set (x ∷ ws) zero w w' g = let e : d.left x.device ≡ d.left w.device = ap (λ (w : Wire S). d.left w.device) (same_Some x w g) in omega arith
  left_set (x ∷ ws) (suc p) w w' g = let e = left_set ws p w w' g in omega arith

  wants_no : (ws : List (Wire S)) → left_in ws ≤ 0 → Each (λ w. d.want w.device ≡ None) ws
  wants_no [] l = tt
  wants_no (w ∷ ws) l = (laws.left_none w.device (omega arith), wants_no ws (omega arith))

  no_left : (ws : List (Wire S)) → Each (λ w. want_time k (wired F d) plan w ≡ None) ws → left_in ws ≡ 0
  no_left [] a = refl
  no_left (w ∷ ws) a = let e = no_left ws a.1 in let e' : d.left w.device ≡ 0 = laws.none_left w.device (untimed (d.want w.device) refl a.0) in omega arith
    where
      untimed : (o : Option Want) → d.want w.device ≡ o → due_of k (wired F d) plan w (d.want w.device) ≡ None → d.want w.device ≡ None
      untimed None e f = e
      untimed (Some v) e f = absurd (none-some (d.due w.device) (sym f ∙ ap (due_of k (wired F d) plan w) e))

  serve_less : (m : M) (calls : List Call) (ws : List (Wire S)) (history : List Moment) (n : ℕ) → Known ws → left_in ws ≤ suc n → left_in (serve_one k (wired F d) plan (at_run m calls ws history)).devices ≤ n
  serve_less m calls ws history n known l = go (least (map (want_time k (wired F d) plan) ws)) refl
    where
      go : (o : Option (ℕ × ℕ)) → least (map (want_time k (wired F d) plan) ws) ≡ o → left_in (serve_one k (wired F d) plan (at_run m calls ws history)).devices ≤ n
      go None e = subst (λ o. left_in (serve_next k (wired F d) plan (at_run m calls ws history) o).devices ≤ n) (sym e) (let z = no_left ws (least_none (want_time k (wired F d) plan) ws e) in omega arith)
      go (Some q) e = subst (λ o. left_in (serve_next k (wired F d) plan (at_run m calls ws history) o).devices ≤ n) (sym e) (at_port (least_stands (want_time k (wired F d) plan) ws q e))
        where
          at_port : (w : Wire S) × (slice_get ws q.0 ≡ Some w) × (want_time k (wired F d) plan w ≡ Some q.1) → left_in (serve_device k (wired F d) plan (at_run m calls ws history) q.0 (slice_get ws q.0)).devices ≤ n
          at_port h = subst (λ o. left_in (serve_device k (wired F d) plan (at_run m calls ws history) q.0 o).devices ≤ n) (sym h.1) (by (each_at (IsKnown d t) ws q.0 h.0 known h.1).kind)
            where
              by : ((v : Want) × (d.want h.0.device ≡ Some v) × (h.0.synced ≡ true) × (h.0.held ≡ true)) ⊎ ((d.want h.0.device ≡ None) × (h.0.synced ≡ false) × (h.0.held ≡ false)) → left_in (serve_want k (wired F d) plan (at_run m calls ws history) q.0 h.0 (d.want h.0.device)).devices ≤ n
              by (inl z) = subst (λ o. left_in (serve_want k (wired F d) plan (at_run m calls ws history) q.0 h.0 o).devices ≤ n) (sym z.1)
                  (let w' : Wire S = (wired F d).feed h.0 (served k m z.0).1 in
                  let a = left_set ws q.0 h.0 w' h.1 in
                  let same : d.left w'.device ≡ d.left (d.feed h.0.device (served k m z.0).1) = ap d.left (fed_dev h.0 (served k m z.0).1 z.0 z.1 z.2) in
                  let b = laws.feed_left h.0.device (served k m z.0).1 z.0 z.1 in
                  omega arith)
              by (inr z) = absurd (none-some q.1 (sym (ap (due_of k (wired F d) plan h.0) z.0) ∙ h.2))

  serve_done : (n : ℕ) (r : Direct M (Wire S)) → r.tick ≡ t → Known r.devices → left_in r.devices ≤ n → Each (λ w. d.want w.device ≡ None) (serve_all k (wired F d) plan n r).devices
  serve_done zero r e known l = wants_no r.devices l
  serve_done (suc n) r e known l =
      let one = served_one (sides_of r.devices) r e refl known in
      serve_done n (serve_one k (wired F d) plan r) one.1 one.0
      (subst (λ (r : Direct M (Wire S)). left_in (serve_one k (wired F d) plan r).devices ≤ n) (λ i. record r { tick = sym e i }) (serve_less r.master r.calls r.devices r.history n known l))

  -- The boundary is over.
  abbrev over : M → List Call → List (Wire S) → PacketWorld (MachineEnd M F) (DeviceEnd S F) (Decoded F)
  over m calls ws = state k d codec plan laws (if is_last_boundary k plan m t then Done else Run) m calls t true ws

  is_over : (m : M) (calls : List Call) (ws : List (Wire S)) → Known ws → Each (λ w. d.want w.device ≡ None) ws → bd m calls ws ≡ over m calls ws
  is_over m calls ws n a = ap (λ b. record { hub = if_over k (frame k d codec plan Gather m calls t mk (map (port_of F d) ws)) b; links = map (post_of F d) ws }) (ap all_on (clears ws) ∙ all_clear (λ w. is_clear (port_of F d w)) ws (every ws n a))
    where
      every : (ws : List (Wire S)) → Known ws → Each (λ w. d.want w.device ≡ None) ws → Each (λ w. is_clear (port_of F d w) ≡ true) ws
      every [] n a = tt
      every (w ∷ ws) n a = (none_clear k d codec plan laws laws' t mk w n.0 a.0, every ws n.1 a.1)

  -- All wants of a boundary.
  pub serves_all : (sides : List Side) (m : M) (calls : List Call) (ws : List (Wire S)) (history : List Moment) → sides_of ws ≡ sides → Known ws → Counted k d codec sides t t history (serve_left k (wired F d) plan (at_run m calls ws history)).history (bd m calls ws) (over (serve_left k (wired F d) plan (at_run m calls ws history)).master (serve_left k (wired F d) plan (at_run m calls ws history)).calls (serve_left k (wired F d) plan (at_run m calls ws history)).devices) × Known (serve_left k (wired F d) plan (at_run m calls ws history)).devices × Each (λ w. d.want w.device ≡ None) (serve_left k (wired F d) plan (at_run m calls ws history)).devices × ((serve_left k (wired F d) plan (at_run m calls ws history)).tick ≡ t)
  serves_all sides m calls ws history same n =
      let all = serve_loop sides (left_in ws) (at_run m calls ws history) refl same n in
      let done = serve_done (left_in ws) (at_run m calls ws history) refl n (omega arith) in
      ((all.2.0, arrives k d codec all.2.0 _ _ _ all.2.1 (is_over _ _ _ all.0 done), all.2.2), all.0, done, all.1)
