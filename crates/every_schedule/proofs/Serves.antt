-- In a boundary the machine serves a request that it holds.
use Rattle.std.proofs.Common.{inl, ◌≡◌, ℕ, ◌<◌, Bool, true, false, not, ◌&&◌, List, [], ◌∷◌, ◌++◌, length, take, set, map, Option, Some, None, refl, sym, ap, ◌∙◌, subst}
use Rattle.std.specs.Prelude.{if◌then◌else◌}
use Rattle.std.proofs.lemmas.List.{map-append, append-nil, set-set}
use Rattle.process_network.specs.PacketStar.{PacketLink, PacketWorld, with_sent}
use Rattle.process_network.specs.PacketStar.HubOutlook.{HubActs}
use Rattle.process_network.proofs.MovesAtPort.{get_set, focus, hub_local, hub_sends_one}
use Rattle.cosim_model.specs.declared.values.Want.{Want}
use Rattle.cosim_model.specs.declared.values.Call.{Call}
use Rattle.cosim_model.specs.declared.values.Caps.{Caps}
use Rattle.cosim_model.specs.Values.{bits_of}
use Rattle.cosim_model.specs.declared.values.Want.TheVariants.{Fetch, Store, Line}
use Rattle.cosim_model.specs.declared.values.Call.TheVariants as call
use Rattle.cosim_model.specs.declared.values.Reply.{Reply}
use Rattle.cosim_model.specs.Parts.{DeviceModel, MasterModel, IsDevice, IsMaster, served}
use Rattle.cosim_model.specs.declared.session.Command.TheVariants as command
use Rattle.cosim_model.specs.Packets.{Packet, Decoded, Codec}
use Rattle.cosim_model.specs.Packets.Decoded.{Valid}
use Rattle.cosim_model.specs.declared.session.Ticket.{Ticket}
use Rattle.cosim_model.specs.Sessions.{next_number, ticket_of, answer_of, is_posted}
use Rattle.ends_model.specs.declared.ends.OpenSync.{OpenSync}
use Rattle.ends_model.specs.DeviceTurn.{DeviceEnd, settled, want_body, told, level_of, bare_reply, then_settled, device_takes, device_took, reply_from, answer_fields, request_fields}
use Rattle.cosim_model.specs.declared.values.Plan.{Plan}
use Rattle.ends_model.specs.MachineTurn.{MachineEnd, PortEnd, first_true, is_unknown, least, held_time, after_service, serve_body, Service}
use Rattle.ends_model.specs.declared.ends.Phase.TheVariants.{Gather}
use Rattle.every_schedule.specs.Wires.{Wire, unsettled, sync_ticket, fed_wire, reply_packets}
use Rattle.ends_model.specs.Traffic.{reply_body}
use Rattle.ends_model.specs.World.{ends}
use Rattle.every_schedule.proofs.Takes.{machine_s, own, packet, device_s, gets_read_answer, gets_write_answer, gets_line_answer}
use Rattle.every_schedule.proofs.Accesses.{want_cmd, want_len, device, asking_leaf, port_with, post_with}
use Rattle.every_schedule.proofs.Gathers.{answered_at, request_packet, posted_packet, settles_open}
use Rattle.every_schedule.proofs.PacketFacts.{IsClearWant, same_service, same_reply}
use Rattle.every_schedule.specs.Counts.{if_posted}
use Rattle.every_schedule.proofs.Leads.{LeadsBy, recount, hub_sends, hub_alone}
use Rattle.every_schedule.proofs.Moves.{arrive, leads_on, Leads, frame, here, device_moves}
use Rattle.every_schedule.proofs.Outlooks.{gather_outlook, serve_outlook, serve_port, serve_packet}

true_false : true ≡ false → ⊥
true_false e = cc

pub posted_request : {S : Type 0} (w : Wire S) (id due : ℕ) (v : Want) (a : Bool) → answered_at w v ≡ a → is_posted w.side.offer (request_packet w.side.offer id due v a) ≡ not a
posted_request w id due (Fetch addr size) true e = refl
posted_request w id due (Fetch addr size) false e = absurd (true_false e)
posted_request w id due (Store addr size bytes mask) true e = refl
posted_request w id due (Store addr size bytes mask) false e = absurd (true_false e)
posted_request w id due (Line number level) false e = refl
posted_request w id due (Line number level) true e = ap not (wires w.side.offer.posted w.side.answered_lines e)
  where
    wires : (x y : Bool) → (x && y) ≡ true → x ≡ true
    wires true y e = refl
    wires false y e = e

module _ {S : Type 0} (F : Type 0) (d : DeviceModel S) (s : S) (lines : Bool) (offer needs : Caps) (next : ℕ) (ps : Option Ticket) (last : ℕ) (os : Option OpenSync) (calls : List Call) where
  -- the device with its request out, and fed
  abbrev was : ℕ → Want → DeviceEnd S F
  was id v = device F s lines (device_s offer needs next (own (want_cmd v) id (want_len v)) ps None last) os (Some v) calls

  abbrev is_fed : Want → Reply → DeviceEnd S F
  is_fed v r = device F (d.feed s r) lines (device_s offer needs next None ps None last) os None (calls ++ call.Served (d.seen s) 0 (d.due s) v r ∷ [])

  pub device_fed : (id due : ℕ) (v : Want) (r : Reply) → reply_from v (reply_body r (want_body offer due v)) ≡ r → device_takes d (was id v) (Valid (packet id 2 (reply_body r (want_body offer due v)))) ≡ then_settled d (is_fed v r, [])
  device_fed id due (Fetch addr size) r e = ap (device_took d (was id (Fetch addr size)) (packet id 2 (reply_body r (want_body offer due (Fetch addr size))))) (gets_read_answer offer needs next None ps last id (answer_fields (request_fields offer due addr size [] []) r.code size (take size r.bytes)) None) ∙ ap (λ r. then_settled d (is_fed (Fetch addr size) r, [])) e
  device_fed id due (Store addr size bytes mask) r e = ap (device_took d (was id (Store addr size bytes mask)) (packet id 2 (reply_body r (want_body offer due (Store addr size bytes mask))))) (gets_write_answer offer needs next None ps last id size (answer_fields (request_fields offer due addr size (take size bytes) (bits_of mask size)) r.code size []) None) ∙ ap (λ r. then_settled d (is_fed (Store addr size bytes mask) r, [])) e
  device_fed id due (Line number level) r e = ap (device_took d (was id (Line number level)) (packet id 2 (reply_body r (want_body offer due (Line number level))))) (gets_line_answer offer needs next None ps last id 0 due 0 number (level_of level) None) ∙ ap (λ r. then_settled d (is_fed (Line number level) r, [])) e

module _ {M S F : Type 0} (k : MasterModel M) (d : DeviceModel S) (codec : Codec F) (plan : Plan) (laws : IsDevice d) (laws' : IsMaster k)
    (links : List (PacketLink (DeviceEnd S F) (Decoded F))) (ports : List PortEnd) (p : ℕ) (inside : p < length links) (inside' : p < length ports) (m : M) (calls : List Call) (t : ℕ) (mk : Bool) where
  abbrev at : M → List Call → PortEnd → PacketLink (DeviceEnd S F) (Decoded F) → PacketWorld (MachineEnd M F) (DeviceEnd S F) (Decoded F)
  at m calls q l = here k d codec plan links ports p inside inside' Gather m calls t mk q l

  abbrev holder : Wire S → Wire S
  holder w = record w { held = true; synced = true }

  abbrev IsTurn : PortEnd → Type 0
  IsTurn q = (first_true (map is_unknown (set ports p q)) ≡ None) × ((u : ℕ) × (least (map held_time (set ports p q)) ≡ Some (p, u)))

  abbrev serve_by : Wire S → Want → DeviceEnd S F × List Packet → Wire S → DeviceEnd S F × List Packet → Type 0
  serve_by w v r w' r' = IsTurn (port_with w w.held r) → LeadsBy k d codec (if_posted (answered_at w v)) (at m calls (port_with w w.held r) (post_with w w.held r)) (at (served k m v).0 (calls ++ call.Served t p (d.due w.device) v (served k m v).1 ∷ []) (port_with w' w'.held r') (post_with w' w'.held r'))

  module _ (w : Wire S) (v : Want) (clear : IsClearWant w.side.offer v) where
    abbrev x : Bool → Packet
    x a = request_packet w.side.offer w.asks (d.due w.device) v a

    abbrev reply : Reply
    reply = (served k m v).1

    abbrev calls' : List Call
    calls' = calls ++ call.Served t p (d.due w.device) v reply ∷ []

    abbrev ans : Packet
    ans = packet w.asks 2 (reply_body reply (want_body w.side.offer (d.due w.device) v))

    -- what the machine does
    looks : (a : Bool) (leaf : DeviceEnd S F) (rest : List Packet) → IsTurn (port_with (holder w) true (leaf, x a ∷ rest)) → answered_at w v ≡ a → (ends k d codec).hub_outlook (frame k d codec plan Gather m calls t mk (set ports p (port_with (holder w) true (leaf, x a ∷ rest)))) ≡ serve_packet k (frame k d codec plan Gather m calls t mk (set ports p (port_with (holder w) true (leaf, x a ∷ rest)))) p (port_with (holder w) true (leaf, x a ∷ rest)) (x a) (not a)
    looks a leaf rest turn e =
        ap (gather_outlook k h) turn.0
        ∙ ap (serve_outlook k h) turn.1.1
        ∙ ap (serve_port k h p) (get_set ports p q inside')
        ∙ ap (serve_packet k h p q (x a)) (posted_request w w.asks (d.due w.device) v a e)
      where
        q : PortEnd
        q = port_with (holder w) true (leaf, x a ∷ rest)

        h : MachineEnd M F
        h = frame k d codec plan Gather m calls t mk (set ports p q)

    -- An answered request.
    serve_answered : answered_at w v ≡ true → serve_by (holder w) v (asking_leaf F (holder w) v, x true ∷ []) (fed_wire F d (holder w) reply (Some v) (x true ∷ [])) (settled {F = F} d (unsettled (fed_wire F d (holder w) reply (Some v) (x true ∷ []))))
    serve_answered e turn = recount k d codec 0 (if_posted (answered_at w v)) _ _ (ap if_posted (sym e)) (leads_on k d codec plan _ _ _ one (arrive k d codec plan _ _ _
        (device_moves k d codec plan links ports p inside inside' Gather (served k m v).0 calls' t mk (port_with {F = F} w2 false r2) (with_sent l0 (Valid ans)) ans _ refl refl refl (device_fed F d w.device w.side.answered_lines w.side.offer w.side.needs (next_number w.asks) (Some (sync_ticket w.sync_id)) w.last (Some (record { ticket = sync_ticket w.sync_id; time = w.last })) w.calls w.asks (d.due w.device) v reply (same_reply k laws' m w.side.offer (d.due w.device) v clear)))
        (ap (λ (u : List (Decoded F)). at (served k m v).0 calls' (port_with {F = F} w2 false r2) (record { leaf = r2.0; out_taken = u; out_waiting = []; back_taken = map Valid w.back; back_waiting = map Valid r2.1 })) (sym (map-append Valid w.out (ans ∷ [])) ∙ ap (λ b. map Valid (w.out ++ reply_packets F d reply (x true) b)) (sym (posted_request w w.asks (d.due w.device) v true e))))))
      where
        w2 : Wire S
        w2 = fed_wire F d (holder w) reply (Some v) (x true ∷ [])

        r2 : DeviceEnd S F × List Packet
        r2 = settled d (unsettled w2)

        q : PortEnd
        q = port_with {F = F} (holder w) true (asking_leaf F (holder w) v, x true ∷ [])

        l0 : PacketLink (DeviceEnd S F) (Decoded F)
        l0 = post_with (holder w) true (asking_leaf F (holder w) v, x true ∷ [])

        h : MachineEnd M F
        h = frame k d codec plan Gather m calls t mk (set ports p q)

        one : Leads k d codec plan (at m calls q l0) (at (served k m v).0 calls' (port_with {F = F} w2 false r2) (with_sent l0 (Valid ans)))
        one = hub_sends k d codec _ _ _ p ans l0
            (looks true (asking_leaf F (holder w) v) [] turn e ∙ ap (λ (s : Service M). HubActs (after_service k h p (port_with {F = F} w2 false r2) s) (Some (p, Valid (answer_of (ticket_of (x true)) s.answer)))) (same_service k laws' m w.side.offer t p (d.due w.device) v clear))
            (get_set links p l0 inside) (refl, refl, inl refl)
            (hub_sends_one (ends k d codec) links p inside h (after_service k h p (port_with {F = F} w2 false r2) (record { master = (served k m v).0; calls = call.Served t p (d.due w.device) v reply ∷ []; answer = reply_body reply (want_body w.side.offer (d.due w.device) v) })) l0 (Valid ans)
            (looks true (asking_leaf F (holder w) v) [] turn e ∙ ap (λ (s : Service M). HubActs (after_service k h p (port_with {F = F} w2 false r2) s) (Some (p, Valid (answer_of (ticket_of (x true)) s.answer)))) (same_service k laws' m w.side.offer t p (d.due w.device) v clear))
            ∙ ap (λ v'. focus links p (frame k d codec plan Gather (served k m v).0 calls' t mk v') (with_sent l0 (Valid ans))) (set-set ports p q (port_with {F = F} w2 false r2)))

  -- A posted line.
  module _ (w : Wire S) (number : ℕ) (level : Bool) (clear : IsClearWant w.side.offer (Line number level)) (e : answered_at w (Line number level) ≡ false) where
    abbrev v : Want
    v = Line number level

    abbrev x_line : Packet
    x_line = posted_packet w.side.offer w.asks (d.due w.device) v

    abbrev w_fed : Wire S
    w_fed = fed_wire F d (holder w) (bare_reply 0) (Some v) (x_line ∷ [])

    abbrev r_fed : DeviceEnd S F × List Packet
    r_fed = settled d (unsettled w_fed)

    serve_posted : serve_by (holder w) v (r_fed.0, x_line ∷ r_fed.1) w_fed r_fed
    serve_posted turn = recount k d codec 1 (if_posted (answered_at w v)) _ _ (ap if_posted (sym e)) (hub_alone k d codec _ _ _ (looks w v clear false r_fed.0 r_fed.1 turn e)
        (hub_local (ends k d codec) links p inside h (after_service k h p (record q { held = None }) (serve_body k m t p x_line.body)) l0 (looks w v clear false r_fed.0 r_fed.1 turn e)
        ∙ ap (λ (s : Service M). focus links p (after_service k h p (record q { held = None }) s) l0) (same_service k laws' m w.side.offer t p (d.due w.device) v clear)
        ∙ ap (λ v'. focus links p (frame k d codec plan Gather m' calls1 t mk v') l0) (set-set ports p q (record q { held = None }))
        ∙ ap (λ (b : Bool). at m' calls1 (record { session = machine_s w.next w.side.offer (own command.Sync w.sync_id 0) None (if b then None else Some (ticket_of x_line)) w.heard w.count; held = None; last = w.last }) l0) is_told
        ∙ ap (λ (u : List (Decoded F)). at m' calls1 (port_with {F = F} w_fed false r_fed) (record { leaf = r_fed.0; out_taken = u; out_waiting = []; back_taken = map Valid w.back; back_waiting = map Valid r_fed.1 })) (ap (map Valid) (sym (append-nil w.out)) ∙ ap (λ b. map Valid (w.out ++ reply_packets F d (bare_reply 0) x_line b)) (sym is_told))))
      where
        is_told : is_posted w.side.offer x_line ≡ true
        is_told = posted_request w w.asks (d.due w.device) v false e

        q : PortEnd
        q = port_with {F = F} (holder w) true (r_fed.0, x_line ∷ r_fed.1)

        l0 : PacketLink (DeviceEnd S F) (Decoded F)
        l0 = post_with (holder w) true (r_fed.0, x_line ∷ r_fed.1)

        h : MachineEnd M F
        h = frame k d codec plan Gather m calls t mk (set ports p q)

        m' : M
        m' = (served k m v).0

        calls1 : List Call
        calls1 = calls ++ call.Served t p (d.due w.device) v (bare_reply 0) ∷ []

  -- by what is wanted, and what settling gives
  abbrev serve_goal : Wire S → Want → Option Want → DeviceEnd S F × List Packet → Type 0
  serve_goal w v o r = serve_by w v r (fed_wire F d w (served k m v).1 o r.1) (settled {F = F} d (unsettled (fed_wire F d w (served k m v).1 o r.1)))

  -- A held request is served.
  pub serve_at : (w : Wire S) → w.synced ≡ true → w.held ≡ true → (v : Want) → d.want w.device ≡ Some v → IsClearWant w.side.offer v → serve_goal w v (d.want w.device) (settled {F = F} d (unsettled w))
  serve_at w es eh v e clear = subst (λ u. serve_goal u v (d.want u.device) (settled {F = F} d (unsettled u))) (sym is_holder) (subst (λ o. serve_goal (holder w) v o (settled {F = F} d (unsettled (holder w)))) (sym e) (by (answered_at w v) refl))
    where
      is_holder : w ≡ holder w
      is_holder = λ i. record w { held = eh i; synced = es i }

      line_only : (v : Want) → IsClearWant w.side.offer v → answered_at w v ≡ false → serve_goal (holder w) v (Some v) ((settled {F = F} d (told d (unsettled (holder w)) v)).0, request_packet w.side.offer w.asks (d.due w.device) v false ∷ (settled {F = F} d (told d (unsettled (holder w)) v)).1)
      line_only (Fetch addr size) clear f = absurd (true_false f)
      line_only (Store addr size bytes mask) clear f = absurd (true_false f)
      line_only (Line number level) clear f = serve_posted w number level clear f

      by : (a : Bool) → answered_at w v ≡ a → serve_goal (holder w) v (Some v) (settled {F = F} d (unsettled (holder w)))
      by true f = subst (serve_goal (holder w) v (Some v)) (sym (settles_open k d codec plan laws (holder w) v refl e true f)) (serve_answered w v clear f)
      by false f = subst (serve_goal (holder w) v (Some v)) (sym (settles_open k d codec plan laws (holder w) v refl e false f)) (line_only v clear f)
