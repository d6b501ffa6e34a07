-- In a boundary the machine takes the next packet of a port: a request, or the answer of its sync.
use Rattle.std.proofs.Common.{◌≡◌, ℕ, suc, ◌<◌, ◌≤◌, Bool, true, false, ◌&&◌, List, [], ◌∷◌, length, set, map, Option, Some, None, Ok, refl, sym, ap, ◌∙◌, subst}
use Rattle.std.specs.Prelude.{nat_lt}
use Rattle.std.proofs.lemmas.List.{map-append, set-set}
use Rattle.process_network.specs.PacketStar.{PacketLink, PacketWorld, with_taken}
use Rattle.process_network.proofs.MovesAtPort.{get_set, focus, hub_takes_one}
use Rattle.cosim_model.specs.declared.values.Want.{Want}
use Rattle.cosim_model.specs.declared.values.Call.{Call}
use Rattle.cosim_model.specs.declared.values.Caps.{Caps}
use Rattle.cosim_model.specs.Values.{all_on}
use Rattle.cosim_model.specs.declared.values.Want.TheVariants.{Fetch, Store, Line}
use Rattle.cosim_model.specs.Parts.{DeviceModel, MasterModel, IsDevice}
use Rattle.cosim_model.specs.declared.session.Command.TheVariants as command
use Rattle.cosim_model.specs.Packets.{Packet, Decoded, Codec}
use Rattle.cosim_model.specs.Packets.Body.{Sync}
use Rattle.cosim_model.specs.Packets.Decoded.{Valid}
use Rattle.cosim_model.specs.Sessions.{Session, take_packet}
use Rattle.cosim_model.specs.declared.session.Event.TheVariants.{SyncDone, Told}
use Rattle.ends_model.specs.DeviceTurn.{DeviceEnd, settled, is_answered, want_body, told, level_of, closed}
use Rattle.cosim_model.specs.declared.values.Plan.{Plan}
use Rattle.ends_model.specs.MachineTurn.{MachineEnd, PortEnd, first_true, is_unknown, is_clear, if_over, machine_hears_at, machine_took, time_of}
use Rattle.ends_model.specs.declared.ends.Phase.TheVariants.{Gather}
use Rattle.every_schedule.specs.Wires.{Wire, unsettled, behind, gathered, gathered_by, take_request, take_synced}
use Rattle.ends_model.specs.World.{ends}
use Rattle.every_schedule.specs.Mirror.{ticket_at}
use Rattle.every_schedule.proofs.Base.{not_below}
use Rattle.every_schedule.proofs.Lists.{off_at}
use Rattle.every_schedule.proofs.Settles.{settles_idle, settles_posting, settles_synced}
use Rattle.every_schedule.proofs.Takes.{machine_s, own, packet, hears_sync_answer, hears_line}
use Rattle.every_schedule.proofs.Accesses.{asking_leaf, asking_packet, port_with, post_with, settles_asks, heard_want, time_is}
use Rattle.every_schedule.proofs.Leads.{hub_takes_it}
use Rattle.every_schedule.proofs.Moves.{arrive, Leads, frame, here, takes_request, takes_told}
use Rattle.every_schedule.proofs.Outlooks.{gather_outlook}

true_false : true ≡ false → ⊥
true_false e = cc

-- A port in a boundary: its sync is not answered yet.
pub record IsOpen {S : Type 0} (d : DeviceModel S) (w : Wire S) : Type 0 where
  pub synced : w.synced ≡ true
  pub late : d.due w.device ≤ w.last
  pub heard : w.heard ≤ d.due w.device
  pub count : w.count < 8191

-- a line that is sent as posted
abbrev pub posted_packet : Caps → ℕ → ℕ → Want → Packet
posted_packet offer id due v = packet id 4 (want_body offer due v)

-- The first request of a device that wants v.
abbrev pub request_packet : Caps → ℕ → ℕ → Want → Bool → Packet
request_packet offer id due v true = asking_packet offer id due v
request_packet offer id due v false = posted_packet offer id due v

abbrev pub answered_at : {S : Type 0} → Wire S → Want → Bool
answered_at w v = is_answered (w.side.offer.posted && w.side.answered_lines) v

module _ {M S F : Type 0} (k : MasterModel M) (d : DeviceModel S) (codec : Codec F) (plan : Plan) (laws : IsDevice d) where
  abbrev pub rest_of : Wire S → Want → Bool → List Packet
  rest_of w v true = []
  rest_of w v false = (settled {F = F} d (told d (unsettled w) v)).1

  abbrev pub leaf_of : Wire S → Want → Bool → DeviceEnd S F
  leaf_of w v true = asking_leaf F w v
  leaf_of w v false = (settled {F = F} d (told d (unsettled w) v)).0

  -- What settling gives while a sync is open and v is wanted.
  pub settles_open : (w : Wire S) (v : Want) → w.synced ≡ true → d.want w.device ≡ Some v → (a : Bool) → answered_at w v ≡ a → settled {F = F} d (unsettled w) ≡ (leaf_of w v a, request_packet w.side.offer w.asks (d.due w.device) v a ∷ rest_of w v a)
  settles_open w v s e true f = settles_asks F d w v e f
  settles_open w v s e false f = settles_posting F d laws w v s e f

  pub request_time : (offer : Caps) (id due : ℕ) (v : Want) (a : Bool) → time_of (request_packet offer id due v a).body ≡ due
  request_time offer id due v true = time_is offer due v
  request_time offer id due v false = time_is offer due v

  -- the state in a boundary: it is over where every port is clear
  abbrev pub in_boundary : M → List Call → ℕ → Bool → List PortEnd → List (PacketLink (DeviceEnd S F) (Decoded F)) → PacketWorld (MachineEnd M F) (DeviceEnd S F) (Decoded F)
  in_boundary m calls t mk ports links = record { hub = if_over k (frame k d codec plan Gather m calls t mk ports) (all_on (map is_clear ports)); links = links }

  module _ (links : List (PacketLink (DeviceEnd S F) (Decoded F))) (ports : List PortEnd) (p : ℕ) (inside : p < length links) (inside' : p < length ports) (m : M) (calls : List Call) (t : ℕ) (mk : Bool) where
    abbrev at : PortEnd → PacketLink (DeviceEnd S F) (Decoded F) → PacketWorld (MachineEnd M F) (DeviceEnd S F) (Decoded F)
    at q l = here k d codec plan links ports p inside inside' Gather m calls t mk q l

    abbrev into : PortEnd → PacketLink (DeviceEnd S F) (Decoded F) → PacketWorld (MachineEnd M F) (DeviceEnd S F) (Decoded F)
    into q l = in_boundary m calls t mk (set ports p q) (set links p l)

    abbrev IsNext : PortEnd → Type 0
    IsNext q = first_true (map is_unknown (set ports p q)) ≡ Some p

    takes_sync_answer : (q : PortEnd) (l : PacketLink (DeviceEnd S F) (Decoded F)) (x : Packet) (rest : List (Decoded F)) (s : Session) → IsNext q → l.back_waiting ≡ Valid x ∷ rest → take_packet q.session x ≡ (s, Ok SyncDone) → Leads k d codec plan (at q l) (into (record { session = s; held = q.held; last = q.last }) (with_taken l (Valid x) rest))
    takes_sync_answer q l x rest s next new f = hub_takes_it k d codec _ _ p (ap (gather_outlook k (frame k d codec plan Gather m calls t mk (set ports p q))) next) (
        hub_takes_one (ends k d codec) links p inside (frame k d codec plan Gather m calls t mk (set ports p q)) l (Valid x) rest (ap (gather_outlook k (frame k d codec plan Gather m calls t mk (set ports p q))) next) new
        ∙ ap (λ o. focus links p (machine_hears_at k (frame k d codec plan Gather m calls t mk (set ports p q)) p (Valid x) o) (with_taken l (Valid x) rest)) (get_set ports p q inside')
        ∙ ap (λ r. focus links p (machine_took k (frame k d codec plan Gather m calls t mk (set ports p q)) p q x r) (with_taken l (Valid x) rest)) f
        ∙ ap (λ v. in_boundary m calls t mk v (set links p (with_taken l (Valid x) rest))) (set-set ports p q (record { session = s; held = q.held; last = q.last })))

    -- what holds a request is not clear
    holds_on : (q : PortEnd) (l : PacketLink (DeviceEnd S F) (Decoded F)) → is_clear q ≡ false → at q l ≡ into q l
    holds_on q l e = ap (λ b. record { hub = if_over k (frame k d codec plan Gather m calls t mk (set ports p q)) b; links = set links p l }) (sym (off_at is_clear (set ports p q) p q (get_set ports p q inside') e))

    abbrev opened : Wire S → Wire S
    opened w = record w { held = false; synced = true }

    abbrev gather_by : Wire S → DeviceEnd S F × List Packet → Wire S → DeviceEnd S F × List Packet → Type 0
    gather_by w r w' r' = IsNext (port_with w w.held r) → Leads k d codec plan (at (port_with w w.held r) (post_with w w.held r)) (into (port_with w' w'.held r') (post_with w' w'.held r'))

    -- a request
    gather_request : (w : Wire S) → IsOpen d w → (v : Want) (a : Bool) → answered_at w v ≡ a → (leaf : DeviceEnd S F) (rest : List Packet) → gather_by (opened w) (leaf, request_packet w.side.offer w.asks (d.due w.device) v a ∷ rest) (take_request (opened w) (request_packet w.side.offer w.asks (d.due w.device) v a)) (leaf, request_packet w.side.offer w.asks (d.due w.device) v a ∷ rest)
    gather_request w opn v a ea leaf rest next = by a ea next
      where
        x : Bool → Packet
        x a = request_packet w.side.offer w.asks (d.due w.device) v a

        by : (a : Bool) → answered_at w v ≡ a → IsNext (port_with {F = F} (opened w) false (leaf, request_packet w.side.offer w.asks (d.due w.device) v a ∷ rest)) → Leads k d codec plan (at (port_with {F = F} (opened w) false (leaf, request_packet w.side.offer w.asks (d.due w.device) v a ∷ rest)) (post_with (opened w) false (leaf, request_packet w.side.offer w.asks (d.due w.device) v a ∷ rest))) (into (port_with {F = F} (take_request (opened w) (request_packet w.side.offer w.asks (d.due w.device) v a)) true (leaf, request_packet w.side.offer w.asks (d.due w.device) v a ∷ rest)) (post_with (take_request (opened w) (request_packet w.side.offer w.asks (d.due w.device) v a)) true (leaf, request_packet w.side.offer w.asks (d.due w.device) v a ∷ rest)))
        by true e n = arrive k d codec plan _ _ _
            (takes_request k d codec plan links ports p inside inside' Gather m calls t mk (port_with {F = F} (opened w) false (leaf, x true ∷ rest)) (post_with (opened w) false (leaf, x true ∷ rest)) (x true) (map Valid rest) _ _
            (ap (gather_outlook k (frame k d codec plan Gather m calls t mk (set ports p (port_with {F = F} (opened w) false (leaf, x true ∷ rest))))) n) refl
            (heard_want w.next w.side.offer (own command.Sync w.sync_id 0) None w.heard w.count w.asks (d.due w.device) v w.side.answered_lines opn.count opn.heard e)
            (ap (nat_lt w.last) (time_is w.side.offer (d.due w.device) v) ∙ not_below w.last (d.due w.device) opn.late))
            (holds_on (port_with {F = F} (take_request (opened w) (x true)) true (leaf, x true ∷ rest)) (with_taken (post_with (opened w) false (leaf, x true ∷ rest)) (Valid (x true)) (map Valid rest)) refl
            ∙ ap (λ (u : List (Decoded F)). into (port_with {F = F} (take_request (opened w) (x true)) true (leaf, x true ∷ rest)) (record { leaf = leaf; out_taken = map Valid w.out; out_waiting = []; back_taken = u; back_waiting = map Valid rest })) (sym (map-append Valid w.back (x true ∷ []))))
        by false e n = arrive k d codec plan _ _ _
            (takes_told k d codec plan links ports p inside inside' Gather m calls t mk (port_with {F = F} (opened w) false (leaf, x false ∷ rest)) (post_with (opened w) false (leaf, x false ∷ rest)) (x false) (map Valid rest) _
            (ap (gather_outlook k (frame k d codec plan Gather m calls t mk (set ports p (port_with {F = F} (opened w) false (leaf, x false ∷ rest))))) n) refl
            (posted_line v e)
            (ap (nat_lt w.last) (time_is w.side.offer (d.due w.device) v) ∙ not_below w.last (d.due w.device) opn.late))
            (holds_on (port_with {F = F} (take_request (opened w) (x false)) true (leaf, x false ∷ rest)) (with_taken (post_with (opened w) false (leaf, x false ∷ rest)) (Valid (x false)) (map Valid rest)) refl
            ∙ ap (λ (u : List (Decoded F)). into (port_with {F = F} (take_request (opened w) (x false)) true (leaf, x false ∷ rest)) (record { leaf = leaf; out_taken = map Valid w.out; out_waiting = []; back_taken = u; back_waiting = map Valid rest })) (sym (map-append Valid w.back (x false ∷ []))))
          where
            posted_line : (v : Want) → answered_at w v ≡ false → take_packet (machine_s w.next w.side.offer (own command.Sync w.sync_id 0) None None w.heard w.count) (posted_packet w.side.offer w.asks (d.due w.device) v) ≡ (machine_s w.next w.side.offer (own command.Sync w.sync_id 0) None (ticket_at w.side.offer (Some (posted_packet w.side.offer w.asks (d.due w.device) v))) (time_of (want_body w.side.offer (d.due w.device) v)) (suc w.count), Ok Told)
            posted_line (Fetch addr size) f = absurd (true_false f)
            posted_line (Store addr size bytes mask) f = absurd (true_false f)
            posted_line (Line number level) f = hears_line w.next w.side.offer (own command.Sync w.sync_id 0) None w.heard w.count opn.count (record { cmd = command.Sync; id = w.sync_id; len = 0 }) None w.asks (d.due w.device) number (level_of level) refl opn.heard

    -- its sync's answer
    gather_answer : (w : Wire S) → IsOpen d w → (leaf : DeviceEnd S F) → gather_by (opened w) (leaf, packet w.sync_id 2 (Sync w.last) ∷ []) (take_synced (opened w) (packet w.sync_id 2 (Sync w.last))) (leaf, [])
    gather_answer w opn leaf next = arrive k d codec plan _ _ _
        (takes_sync_answer (port_with {F = F} (opened w) false (leaf, x ∷ [])) (post_with (opened w) false (leaf, x ∷ [])) x [] _ next refl (hears_sync_answer w.next w.side.offer None None w.heard w.count opn.count w.sync_id 0 w.last))
        (ap (λ (u : List (Decoded F)). into (port_with {F = F} (take_synced (opened w) x) false (leaf, [])) (record { leaf = leaf; out_taken = map Valid w.out; out_waiting = []; back_taken = u; back_waiting = [] })) (sym (map-append Valid w.back (x ∷ []))))
      where
        x : Packet
        x = packet w.sync_id 2 (Sync w.last)

    -- by what is wanted, and what settling gives
    abbrev goal_by : Wire S → Option Want → DeviceEnd S F × List Packet → Type 0
    goal_by w o r = gather_by w r (gathered_by w w.held o (behind w.held r.1)) (settled {F = F} d (unsettled (gathered_by w w.held o (behind w.held r.1))))

    abbrev gather_goal : Wire S → Type 0
    gather_goal w = gather_by w (settled {F = F} d (unsettled w)) (gathered F d w) (settled {F = F} d (unsettled (gathered F d w)))

    -- the next packet of a port that holds none
    pub gather_at : (w : Wire S) → IsOpen d w → w.held ≡ false → gather_goal w
    gather_at w opn eh = subst gather_goal (sym is_opened) (by (d.want w.device) refl)
      where
        is_opened : w ≡ opened w
        is_opened = λ i. record w { held = eh i; synced = opn.synced i }

        by : (o : Option Want) → d.want w.device ≡ o → gather_goal (opened w)
        by None e =
            subst (λ o. goal_by (opened w) o (settled {F = F} d (unsettled (opened w)))) (sym e)
            (subst (goal_by (opened w) None) (sym (settles_synced F d (opened w) refl e))
            (subst (gather_by (opened w) (closed (unsettled (opened w)), packet w.sync_id 2 (Sync w.last) ∷ []) (take_synced (opened w) (packet w.sync_id 2 (Sync w.last)))) (sym (settles_idle F d (take_synced (opened w) (packet w.sync_id 2 (Sync w.last))) refl e))
            (gather_answer w opn (closed (unsettled (opened w))))))
        by (Some v) e =
            subst (λ o. goal_by (opened w) o (settled {F = F} d (unsettled (opened w)))) (sym e)
            (subst (goal_by (opened w) (Some v)) (sym was)
            (subst (gather_by (opened w) (leaf_of (opened w) v (answered_at w v), x ∷ rest_of (opened w) v (answered_at w v)) (take_request (opened w) x)) (sym was)
            (gather_request w opn v (answered_at w v) refl (leaf_of (opened w) v (answered_at w v)) (rest_of (opened w) v (answered_at w v)))))
          where
            x : Packet
            x = request_packet w.side.offer w.asks (d.due w.device) v (answered_at w v)

            was : settled {F = F} d (unsettled (opened w)) ≡ (leaf_of (opened w) v (answered_at w v), x ∷ rest_of (opened w) v (answered_at w v))
            was = settles_open (opened w) v refl e (answered_at w v) refl
