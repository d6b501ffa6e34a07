-- An access at a port: the machine sends it, the device answers, the machine takes the answer. A request of the device that is out
-- is taken first.
use Rattle.std.proofs.Common.{inl, inr, ◌≡◌, ℕ, suc, ◌<◌, ◌≤◌, Bool, true, false, not, ◌&&◌, List, [], ◌∷◌, ◌++◌, length, map, Option, Some, None, Ok, refl, sym, ap, ap₂, ◌∙◌, arith}
use Rattle.std.specs.Prelude.{nat_lt, if◌then◌else◌}
use Rattle.std.proofs.lemmas.List.{map-append}
use Rattle.process_network.specs.PacketStar.{PacketLink, PacketWorld, with_sent, with_leaf, with_taken}
use Rattle.cosim_model.specs.declared.values.Access.{Access}
use Rattle.cosim_model.specs.declared.values.Answer.{Answer}
use Rattle.cosim_model.specs.declared.values.Want.{Want}
use Rattle.cosim_model.specs.declared.values.Call.{Call}
use Rattle.cosim_model.specs.declared.values.Caps.{Caps}
use Rattle.cosim_model.specs.Values.{plain, bytes_of, bits_of}
use Rattle.cosim_model.specs.declared.values.Call.TheVariants as call
use Rattle.cosim_model.specs.declared.values.Want.TheVariants.{Fetch, Store, Line}
use Rattle.cosim_model.specs.Parts.{DeviceModel, MasterModel, IsAccess}
use Rattle.cosim_model.specs.declared.session.Command.{Command}
use Rattle.cosim_model.specs.declared.session.Command.TheVariants as command
use Rattle.cosim_model.specs.Packets.{body_size, BusFields, Packet, Decoded, Codec}
use Rattle.cosim_model.specs.Packets.Body.{Read, Write}
use Rattle.cosim_model.specs.Packets.Decoded.{Valid}
use Rattle.cosim_model.specs.declared.session.OwnRequest.{OwnRequest}
use Rattle.cosim_model.specs.declared.session.Ticket.{Ticket}
use Rattle.cosim_model.specs.Sessions.{Session, take_packet, unless_posted, answer_of, ticket_of, next_number}
use Rattle.cosim_model.specs.declared.session.Event.TheVariants.{Answered, Asked}
use Rattle.ends_model.specs.declared.ends.OpenSync.{OpenSync}
use Rattle.ends_model.specs.DeviceTurn.{DeviceEnd, device_takes, device_took, then_settled, answer_fields, answer_read, answer_write, settled, is_answered, want_body, own_request, asked}
use Rattle.ends_model.specs.declared.ends.Phase.{Phase}
use Rattle.cosim_model.specs.declared.values.Plan.{Plan}
use Rattle.ends_model.specs.MachineTurn.{MachineEnd, PortEnd, access_body, access_fields, requested, with_wait, is_boundary_due, time_of, bus_body}
use Rattle.ends_model.specs.declared.ends.Phase.TheVariants.{Run, AnswerFrom}
use Rattle.every_schedule.specs.Wires.{Wire, unsettled, behind, early, take_answer, access_sent, access_answer, did_access, answer_body, ticket_if, open_if}
use Rattle.every_schedule.specs.Mirror.{machine_session, front, ticket_at}
use Rattle.every_schedule.proofs.Base.{not_below}
use Rattle.every_schedule.proofs.Settles.{settles_asking}
use Rattle.every_schedule.proofs.Takes.{machine_s, device_s, own, packet, nothing_beyond, hears_read_answer, hears_write_answer, hears_want, gets_read, gets_write}
use Rattle.every_schedule.proofs.PacketFacts.{IsClear, device_size, same_access, same_answer}
use Rattle.every_schedule.proofs.Moves.{Leads, leads_on, arrive, here, send_access, device_moves, takes_request, takes_answer}

abbrev pub want_cmd : Want → Command
want_cmd (Fetch addr size) = command.Read
want_cmd (Store addr size bytes mask) = command.Write
want_cmd (Line number level) = command.Interrupt

abbrev pub want_len : Want → ℕ
want_len (Fetch addr size) = size
want_len (Store addr size bytes mask) = size
want_len (Line number level) = 0

-- a device end without a fault
abbrev pub device : {S : Type 0} → (F : Type 0) → S → Bool → Session → Option OpenSync → Option Want → List Call → DeviceEnd S F
device F s lines session open_sync own calls = record { device = s; answered_lines = lines; session = session; open_sync = open_sync; own = own; calls = calls; fault = None }

module _ {S : Type 0} (F : Type 0) (d : DeviceModel S) where
  module _ (s : S) (lines : Bool) (offer needs : Caps) (next : ℕ) (oo : Option OwnRequest) (ps : Option Ticket) (last : ℕ) (open_sync : Option OpenSync) (own : Option Want) (calls : List Call) where
    abbrev was : DeviceEnd S F
    was = device F s lines (device_s offer needs next oo ps None last) open_sync own calls

    abbrev did : ℕ → Access → DeviceEnd S F
    did t a = device F (d.access s t a).0 lines (device_s offer needs next oo ps None t) open_sync own (calls ++ call.Access t 0 a (plain a (d.access s t a).1) ∷ [])

    abbrev answer_at : ℕ → ℕ → Access → Packet
    answer_at id t a = packet id 2 (answer_body (access_fields offer t a) a.write (plain a (d.access s t a).1))

    -- The device's turn at an answered access.
    pub device_reads : (id t : ℕ) (b : Access) → last ≤ t → IsAccess (record b { write = false; posted = false }) → IsClear offer (record b { write = false; posted = false }) → device_takes d was (Valid (packet id 0 (access_body offer t (record b { write = false; posted = false })))) ≡ then_settled d (did t (record b { write = false; posted = false }), answer_at id t (record b { write = false; posted = false }) ∷ [])
    device_reads id t b l la clear =
        ap (device_took d was (packet id 0 (Read f))) (gets_read offer needs next oo ps last id f (nothing_beyond offer t b.addr b.size [] (bits_of b.lanes b.size)) l)
        ∙ ap (λ v. then_settled d (answer_read d (device F s lines (device_s offer needs next oo ps (Some (ticket_of (packet id 0 (Read f)))) t) open_sync own calls) (ticket_of (packet id 0 (Read f))) f v)) (device_size offer t a la)
        ∙ ap (λ (c : Access). then_settled d (did t c, packet id 2 (Read (answer_fields f (plain c (d.access s t c).1).code f.len (bytes_of (plain c (d.access s t c).1).value f.len))) ∷ [])) (same_access offer t a la clear)
      where
        a : Access
        a = record b { write = false; posted = false }

        f : BusFields
        f = access_fields offer t a

    pub device_writes : (id t : ℕ) (b : Access) → last ≤ t → IsAccess (record b { write = true; posted = false }) → IsClear offer (record b { write = true; posted = false }) → device_takes d was (Valid (packet id 0 (access_body offer t (record b { write = true; posted = false })))) ≡ then_settled d (did t (record b { write = true; posted = false }), answer_at id t (record b { write = true; posted = false }) ∷ [])
    device_writes id t b l la clear =
        ap (device_took d was (packet id 0 (Write f))) (gets_write offer needs next oo ps last id f (nothing_beyond offer t b.addr b.size (bytes_of b.value b.size) (bits_of b.lanes b.size)) l)
        ∙ ap (λ v. then_settled d (answer_write d (device F s lines (device_s offer needs next oo ps (Some (ticket_of (packet id 0 (Write f)))) t) open_sync own calls) (ticket_of (packet id 0 (Write f))) f v)) (device_size offer t a la)
        ∙ ap (λ (c : Access). then_settled d (did t c, packet id 2 (Write (answer_fields f (plain c (d.access s t c).1).code f.len [])) ∷ [])) (same_access offer t a la clear)
      where
        a : Access
        a = record b { write = true; posted = false }

        f : BusFields
        f = access_fields offer t a

    pub device_accesses : (wr : Bool) (id t : ℕ) (b : Access) → last ≤ t → IsAccess (record b { write = wr; posted = false }) → IsClear offer (record b { write = wr; posted = false }) → device_takes d was (Valid (packet id 0 (access_body offer t (record b { write = wr; posted = false })))) ≡ then_settled d (did t (record b { write = wr; posted = false }), answer_at id t (record b { write = wr; posted = false }) ∷ [])
    device_accesses true = device_writes
    device_accesses false = device_reads

-- A device whose request is out.

abbrev pub asking_leaf : {S : Type 0} → (F : Type 0) → Wire S → Want → DeviceEnd S F
asking_leaf F w v = device F w.device w.side.answered_lines (device_s w.side.offer w.side.needs (next_number w.asks) (own (want_cmd v) w.asks (want_len v)) (ticket_if w.synced w.sync_id) None w.last) (open_if w.synced w.sync_id w.last) (Some v) w.calls

abbrev pub asking_packet : Caps → ℕ → ℕ → Want → Packet
asking_packet offer id due v = packet id 0 (want_body offer due v)

pub settles_asks : {S : Type 0} (F : Type 0) (d : DeviceModel S) (w : Wire S) (v : Want) → d.want w.device ≡ Some v → is_answered (w.side.offer.posted && w.side.answered_lines) v ≡ true → settled {F = F} d (unsettled w) ≡ (asking_leaf F w v, asking_packet w.side.offer w.asks (d.due w.device) v ∷ [])
settles_asks {S} F d w v e a = settles_asking F d w v e a ∙ by v a
  where
    both_true : (x y : Bool) → (x && y) ≡ true → x ≡ true
    both_true true y e = refl
    both_true false y e = e

    by : (v : Want) → is_answered (w.side.offer.posted && w.side.answered_lines) v ≡ true → ◌≡◌ {A = DeviceEnd S F × List Packet} (asked d (unsettled w) v, own_request {F = F} d (unsettled w) false v ∷ []) (asking_leaf F w v, asking_packet w.side.offer w.asks (d.due w.device) v ∷ [])
    by (Fetch addr size) a = refl
    by (Store addr size bytes mask) a = refl
    by (Line number level) a =
        ap (λ (posted : Bool). (record (unsettled {F = F} w) { session = unless_posted (not posted) (unsettled {F = F} w).session (want_body w.side.offer (d.due w.device) (Line number level)) 0; own = Some (Line number level) }, asking_packet w.side.offer w.asks (d.due w.device) (Line number level) ∷ [])) (both_true w.side.offer.posted w.side.answered_lines a)

pub time_is : (offer : Caps) (due : ℕ) (v : Want) → time_of (want_body offer due v) ≡ due
time_is offer due (Fetch addr size) = refl
time_is offer due (Store addr size bytes mask) = refl
time_is offer due (Line number level) = refl

-- The machine's session takes that request.
pub heard_want : (next : ℕ) (offer : Caps) (os oo : Option OwnRequest) (pt count id due : ℕ) (v : Want) (lines : Bool) → count < 8191 → pt ≤ due → is_answered (offer.posted && lines) v ≡ true → take_packet (machine_s next offer os oo None pt count) (asking_packet offer id due v) ≡ (machine_s next offer os oo (ticket_at offer (Some (asking_packet offer id due v))) (time_of (want_body offer due v)) (suc count), Ok (Asked (ticket_of (asking_packet offer id due v))))
heard_want next offer os oo pt count id due (Fetch addr size) lines few l a = hears_want next offer os None pt count few oo id due (Fetch addr size) lines l a
heard_want next offer os oo pt count id due (Store addr size bytes mask) lines few l a = hears_want next offer os None pt count few oo id due (Store addr size bytes mask) lines l a
heard_want next offer os oo pt count id due (Line number level) lines few l a =
    hears_want next offer os None pt count few oo id due (Line number level) lines l a
    ∙ ap (λ (v : Bool). (machine_s next offer os oo (if not v then None else Some (ticket_of (asking_packet offer id due (Line number level)))) due (suc count), Ok (Asked (ticket_of (asking_packet offer id due (Line number level)))))) (sym (wires offer.posted lines a))
  where
    wires : (x y : Bool) → (x && y) ≡ true → x ≡ true
    wires true y e = refl
    wires false y e = e

-- What a port is, by what settling gives.

abbrev pub port_with : {S F : Type 0} → Wire S → Bool → DeviceEnd S F × List Packet → PortEnd
port_with w held r = record { session = machine_session w (front held r.1); held = front held r.1; last = w.last }

abbrev pub post_with : {S F : Type 0} → Wire S → Bool → DeviceEnd S F × List Packet → PacketLink (DeviceEnd S F) (Decoded F)
post_with w held r = record { leaf = r.0; out_taken = map Valid w.out; out_waiting = []; back_taken = map Valid w.back; back_waiting = map Valid (behind held r.1) }

-- An access by what is unread.
abbrev pub access_with : {S : Type 0} → (F : Type 0) → DeviceModel S → Wire S → ℕ → Access → List Packet → Wire S
access_with F d w t a us = take_answer F d (did_access F d (early (record (access_sent F d w t a) { count = 0 }) us) t a) (access_answer F d w t a (plain a (d.access w.device t a).1))

module _ {M S F : Type 0} (k : MasterModel M) (d : DeviceModel S) (codec : Codec F) (plan : Plan) where
  module _ (links : List (PacketLink (DeviceEnd S F) (Decoded F))) (ports : List PortEnd) (p : ℕ) (inside : p < length links) (inside' : p < length ports) where
    abbrev at : Phase → M → List Call → ℕ → Bool → PortEnd → PacketLink (DeviceEnd S F) (Decoded F) → PacketWorld (MachineEnd M F) (DeviceEnd S F) (Decoded F)
    at phase m calls t b q l = here k d codec plan links ports p inside inside' phase m calls t b q l

    abbrev Lead : PacketWorld (MachineEnd M F) (DeviceEnd S F) (Decoded F) → PacketWorld (MachineEnd M F) (DeviceEnd S F) (Decoded F) → Type 0
    Lead = Leads k d codec plan

    chain : (u v z : PacketWorld (MachineEnd M F) (DeviceEnd S F) (Decoded F)) → Lead u v → Lead v z → Lead u z
    chain = leads_on k d codec plan

    then_at : (u v z : PacketWorld (MachineEnd M F) (DeviceEnd S F) (Decoded F)) → Lead u v → v ≡ z → Lead u z
    then_at = arrive k d codec plan

    abbrev cmd_for : Bool → Command
    cmd_for true = command.Write
    cmd_for false = command.Read

    abbrev asking_port : ℕ → Caps → Bool → ℕ → ℕ → ℕ → ℕ → Option Packet → PortEnd
    asking_port next offer wr id size heard t held = record { session = machine_s (next_number next) offer None (own (cmd_for wr) id size) (ticket_at offer held) heard 0; held = held; last = t }

    -- the port when an access was sent
    sent_port : (wr : Bool) (b : Access) (w : Wire S) (t : ℕ) (held : Option Packet) → with_wait (requested (record { session = machine_session (record w { synced = false }) held; held = held; last = w.last }) false (access_body w.side.offer t (record b { write = wr; posted = false })) b.size t) ≡ asking_port w.next w.side.offer wr w.next b.size w.heard t held
    sent_port true b w t held = refl
    sent_port false b w t held = refl

    heard_answer : (wr : Bool) (next : ℕ) (offer : Caps) (id heard count : ℕ) (po : Option Ticket) (f : BusFields) (x : Answer) → count < 8191 → take_packet (machine_s next offer None (own (cmd_for wr) id f.len) po heard count) (packet id 2 (answer_body f wr x)) ≡ (machine_s next offer None None po heard (suc count), Ok Answered)
    heard_answer true next offer id heard count po f x few = hears_write_answer next offer None po heard count few id f.len (answer_fields f x.code f.len [])
    heard_answer false next offer id heard count po f x few = hears_read_answer next offer None po heard count few id (answer_fields f x.code f.len (bytes_of x.value f.len))

    value_of : (wr : Bool) (f : BusFields) (id : ℕ) (x : Answer) → answer_of (ticket_of (packet id 0 (bus_body wr f))) (answer_body f wr x) ≡ packet id 2 (answer_body f wr x)
    value_of true f id x = refl
    value_of false f id x = refl

    -- No request of the device is out.
    pub quiet : (wr : Bool) (b : Access) (w : Wire S) (m : M) (calls : List Call) (t : ℕ) (mk : Bool)
        → w.last ≤ t → IsAccess (record b { write = wr; posted = false }) → IsClear w.side.offer (record b { write = wr; posted = false })
        → is_boundary_due k plan m t mk ≡ false
        → (k.issue m).1 ≡ Some (record { port = p; access = record b { write = wr; posted = false } })
        → Lead (at Run m calls t mk (port_with {S = S} {F = F} (record w { held = false; synced = false }) false (unsettled (record w { held = false; synced = false }), [])) (post_with (record w { held = false; synced = false }) false (unsettled (record w { held = false; synced = false }), [])))
        (at Run (k.finish (k.issue m).0 (plain (record b { write = wr; posted = false }) (d.access w.device t (record b { write = wr; posted = false })).1)) (calls ++ call.Access t p (record b { write = wr; posted = false }) (plain (record b { write = wr; posted = false }) (d.access w.device t (record b { write = wr; posted = false })).1) ∷ []) (suc t) false
        (port_with (access_with F d (record w { held = false; synced = false }) t (record b { write = wr; posted = false }) []) false (settled {F = F} d (unsettled (access_with F d (record w { held = false; synced = false }) t (record b { write = wr; posted = false }) []))))
        (post_with (access_with F d (record w { held = false; synced = false }) t (record b { write = wr; posted = false }) []) false (settled {F = F} d (unsettled (access_with F d (record w { held = false; synced = false }) t (record b { write = wr; posted = false }) [])))))
    quiet wr b w m calls t mk l la clear due issues = chain _ _ _ one (chain _ _ _ two three)
      where
        a : Access
        a = record b { write = wr; posted = false }

        wq : Wire S
        wq = record w { held = false; synced = false }

        w1 : Wire S
        w1 = access_with F d wq t a []

        f : BusFields
        f = access_fields w.side.offer t a

        x : Answer
        x = plain a (d.access w.device t a).1

        pkt : Packet
        pkt = packet w.next 0 (access_body w.side.offer t a)

        ans : Packet
        ans = packet w.next 2 (answer_body f wr x)

        l0 : PacketLink (DeviceEnd S F) (Decoded F)
        l0 = post_with wq false (unsettled wq, [])

        l1 : PacketLink (DeviceEnd S F) (Decoded F)
        l1 = with_sent l0 (Valid pkt)

        l2 : PacketLink (DeviceEnd S F) (Decoded F)
        l2 = with_leaf l1 (Valid pkt) [] ((settled d (unsettled w1)).0, map Valid (ans ∷ (settled {F = F} d (unsettled w1)).1))

        q1 : PortEnd
        q1 = asking_port w.next w.side.offer wr w.next b.size w.heard t None

        m1 : M
        m1 = (k.issue m).0

        one : Lead (at Run m calls t mk (port_with {S = S} {F = F} wq false (unsettled wq, [])) l0) (at (AnswerFrom p a) m1 calls t mk q1 l1)
        one = then_at _ _ _ (send_access k d codec plan links ports p inside inside' m calls t mk a (port_with {S = S} {F = F} wq false (unsettled wq, [])) l0 due issues refl (refl, refl, inl refl)) (ap (λ q. at (AnswerFrom p a) m1 calls t mk q l1) (sent_port wr b w t None))

        two : Lead (at (AnswerFrom p a) m1 calls t mk q1 l1) (at (AnswerFrom p a) m1 calls t mk q1 l2)
        two = device_moves k d codec plan links ports p inside inside' (AnswerFrom p a) m1 calls t mk q1 l1 pkt _ refl refl refl (device_accesses F d w.device w.side.answered_lines w.side.offer w.side.needs w.asks None None w.last None None w.calls wr w.next t b l la clear)

        three : Lead (at (AnswerFrom p a) m1 calls t mk q1 l2) (at Run (k.finish m1 x) (calls ++ call.Access t p a x ∷ []) (suc t) false (port_with w1 false (settled {F = F} d (unsettled w1))) (post_with w1 false (settled {F = F} d (unsettled w1))))
        three = then_at _ _ _ (takes_answer k d codec plan links ports p inside inside' m1 calls t mk a q1 l2 ans (map Valid (settled {F = F} d (unsettled w1)).1) _ refl (heard_answer wr (next_number w.next) w.side.offer w.next w.heard 0 None f x (omega arith)))
            (ap (λ y. at Run (k.finish m1 y) (calls ++ call.Access t p a y ∷ []) (suc t) false (port_with w1 false (settled {F = F} d (unsettled w1))) (with_taken l2 (Valid ans) (map Valid (settled {F = F} d (unsettled w1)).1))) (same_answer w.side.offer t a (d.access w.device t a).1 la refl)
            ∙ ap₂ (λ (u v : List (Decoded F)). at Run (k.finish m1 x) (calls ++ call.Access t p a x ∷ []) (suc t) false (port_with w1 false (settled {F = F} d (unsettled w1))) (record { leaf = (settled {F = F} d (unsettled w1)).0; out_taken = u; out_waiting = []; back_taken = v; back_waiting = map Valid (settled {F = F} d (unsettled w1)).1 })) (sym (map-append Valid w.out (pkt ∷ []))) (sym (map-append Valid w.back (ans ∷ []))))

    module _ (v : Want) (wr : Bool) (b : Access) (w : Wire S) (m : M) (calls : List Call) (t : ℕ) (mk : Bool)
        (l : w.last ≤ t) (late : d.due w.device ≤ t) (heard : w.heard ≤ d.due w.device)
        (la : IsAccess (record b { write = wr; posted = false })) (clear : IsClear w.side.offer (record b { write = wr; posted = false }))
        (ask : is_answered (w.side.offer.posted && w.side.answered_lines) v ≡ true) (fits : body_size (want_body w.side.offer (d.due w.device) v) ≤ 208)
        (due : is_boundary_due k plan m t mk ≡ false)
        (issues : (k.issue m).1 ≡ Some (record { port = p; access = record b { write = wr; posted = false } })) where
      abbrev a : Access
      a = record b { write = wr; posted = false }

      abbrev f : BusFields
      f = access_fields w.side.offer t a

      abbrev x : Answer
      x = plain a (d.access w.device t a).1

      abbrev pkt : Packet
      pkt = packet w.next 0 (access_body w.side.offer t a)

      abbrev ans : Packet
      ans = packet w.next 2 (answer_body f wr x)

      abbrev ask_m : Packet
      ask_m = asking_packet w.side.offer w.asks (d.due w.device) v

      abbrev m1 : M
      m1 = (k.issue m).0

      abbrev was_asking : Bool → Wire S
      was_asking h = record w { held = h; synced = false }

      abbrev start_r : Bool → DeviceEnd S F × List Packet
      start_r h = (asking_leaf F (was_asking h) v, ask_m ∷ [])

      abbrev after_w : Bool → List Packet → Wire S
      after_w h us = access_with F d (was_asking h) t a us

      -- The request crosses the access.
      pub crossed : Lead (at Run m calls t mk (port_with (was_asking false) false (start_r false)) (post_with (was_asking false) false (start_r false)))
          (at Run (k.finish m1 x) (calls ++ call.Access t p a x ∷ []) (suc t) false (port_with {S = S} {F = F} (after_w false (ask_m ∷ [])) true (asking_leaf F (after_w false (ask_m ∷ [])) v, ask_m ∷ [])) (post_with (after_w false (ask_m ∷ [])) true (asking_leaf F (after_w false (ask_m ∷ [])) v, ask_m ∷ [])))
      crossed = chain _ _ _ one (chain _ _ _ two (chain _ _ _ three four))
        where
          wa : Wire S
          wa = was_asking false

          w1 : Wire S
          w1 = after_w false (ask_m ∷ [])

          l0 : PacketLink (DeviceEnd S F) (Decoded F)
          l0 = post_with wa false (start_r false)

          l1 : PacketLink (DeviceEnd S F) (Decoded F)
          l1 = with_sent l0 (Valid pkt)

          l2 : PacketLink (DeviceEnd S F) (Decoded F)
          l2 = with_leaf l1 (Valid pkt) [] (asking_leaf F w1 v, Valid ans ∷ [])

          l3 : PacketLink (DeviceEnd S F) (Decoded F)
          l3 = with_taken l2 (Valid ask_m) (Valid ans ∷ [])

          q1 : PortEnd
          q1 = asking_port w.next w.side.offer wr w.next b.size w.heard t None

          q2 : PortEnd
          q2 = record { session = machine_s (next_number w.next) w.side.offer None (own (cmd_for wr) w.next b.size) (ticket_at w.side.offer (Some ask_m)) (time_of ask_m.body) 1; held = Some ask_m; last = t }

          one : Lead (at Run m calls t mk (port_with wa false (start_r false)) l0) (at (AnswerFrom p a) m1 calls t mk q1 l1)
          one = then_at _ _ _ (send_access k d codec plan links ports p inside inside' m calls t mk a (port_with wa false (start_r false)) l0 due issues refl (refl, refl, inr (ask_m, refl, fits))) (ap (λ q. at (AnswerFrom p a) m1 calls t mk q l1) (sent_port wr b w t None))

          two : Lead (at (AnswerFrom p a) m1 calls t mk q1 l1) (at (AnswerFrom p a) m1 calls t mk q1 l2)
          two = device_moves k d codec plan links ports p inside inside' (AnswerFrom p a) m1 calls t mk q1 l1 pkt _ refl refl refl (device_accesses F d w.device w.side.answered_lines w.side.offer w.side.needs (next_number w.asks) (own (want_cmd v) w.asks (want_len v)) None w.last None (Some v) w.calls wr w.next t b l la clear)

          three : Lead (at (AnswerFrom p a) m1 calls t mk q1 l2) (at (AnswerFrom p a) m1 calls t mk q2 l3)
          three = takes_request k d codec plan links ports p inside inside' (AnswerFrom p a) m1 calls t mk q1 l2 ask_m (Valid ans ∷ []) _ _ refl refl
              (heard_want (next_number w.next) w.side.offer None (own (cmd_for wr) w.next b.size) w.heard 0 w.asks (d.due w.device) v w.side.answered_lines (omega arith) heard ask)
              (ap (nat_lt t) (time_is w.side.offer (d.due w.device) v) ∙ not_below t (d.due w.device) late)

          four : Lead (at (AnswerFrom p a) m1 calls t mk q2 l3) (at Run (k.finish m1 x) (calls ++ call.Access t p a x ∷ []) (suc t) false (port_with {S = S} {F = F} w1 true (asking_leaf F w1 v, ask_m ∷ [])) (post_with w1 true (asking_leaf F w1 v, ask_m ∷ [])))
          four = then_at _ _ _ (takes_answer k d codec plan links ports p inside inside' m1 calls t mk a q2 l3 ans [] _ refl (heard_answer wr (next_number w.next) w.side.offer w.next (time_of ask_m.body) 1 (ticket_at w.side.offer (Some ask_m)) f x (omega arith)))
              (ap (λ y. at Run (k.finish m1 y) (calls ++ call.Access t p a y ∷ []) (suc t) false (port_with {S = S} {F = F} w1 true (asking_leaf F w1 v, ask_m ∷ [])) (with_taken l3 (Valid ans) [])) (same_answer w.side.offer t a (d.access w.device t a).1 la refl)
              ∙ ap₂ (λ (u v' : List (Decoded F)). at Run (k.finish m1 x) (calls ++ call.Access t p a x ∷ []) (suc t) false (port_with {S = S} {F = F} w1 true (asking_leaf F w1 v, ask_m ∷ [])) (record { leaf = asking_leaf F w1 v; out_taken = u; out_waiting = []; back_taken = v'; back_waiting = [] })) (sym (map-append Valid w.out (pkt ∷ []))) (sym (map-append Valid (w.back ++ ask_m ∷ []) (ans ∷ []) ∙ ap (λ t. t ++ Valid ans ∷ []) (map-append Valid w.back (ask_m ∷ [])))))

      -- The request is held already.
      pub kept_held : Lead (at Run m calls t mk (port_with (was_asking true) true (start_r true)) (post_with (was_asking true) true (start_r true)))
          (at Run (k.finish m1 x) (calls ++ call.Access t p a x ∷ []) (suc t) false (port_with {S = S} {F = F} (after_w true []) true (asking_leaf F (after_w true []) v, ask_m ∷ [])) (post_with (after_w true []) true (asking_leaf F (after_w true []) v, ask_m ∷ [])))
      kept_held = chain _ _ _ one (chain _ _ _ two three)
        where
          wa : Wire S
          wa = was_asking true

          w1 : Wire S
          w1 = after_w true []

          l0 : PacketLink (DeviceEnd S F) (Decoded F)
          l0 = post_with wa true (start_r true)

          l1 : PacketLink (DeviceEnd S F) (Decoded F)
          l1 = with_sent l0 (Valid pkt)

          l2 : PacketLink (DeviceEnd S F) (Decoded F)
          l2 = with_leaf l1 (Valid pkt) [] (asking_leaf F w1 v, Valid ans ∷ [])

          q1 : PortEnd
          q1 = asking_port w.next w.side.offer wr w.next b.size w.heard t (Some ask_m)

          one : Lead (at Run m calls t mk (port_with wa true (start_r true)) l0) (at (AnswerFrom p a) m1 calls t mk q1 l1)
          one = then_at _ _ _ (send_access k d codec plan links ports p inside inside' m calls t mk a (port_with wa true (start_r true)) l0 due issues refl (refl, refl, inl refl)) (ap (λ q. at (AnswerFrom p a) m1 calls t mk q l1) (sent_port wr b w t (Some ask_m)))

          two : Lead (at (AnswerFrom p a) m1 calls t mk q1 l1) (at (AnswerFrom p a) m1 calls t mk q1 l2)
          two = device_moves k d codec plan links ports p inside inside' (AnswerFrom p a) m1 calls t mk q1 l1 pkt _ refl refl refl (device_accesses F d w.device w.side.answered_lines w.side.offer w.side.needs (next_number w.asks) (own (want_cmd v) w.asks (want_len v)) None w.last None (Some v) w.calls wr w.next t b l la clear)

          three : Lead (at (AnswerFrom p a) m1 calls t mk q1 l2) (at Run (k.finish m1 x) (calls ++ call.Access t p a x ∷ []) (suc t) false (port_with {S = S} {F = F} w1 true (asking_leaf F w1 v, ask_m ∷ [])) (post_with w1 true (asking_leaf F w1 v, ask_m ∷ [])))
          three = then_at _ _ _ (takes_answer k d codec plan links ports p inside inside' m1 calls t mk a q1 l2 ans [] _ refl (heard_answer wr (next_number w.next) w.side.offer w.next w.heard 0 (ticket_at w.side.offer (Some ask_m)) f x (omega arith)))
              (ap (λ y. at Run (k.finish m1 y) (calls ++ call.Access t p a y ∷ []) (suc t) false (port_with {S = S} {F = F} w1 true (asking_leaf F w1 v, ask_m ∷ [])) (with_taken l2 (Valid ans) [])) (same_answer w.side.offer t a (d.access w.device t a).1 la refl)
              ∙ ap₂ (λ (u v' : List (Decoded F)). at Run (k.finish m1 x) (calls ++ call.Access t p a x ∷ []) (suc t) false (port_with {S = S} {F = F} w1 true (asking_leaf F w1 v, ask_m ∷ [])) (record { leaf = asking_leaf F w1 v; out_taken = u; out_waiting = []; back_taken = v'; back_waiting = [] })) (sym (map-append Valid w.out (pkt ∷ []))) (sym (map-append Valid w.back (ans ∷ []))))
