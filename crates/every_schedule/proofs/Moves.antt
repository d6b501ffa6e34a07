-- The moves of a run, at one port.
use Rattle.std.proofs.Common.{◌≡◌, ℕ, suc, ◌<◌, Bool, true, false, List, [], ◌∷◌, ◌++◌, length, set, map, Some, None, slice_get, Ok, refl, ap, ap₂, ◌∙◌}
use Rattle.std.specs.Prelude.{nat_lt}
use Rattle.std.proofs.lemmas.List.{set-set}
use Rattle.process_network.specs.CalmRun.Move.{HubMoves}
use Rattle.process_network.specs.PacketStar.{Ends, PacketLink, PacketWorld, packets_after, with_sent, with_leaf, with_taken}
use Rattle.process_network.specs.PacketStar.HubOutlook.{HubActs, HubWaits}
use Rattle.process_network.proofs.MovesAtPort.{get_set, focus, hub_sends_one, leaf_takes_one, hub_takes_one}
use Rattle.cosim_model.specs.declared.values.Access.{Access}
use Rattle.cosim_model.specs.declared.values.Call.{Call}
use Rattle.cosim_model.specs.Values.{plain}
use Rattle.cosim_model.specs.declared.values.Call.TheVariants as call
use Rattle.cosim_model.specs.Parts.{DeviceModel, MasterModel}
use Rattle.cosim_model.specs.Packets.{Packet, Decoded, Codec}
use Rattle.cosim_model.specs.Packets.Decoded.{Valid}
use Rattle.cosim_model.specs.declared.session.Ticket.{Ticket}
use Rattle.cosim_model.specs.Sessions.{Session, take_packet, request_of}
use Rattle.cosim_model.specs.declared.session.Event.TheVariants.{Asked, Told, Answered}
use Rattle.ends_model.specs.DeviceTurn.{DeviceEnd, device_takes, device_looks}
use Rattle.ends_model.specs.declared.ends.Phase.{Phase}
use Rattle.cosim_model.specs.declared.values.Plan.{Plan}
use Rattle.ends_model.specs.MachineTurn.{MachineEnd, PortEnd, access_body, answer_from, requested, with_wait, is_due, machine_hears_at, machine_took, hold_request, time_of}
use Rattle.ends_model.specs.declared.ends.Phase.TheVariants.{Run, AnswerFrom}
use Rattle.ends_model.specs.World.{ends}
use Rattle.every_schedule.proofs.Leads.{LeadsBy, IsFew, leads_by, stay, arrives, hub_sends, hub_takes_it, leaf_moves}
use Rattle.every_schedule.proofs.Outlooks.{run_outlook, unit_outlook, access_outlook}

module _ {M S F : Type 0} (k : MasterModel M) (d : DeviceModel S) (codec : Codec F) (plan : Plan) where
  abbrev H : Type 0
  H = MachineEnd M F

  abbrev L : Type 0
  L = DeviceEnd S F

  abbrev P : Type 0
  P = Decoded F

  abbrev e : Ends H L P
  e = ends k d codec

  abbrev pub Leads : PacketWorld (MachineEnd M F) (DeviceEnd S F) (Decoded F) → PacketWorld (MachineEnd M F) (DeviceEnd S F) (Decoded F) → Type 0
  Leads a b = LeadsBy k d codec 0 a b

  pub leads_on : (a b c : PacketWorld H L P) → Leads a b → Leads b c → Leads a c
  leads_on a b c f g = leads_by k d codec 0 0 a b c f g

  pub still_there : (a b : PacketWorld H L P) → a ≡ b → Leads a b
  still_there a b f = stay k d codec a b f

  pub arrive : (a b b' : PacketWorld H L P) → Leads a b → b ≡ b' → Leads a b'
  arrive a b b' f g = arrives k d codec 0 a b b' f g

  abbrev pub frame : Phase → M → List Call → ℕ → Bool → List PortEnd → MachineEnd M F
  frame phase m calls tick marked ports = record { plan = plan; phase = phase; master = m; ports = ports; calls = calls; tick = tick; marked = marked; fault = None }

  module _ (links : List (PacketLink (DeviceEnd S F) (Decoded F))) (ports : List PortEnd) (p : ℕ) (inside : p < length links) (inside' : p < length ports) where
    abbrev pub here : Phase → M → List Call → ℕ → Bool → PortEnd → PacketLink (DeviceEnd S F) (Decoded F) → PacketWorld (MachineEnd M F) (DeviceEnd S F) (Decoded F)
    here phase m calls tick marked q l = focus links p (frame phase m calls tick marked (set ports p q)) l

    abbrev fr : Phase → M → List Call → ℕ → Bool → PortEnd → H
    fr phase m calls tick marked q = frame phase m calls tick marked (set ports p q)

    got : (q : PortEnd) → slice_get (set ports p q) p ≡ Some q
    got q = get_set ports p q inside'

    -- The machine sends, having put q' in the port's place.
    sends : (phase phase' : Phase) (m m' : M) (calls calls' : List Call) (t t' : ℕ) (b b' : Bool) (q q' : PortEnd) (l : PacketLink L P) (x : Packet) → (ends k d codec).hub_outlook (fr phase m calls t b q) ≡ HubActs (frame phase' m' calls' t' b' (set (set ports p q) p q')) (Some (p, Valid x)) → IsFew l → Leads (here phase m calls t b q l) (here phase' m' calls' t' b' q' (with_sent l (Valid x)))
    sends phase phase' m m' calls calls' t t' b b' q q' l x f few = hub_sends k d codec _ _ (frame phase' m' calls' t' b' (set (set ports p q) p q')) p x l f (get_set links p l inside) few
        (hub_sends_one e links p inside (fr phase m calls t b q) (frame phase' m' calls' t' b' (set (set ports p q) p q')) l (Valid x) f
        ∙ ap (λ v. focus links p (frame phase' m' calls' t' b' v) (with_sent l (Valid x))) (set-set ports p q q'))

    pub send_access : (m : M) (calls : List Call) (t : ℕ) (b : Bool) (a : Access) (q : PortEnd) (l : PacketLink L P) → is_due k (fr Run m calls t b q) ≡ false → (k.issue m).1 ≡ Some (record { port = p; access = a }) → a.posted ≡ false → IsFew l → Leads (here Run m calls t b q l) (here (AnswerFrom p a) (k.issue m).0 calls t b (with_wait (requested q false (access_body q.session.common t a) a.size t)) (with_sent l (Valid (request_of q.session false (access_body q.session.common t a)))))
    send_access m calls t b a q l due issues posted few = sends Run (AnswerFrom p a) m (k.issue m).0 calls calls t t b b q _ l _
        (ap (λ v. run_outlook k (fr Run m calls t b q) v (set ports p q)) due
        ∙ ap (unit_outlook k (fr Run m calls t b q) (k.issue m).0) issues
        ∙ ap (λ o. access_outlook k (fr Run m calls t b q) (k.issue m).0 p a o a.posted) (got q)
        ∙ ap (access_outlook k (fr Run m calls t b q) (k.issue m).0 p a (Some q)) posted)
        few

    pub send_posted : (m : M) (calls : List Call) (t : ℕ) (b : Bool) (a : Access) (q : PortEnd) (l : PacketLink L P) → is_due k (fr Run m calls t b q) ≡ false → (k.issue m).1 ≡ Some (record { port = p; access = a }) → a.posted ≡ true → IsFew l → Leads (here Run m calls t b q l) (here Run (k.finish (k.issue m).0 (plain a (record { code = 0; value = 0 }))) (calls ++ call.Access t p a (plain a (record { code = 0; value = 0 })) ∷ []) (suc t) false (requested q true (access_body q.session.common t a) a.size t) (with_sent l (Valid (request_of q.session true (access_body q.session.common t a)))))
    send_posted m calls t b a q l due issues posted few = sends Run Run m (k.finish (k.issue m).0 (plain a (record { code = 0; value = 0 }))) calls (calls ++ call.Access t p a (plain a (record { code = 0; value = 0 })) ∷ []) t (suc t) b false q _ l _
        (ap (λ v. run_outlook k (fr Run m calls t b q) v (set ports p q)) due
        ∙ ap (unit_outlook k (fr Run m calls t b q) (k.issue m).0) issues
        ∙ ap (λ o. access_outlook k (fr Run m calls t b q) (k.issue m).0 p a o a.posted) (got q)
        ∙ ap (access_outlook k (fr Run m calls t b q) (k.issue m).0 p a (Some q)) posted)
        few

    -- The device takes the one packet that waits.
    pub device_moves : (phase : Phase) (m : M) (calls : List Call) (t : ℕ) (b : Bool) (q : PortEnd) (l : PacketLink L P) (x : Packet) (r : L × List Packet) → l.leaf.fault ≡ None → l.leaf.session.hello_went ≡ true → l.out_waiting ≡ Valid x ∷ [] → device_takes d l.leaf (Valid x) ≡ r → Leads (here phase m calls t b q l) (here phase m calls t b q (with_leaf l (Valid x) [] (r.0, map Valid r.1)))
    device_moves phase m calls t b q l x r ok went new f = leaf_moves k d codec _ _ p
        (leaf_takes_one e links p inside (fr phase m calls t b q) l (Valid x) [] (ap₂ (λ o w. device_looks l.leaf o w) ok went) new
        ∙ ap (λ (r : L × List Packet). here phase m calls t b q (with_leaf l (Valid x) [] (r.0, map Valid r.1))) f)

    -- The machine takes the first packet of the port.
    hears : (phase : Phase) (m : M) (calls : List Call) (t : ℕ) (b : Bool) (q : PortEnd) (l : PacketLink L P) (x : Packet) (rest : List P) → (ends k d codec).hub_outlook (fr phase m calls t b q) ≡ HubWaits p → l.back_waiting ≡ Valid x ∷ rest → packets_after e (here phase m calls t b q l) HubMoves ≡ focus links p (machine_took k (fr phase m calls t b q) p q x (take_packet q.session x)) (with_taken l (Valid x) rest)
    hears phase m calls t b q l x rest w new =
        hub_takes_one e links p inside (fr phase m calls t b q) l (Valid x) rest w new
        ∙ ap (λ o. focus links p (machine_hears_at k (fr phase m calls t b q) p (Valid x) o) (with_taken l (Valid x) rest)) (got q)

    -- a request, that it holds
    pub takes_request : (phase : Phase) (m : M) (calls : List Call) (t : ℕ) (b : Bool) (q : PortEnd) (l : PacketLink L P) (x : Packet) (rest : List P) (s : Session) (tk : Ticket) → (ends k d codec).hub_outlook (fr phase m calls t b q) ≡ HubWaits p → l.back_waiting ≡ Valid x ∷ rest → take_packet q.session x ≡ (s, Ok (Asked tk)) → nat_lt q.last (time_of x.body) ≡ false → Leads (here phase m calls t b q l) (here phase m calls t b (record { session = s; held = Some x; last = q.last }) (with_taken l (Valid x) rest))
    takes_request phase m calls t b q l x rest s tk w new f late = hub_takes_it k d codec _ _ p w
        (hears phase m calls t b q l x rest w new
        ∙ ap (λ r. focus links p (machine_took k (fr phase m calls t b q) p q x r) (with_taken l (Valid x) rest)) f
        ∙ ap (λ v. focus links p (hold_request k (fr phase m calls t b q) p (record { session = s; held = q.held; last = q.last }) x v) (with_taken l (Valid x) rest)) late
        ∙ ap (λ v. focus links p (frame phase m calls t b v) (with_taken l (Valid x) rest)) (set-set ports p q (record { session = s; held = Some x; last = q.last })))

    pub takes_told : (phase : Phase) (m : M) (calls : List Call) (t : ℕ) (b : Bool) (q : PortEnd) (l : PacketLink L P) (x : Packet) (rest : List P) (s : Session) → (ends k d codec).hub_outlook (fr phase m calls t b q) ≡ HubWaits p → l.back_waiting ≡ Valid x ∷ rest → take_packet q.session x ≡ (s, Ok Told) → nat_lt q.last (time_of x.body) ≡ false → Leads (here phase m calls t b q l) (here phase m calls t b (record { session = s; held = Some x; last = q.last }) (with_taken l (Valid x) rest))
    takes_told phase m calls t b q l x rest s w new f late = hub_takes_it k d codec _ _ p w
        (hears phase m calls t b q l x rest w new
        ∙ ap (λ r. focus links p (machine_took k (fr phase m calls t b q) p q x r) (with_taken l (Valid x) rest)) f
        ∙ ap (λ v. focus links p (hold_request k (fr phase m calls t b q) p (record { session = s; held = q.held; last = q.last }) x v) (with_taken l (Valid x) rest)) late
        ∙ ap (λ v. focus links p (frame phase m calls t b v) (with_taken l (Valid x) rest)) (set-set ports p q (record { session = s; held = Some x; last = q.last })))

    -- the answer of its access
    pub takes_answer : (m : M) (calls : List Call) (t : ℕ) (b : Bool) (a : Access) (q : PortEnd) (l : PacketLink L P) (x : Packet) (rest : List P) (s : Session) → l.back_waiting ≡ Valid x ∷ rest → take_packet q.session x ≡ (s, Ok Answered) → Leads (here (AnswerFrom p a) m calls t b q l) (here Run (k.finish m (plain a (answer_from x.body))) (calls ++ call.Access t p a (plain a (answer_from x.body)) ∷ []) (suc t) false (record { session = s; held = q.held; last = q.last }) (with_taken l (Valid x) rest))
    takes_answer m calls t b a q l x rest s new f = hub_takes_it k d codec _ _ p refl
        (hears (AnswerFrom p a) m calls t b q l x rest refl new
        ∙ ap (λ r. focus links p (machine_took k (fr (AnswerFrom p a) m calls t b q) p q x r) (with_taken l (Valid x) rest)) f
        ∙ ap (λ v. focus links p (frame Run (k.finish m (plain a (answer_from x.body))) (calls ++ call.Access t p a (plain a (answer_from x.body)) ∷ []) (suc t) false v) (with_taken l (Valid x) rest)) (set-set ports p q (record { session = s; held = q.held; last = q.last })))
