-- The greeting.
use Rattle.every_schedule.proofs.Leads.{IsFew, hub_sends, hub_takes_it, leaf_moves, between}
use Rattle.every_schedule.proofs.Moves.{still_there, arrive}
use Rattle.std.proofs.Common.{inr, ◌≤◌, ◌≡◌, ℕ, suc, ◌+◌, ◌<◌, Bool, true, false, List, [], ◌∷◌, ◌++◌, length, set, map, replicate, Some, None, slice_get, Ok, refl, sym, ap, ap₂, ◌∙◌, subst, arith}
use Rattle.std.specs.Prelude.{nat_lt}
use Rattle.std.proofs.lemmas.Bool.{le-ltb, lt-ltb}
use Rattle.std.proofs.lemmas.List.{append-nil, append_assoc, set-set, length-set, length-map, length-append}
use Rattle.std.proofs.lemmas.Option.{slice_get_within}
use Rattle.process_network.specs.PacketStar.{PacketLink, PacketWorld, packet_move_at, with_leaf, fresh_link, packets_start}
use Rattle.process_network.specs.PacketStar.HubOutlook.{HubActs}
use Rattle.process_network.proofs.MovesAtPort.{set_same, focus, get_set, hub_sends_one, hub_takes_one, leaf_takes_one}
use Rattle.cosim_model.specs.declared.values.Caps.{Caps}
use Rattle.cosim_model.specs.Values.{all_caps, no_caps}
use Rattle.cosim_model.specs.Parts.{DeviceModel, MasterModel, IsDevice}
use Rattle.cosim_model.specs.Packets.{Packet, Decoded, Codec, caps_of, offered}
use Rattle.cosim_model.specs.Packets.Decoded.{Valid}
use Rattle.cosim_model.specs.Sessions.{Session, take_packet, fresh_session, hello_of, hello_sent, lacking}
use Rattle.cosim_model.specs.declared.session.Role.TheVariants.{Machine, Device}
use Rattle.cosim_model.specs.declared.session.Event.TheVariants.{Met}
use Rattle.ends_model.specs.DeviceTurn.{DeviceEnd, settled, device_takes, device_took}
use Rattle.ends_model.specs.declared.ends.Phase.{Phase}
use Rattle.cosim_model.specs.declared.values.Plan.{Plan}
use Rattle.ends_model.specs.MachineTurn.{MachineEnd, PortEnd, greeted, waits_at, after_greet, to_meet, machine_hears_at, machine_took}
use Rattle.ends_model.specs.declared.ends.Phase.TheVariants.{Greet, Meet, Run}
use Rattle.ends_model.specs.World.{Side}
use Rattle.every_schedule.specs.Wires.{Wire, unsettled, device_session, met_wire}
use Rattle.ends_model.specs.World.{ends, machine_start, device_start}
use Rattle.every_schedule.specs.Mirror.{port_of, post_of}
use Rattle.every_schedule.proofs.Base.{common_here}
use Rattle.every_schedule.proofs.Lists.{get_mid, set_mid, map_both}
use Rattle.every_schedule.proofs.Syncs.{state}
use Rattle.every_schedule.proofs.Moves.{Leads, leads_on, frame}
use Rattle.every_schedule.proofs.Outlooks.{greet_outlook}

abbrev pub hello_m : Packet
hello_m = hello_of (fresh_session Machine all_caps no_caps)

abbrev pub hello_d : Side → Packet
hello_d side = hello_of (fresh_session Device side.offer side.needs)

-- Each session takes the other's hello.

abbrev met_session : Side → Session
met_session side = record (hello_sent (fresh_session Machine all_caps no_caps)) { hello_came = true; common = side.offer; count = 1 }

hears_hello : (side : Side) → take_packet (hello_sent (fresh_session Machine all_caps no_caps)) (hello_d side) ≡ (met_session side, Ok Met)
hears_hello side = ap (λ c. (record (hello_sent (fresh_session Machine all_caps no_caps)) { hello_came = true; common = c; count = 1 }, Ok Met)) (common_here side.offer)

nothing_lacks : (needs : Caps) → lacking needs (caps_of (offered all_caps)) ≡ None
nothing_lacks needs = go needs.base needs.enables needs.posted
  where
    go : (a b c : Bool) → lacking (record { base = a; enables = b; posted = c }) (caps_of (offered all_caps)) ≡ None
    go true true true = refl
    go true true false = refl
    go true false true = refl
    go true false false = refl
    go false true true = refl
    go false true false = refl
    go false false true = refl
    go false false false = refl

gets_hello : {S : Type 0} (side : Side) (s : S) → take_packet (hello_sent (fresh_session Device side.offer side.needs)) hello_m ≡ (device_session (met_wire side s), Ok Met)
gets_hello side s = rw (nothing_lacks side.needs)

offered_short : (c : Caps) → length (offered c) ≤ 3
offered_short c = go c.base c.enables c.posted
  where
    go : (a b c : Bool) → length (offered (record { base = a; enables = b; posted = c })) ≤ 3
    go true true true = omega arith
    go true true false = omega arith
    go true false true = omega arith
    go true false false = omega arith
    go false true true = omega arith
    go false true false = omega arith
    go false false true = omega arith
    go false false false = omega arith

-- A port before the greeting, after the hellos went, and after the machine took the device's.

abbrev pub PortPlan : Type 0 → Type 0
PortPlan S = Side × S

abbrev fresh_q : PortEnd
fresh_q = record { session = fresh_session Machine all_caps no_caps; held = None; last = 0 }

abbrev went_q : PortEnd
went_q = greeted fresh_q

module _ {M S F : Type 0} (k : MasterModel M) (d : DeviceModel S) (codec : Codec F) (plan : Plan) where
  abbrev fresh_p : PortPlan S → PacketLink (DeviceEnd S F) (Decoded F)
  fresh_p x = fresh_link (device_start F x.0 x.1)

  abbrev went_p : PortPlan S → PacketLink (DeviceEnd S F) (Decoded F)
  went_p x = record { leaf = (settled {F = F} d (unsettled (met_wire x.0 x.1))).0; out_taken = Valid hello_m ∷ []; out_waiting = []; back_taken = []; back_waiting = Valid (hello_d x.0) ∷ map Valid (settled {F = F} d (unsettled (met_wire x.0 x.1))).1 }

  abbrev Lead : PacketWorld (MachineEnd M F) (DeviceEnd S F) (Decoded F) → PacketWorld (MachineEnd M F) (DeviceEnd S F) (Decoded F) → Type 0
  Lead = Leads k d codec plan

  abbrev fr : Phase → M → List PortEnd → MachineEnd M F
  fr phase m ports = frame k d codec plan phase m [] 0 false ports

  module _ (m : M) (links : List (PacketLink (DeviceEnd S F) (Decoded F))) (ports : List PortEnd) (p : ℕ) (inside : p < length links) (inside' : p < length ports) where
    -- The machine greets; the device greets, and takes the machine's hello.
    greets : (x : PortPlan S) → Lead (focus links p (fr (Greet p) m (set ports p fresh_q)) (fresh_p x)) (focus links p (after_greet k (fr (Greet p) m (set ports p went_q)) p (nat_lt (suc p) (length ports))) (went_p x))
    greets x = leads_on k d codec plan _ _ _ one (leads_on k d codec plan _ _ _ two three)
      where
        h : MachineEnd M F
        h = fr (Greet p) m (set ports p fresh_q)

        h' : MachineEnd M F
        h' = after_greet k (fr (Greet p) m (set ports p went_q)) p (nat_lt (suc p) (length ports))

        e1 : DeviceEnd S F
        e1 = record (device_start F x.0 x.1) { session = hello_sent (fresh_session Device x.0.offer x.0.needs) }

        l1 : PacketLink (DeviceEnd S F) (Decoded F)
        l1 = record { leaf = e1; out_taken = []; out_waiting = []; back_taken = []; back_waiting = Valid (hello_d x.0) ∷ [] }

        l2 : PacketLink (DeviceEnd S F) (Decoded F)
        l2 = record { leaf = e1; out_taken = []; out_waiting = Valid hello_m ∷ []; back_taken = []; back_waiting = Valid (hello_d x.0) ∷ [] }

        looks : (ends k d codec).hub_outlook h ≡ HubActs h' (Some (p, Valid hello_m))
        looks = ap (greet_outlook k h p) (get_set ports p fresh_q inside')
            ∙ ap₂ (λ u n. HubActs (after_greet k (fr (Greet p) m u) p (nat_lt (suc p) n)) (Some (p, Valid hello_m))) (set-set ports p fresh_q went_q) (length-set ports p fresh_q)

        one : Leads k d codec plan (focus links p h (fresh_p x)) (focus links p h l1)
        one = leaf_moves k d codec _ _ p (ap (packet_move_at (ends k d codec) (focus links p h (fresh_p x)) p) (get_set links p (fresh_p x) inside)
            ∙ ap (λ v. record { hub = h; links = v }) (set-set links p (fresh_p x) l1))

        few : IsFew l1
        few = (refl, refl, inr (hello_d x.0, refl, (let n = offered_short x.0.offer in omega arith)))

        two : Leads k d codec plan (focus links p h l1) (focus links p h' l2)
        two = hub_sends k d codec _ _ h' p hello_m l1 looks (get_set links p l1 inside) few (hub_sends_one (ends k d codec) links p inside h h' l1 (Valid hello_m) looks)

        takes : device_takes d e1 (Valid hello_m) ≡ settled d (unsettled (met_wire x.0 x.1))
        takes = ap (device_took d e1 hello_m) (gets_hello x.0 x.1)

        three : Leads k d codec plan (focus links p h' l2) (focus links p h' (went_p x))
        three = leaf_moves k d codec _ _ p (leaf_takes_one (ends k d codec) links p inside h' l2 (Valid hello_m) [] refl refl
            ∙ ap (λ (r : DeviceEnd S F × List Packet). focus links p h' (with_leaf l2 (Valid hello_m) [] (r.0, map Valid r.1))) takes)

    -- The machine takes the device's hello.
    meets : (x : PortPlan S) → Lead (focus links p (fr (Meet p) m (set ports p went_q)) (went_p x)) (focus links p (to_meet k (fr (Meet p) m (set ports p (port_of F d (met_wire x.0 x.1)))) (suc p) (nat_lt (suc p) (length ports))) (post_of F d (met_wire x.0 x.1)))
    meets x = hub_takes_it k d codec _ _ p refl (
        hub_takes_one (ends k d codec) links p inside h (went_p x) (Valid (hello_d x.0)) (map Valid (settled {F = F} d (unsettled (met_wire x.0 x.1))).1) refl refl
        ∙ ap (λ o. focus links p (machine_hears_at k h p (Valid (hello_d x.0)) o) (post_of F d (met_wire x.0 x.1))) (get_set ports p went_q inside')
        ∙ ap (λ r. focus links p (machine_took k h p went_q (hello_d x.0) r) (post_of F d (met_wire x.0 x.1))) (hears_hello x.0)
        ∙ ap₂ (λ u n. focus links p (to_meet k (fr (Meet p) m u) (suc p) (nat_lt (suc p) n)) (post_of F d (met_wire x.0 x.1))) (set-set ports p went_q (port_of F d (met_wire x.0 x.1))) (length-set (set ports p went_q) p (port_of F d (met_wire x.0 x.1)) ∙ length-set ports p went_q)
        )
      where
        h : MachineEnd M F
        h = fr (Meet p) m (set ports p went_q)

  -- All ports.

  abbrev wq : PortPlan S → PortEnd
  wq x = went_q

  abbrev fq : PortPlan S → PortEnd
  fq x = fresh_q

  abbrev mw : PortPlan S → Wire S
  mw x = met_wire x.0 x.1

  abbrev mq : PortPlan S → PortEnd
  mq x = port_of F d (met_wire x.0 x.1)

  abbrev mp : PortPlan S → PacketLink (DeviceEnd S F) (Decoded F)
  mp x = post_of F d (met_wire x.0 x.1)

  abbrev all_in : Phase → M → List PortEnd → List (PacketLink (DeviceEnd S F) (Decoded F)) → PacketWorld (MachineEnd M F) (DeviceEnd S F) (Decoded F)
  all_in phase m ports links = record { hub = fr phase m ports; links = links }

  mid_get : {A : Type 0} (xs ys : List A) (y : A) (n : ℕ) → length xs ≡ n → slice_get (xs ++ y ∷ ys) n ≡ Some y
  mid_get xs ys y n e = subst (λ n. slice_get (xs ++ y ∷ ys) n ≡ Some y) e (get_mid xs ys y)

  mid_set : {A : Type 0} (xs ys : List A) (y z : A) (n : ℕ) → length xs ≡ n → set (xs ++ y ∷ ys) n z ≡ xs ++ z ∷ ys
  mid_set xs ys y z n e = subst (λ n. set (xs ++ y ∷ ys) n z ≡ xs ++ z ∷ ys) e (set_mid xs ys y z)

  shift : {A B : Type 0} (f : A → B) (a : List A) (x : A) (ys : List B) → map f a ++ f x ∷ ys ≡ map f (a ++ x ∷ []) ++ ys
  shift f [] x ys = refl
  shift f (y ∷ a) x ys = ap (λ t. f y ∷ t) (shift f a x ys)

  first_waits : (xs : List (PortPlan S)) → waits_at (map wq xs) 0 (slice_get (map wq xs) 0) ≡ map wq xs
  first_waits [] = refl
  first_waits (x ∷ xs) = refl

  -- One port of the greeting, between those that have greeted and those that have not.
  greet_one : (m : M) (a : List (PortPlan S)) (x : PortPlan S) (b : List (PortPlan S)) → Lead (all_in (Greet (length a)) m (map wq a ++ map fq (x ∷ b)) (map went_p a ++ map fresh_p (x ∷ b))) (record { hub = after_greet k (fr (Greet (length a)) m (map wq (a ++ x ∷ []) ++ map fq b)) (length a) (nat_lt (suc (length a)) (length a + suc (length b))); links = map went_p (a ++ x ∷ []) ++ map fresh_p b })
  greet_one m a x b =
      let p : ℕ = length a in
      let qs : List PortEnd = map wq a ++ fresh_q ∷ map fq b in
      let ps : List (PacketLink (DeviceEnd S F) (Decoded F)) = map went_p a ++ fresh_p x ∷ map fresh_p b in
      let gq = mid_get (map wq a) (map fq b) fresh_q p (length-map a wq) in
      let gp = mid_get (map went_p a) (map fresh_p b) (fresh_p x) p (length-map a went_p) in
      let r = greets m ps qs p (slice_get_within ps p (fresh_p x) gp) (slice_get_within qs p fresh_q gq) x in
      let len : length qs ≡ p + suc (length b) = length-append (map wq a) (fresh_q ∷ map fq b) ∙ ap₂ (λ i j. i + suc j) (length-map a wq) (length-map b fq) in
      between k d codec 0 _ _ _ _ (ap₂ (λ u v. all_in (Greet p) m u v) (sym (set_same qs p fresh_q gq)) (sym (set_same ps p (fresh_p x) gp))) r (
      ap₂ (λ u v. record { hub = after_greet k (fr (Greet p) m u) p (nat_lt (suc p) (length qs)); links = v }) (mid_set (map wq a) (map fq b) fresh_q went_q p (length-map a wq) ∙ shift wq a x (map fq b)) (mid_set (map went_p a) (map fresh_p b) (fresh_p x) (went_p x) p (length-map a went_p) ∙ shift went_p a x (map fresh_p b))
      ∙ ap (λ n. record { hub = after_greet k (fr (Greet p) m (map wq (a ++ x ∷ []) ++ map fq b)) p (nat_lt (suc p) n); links = map went_p (a ++ x ∷ []) ++ map fresh_p b }) len
      )

  greet_rest : (m : M) (a : List (PortPlan S)) (x : PortPlan S) (b : List (PortPlan S)) → Lead (all_in (Greet (length a)) m (map wq a ++ map fq (x ∷ b)) (map went_p a ++ map fresh_p (x ∷ b))) (all_in (Meet 0) m (map wq (a ++ x ∷ b)) (map went_p (a ++ x ∷ b)))
  greet_rest m a x [] =
      let one = greet_one m a x [] in arrive k d codec plan _ _ _ one (
      ap (λ v. record { hub = after_greet k (fr (Greet (length a)) m (map wq (a ++ x ∷ []) ++ [])) (length a) v; links = map went_p (a ++ x ∷ []) ++ [] }) (le-ltb (suc (length a)) (length a + 1) (omega arith))
      ∙ ap₂ (λ u v. record { hub = after_greet k (fr (Greet (length a)) m u) (length a) false; links = v }) (append-nil (map wq (a ++ x ∷ []))) (append-nil (map went_p (a ++ x ∷ [])))
      ∙ ap (λ u. all_in (Meet 0) m u (map went_p (a ++ x ∷ []))) (first_waits (a ++ x ∷ []))
      )
  greet_rest m a x (y ∷ b) =
      let one = greet_one m a x (y ∷ b) in
      let more = greet_rest m (a ++ x ∷ []) y b in
      leads_on k d codec plan _ _ _ (arrive k d codec plan _ _ _ one (ap (λ v. record { hub = after_greet k (fr (Greet (length a)) m (map wq (a ++ x ∷ []) ++ map fq (y ∷ b))) (length a) v; links = map went_p (a ++ x ∷ []) ++ map fresh_p (y ∷ b) }) (lt-ltb (suc (length a)) (length a + suc (suc (length b))) (omega arith))))
      (leads_on k d codec plan _ _ _ (still_there k d codec plan _ _ (ap (λ n. all_in (Greet n) m (map wq (a ++ x ∷ []) ++ map fq (y ∷ b)) (map went_p (a ++ x ∷ []) ++ map fresh_p (y ∷ b))) (sym (length-append a (x ∷ []) ∙ omega arith))))
      (leads_on k d codec plan _ _ _ more (still_there k d codec plan _ _ (ap (λ (xs : List (PortPlan S)). all_in (Meet 0) m (map wq xs) (map went_p xs)) (append_assoc a (x ∷ []) (y ∷ b))))))

  meet_one : (m : M) (a : List (PortPlan S)) (x : PortPlan S) (b : List (PortPlan S)) → Lead (all_in (Meet (length a)) m (map mq a ++ map wq (x ∷ b)) (map mp a ++ map went_p (x ∷ b))) (record { hub = to_meet k (fr (Meet (length a)) m (map mq (a ++ x ∷ []) ++ map wq b)) (suc (length a)) (nat_lt (suc (length a)) (length a + suc (length b))); links = map mp (a ++ x ∷ []) ++ map went_p b })
  meet_one m a x b =
      let p : ℕ = length a in
      let qs : List PortEnd = map mq a ++ went_q ∷ map wq b in
      let ps : List (PacketLink (DeviceEnd S F) (Decoded F)) = map mp a ++ went_p x ∷ map went_p b in
      let gq = mid_get (map mq a) (map wq b) went_q p (length-map a mq) in
      let gp = mid_get (map mp a) (map went_p b) (went_p x) p (length-map a mp) in
      let r = meets m ps qs p (slice_get_within ps p (went_p x) gp) (slice_get_within qs p went_q gq) x in
      let len : length qs ≡ p + suc (length b) = length-append (map mq a) (went_q ∷ map wq b) ∙ ap₂ (λ i j. i + suc j) (length-map a mq) (length-map b wq) in
      between k d codec 0 _ _ _ _ (ap₂ (λ u v. all_in (Meet p) m u v) (sym (set_same qs p went_q gq)) (sym (set_same ps p (went_p x) gp))) r (
      ap₂ (λ u v. record { hub = to_meet k (fr (Meet p) m u) (suc p) (nat_lt (suc p) (length qs)); links = v }) (mid_set (map mq a) (map wq b) went_q (mq x) p (length-map a mq) ∙ shift mq a x (map wq b)) (mid_set (map mp a) (map went_p b) (went_p x) (mp x) p (length-map a mp) ∙ shift mp a x (map went_p b))
      ∙ ap (λ n. record { hub = to_meet k (fr (Meet p) m (map mq (a ++ x ∷ []) ++ map wq b)) (suc p) (nat_lt (suc p) n); links = map mp (a ++ x ∷ []) ++ map went_p b }) len
      )

  meet_rest : (m : M) (a : List (PortPlan S)) (x : PortPlan S) (b : List (PortPlan S)) → Lead (all_in (Meet (length a)) m (map mq a ++ map wq (x ∷ b)) (map mp a ++ map went_p (x ∷ b))) (all_in Run m (map mq (a ++ x ∷ b)) (map mp (a ++ x ∷ b)))
  meet_rest m a x [] =
      let one = meet_one m a x [] in arrive k d codec plan _ _ _ one (
      ap (λ v. record { hub = to_meet k (fr (Meet (length a)) m (map mq (a ++ x ∷ []) ++ [])) (suc (length a)) v; links = map mp (a ++ x ∷ []) ++ [] }) (le-ltb (suc (length a)) (length a + 1) (omega arith))
      ∙ ap₂ (λ u v. all_in Run m u v) (append-nil (map mq (a ++ x ∷ []))) (append-nil (map mp (a ++ x ∷ [])))
      )
  meet_rest m a x (y ∷ b) =
      let one = meet_one m a x (y ∷ b) in
      let more = meet_rest m (a ++ x ∷ []) y b in
      let qs : List PortEnd = map mq (a ++ x ∷ []) ++ map wq (y ∷ b) in
      let g = mid_get (map mq (a ++ x ∷ [])) (map wq b) went_q (suc (length a)) (length-map (a ++ x ∷ []) mq ∙ length-append a (x ∷ []) ∙ omega arith) in
      leads_on k d codec plan _ _ _ (arrive k d codec plan _ _ _ one (ap (λ v. record { hub = to_meet k (fr (Meet (length a)) m qs) (suc (length a)) v; links = map mp (a ++ x ∷ []) ++ map went_p (y ∷ b) }) (lt-ltb (suc (length a)) (length a + suc (suc (length b))) (omega arith))))
      (leads_on k d codec plan _ _ _ (still_there k d codec plan _ _ (ap (λ o. all_in (Meet (suc (length a))) m (waits_at qs (suc (length a)) o) (map mp (a ++ x ∷ []) ++ map went_p (y ∷ b))) g ∙ ap (λ u. all_in (Meet (suc (length a))) m u (map mp (a ++ x ∷ []) ++ map went_p (y ∷ b))) (set_same qs (suc (length a)) went_q g)))
      (leads_on k d codec plan _ _ _ (still_there k d codec plan _ _ (ap (λ n. all_in (Meet n) m qs (map mp (a ++ x ∷ []) ++ map went_p (y ∷ b))) (sym (length-append a (x ∷ []) ∙ omega arith))))
      (leads_on k d codec plan _ _ _ more (still_there k d codec plan _ _ (ap (λ (xs : List (PortPlan S)). all_in Run m (map mq xs) (map mp xs)) (append_assoc a (x ∷ []) (y ∷ b)))))))

  same_ports : (xs : List (PortPlan S)) → replicate (length xs) fresh_q ≡ map fq xs
  same_ports [] = refl
  same_ports (x ∷ xs) = ap (λ t. fresh_q ∷ t) (same_ports xs)

  abbrev pub leaves_of : List (PortPlan S) → List (DeviceEnd S F)
  leaves_of xs = map (λ (x : PortPlan S). device_start F x.0 x.1) xs

  -- From the start to the first unit.
  pub greeting : (laws : IsDevice d) (m : M) (xs : List (PortPlan S)) → Lead (packets_start (machine_start F m (length xs) plan) (leaves_of xs)) (state k d codec plan laws Run m [] 0 false (map mw xs))
  greeting laws m [] = (still_there k d codec plan _ _ (refl))
  greeting laws m (x ∷ xs) =
      leads_on k d codec plan _ _ _ (still_there k d codec plan _ _ (ap₂ (λ u v. all_in (Greet 0) m u v) (same_ports (x ∷ xs)) (map_both fresh_link (λ (x : PortPlan S). device_start F x.0 x.1) fresh_p (λ x. refl) (x ∷ xs))))
      (leads_on k d codec plan _ _ _ (greet_rest m [] x xs)
      (leads_on k d codec plan _ _ _ (meet_rest m [] x xs)
      (still_there k d codec plan _ _ (ap₂ (λ u v. all_in Run m u v) (sym (map_both (port_of F d) mw mq (λ x. refl) (x ∷ xs))) (sym (map_both (post_of F d) mw mp (λ x. refl) (x ∷ xs)))))))
