-- A step of one seat is a step of the star.
use Rattle.std.proofs.Common.{◌≡◌, ℕ, zero, suc, ◌+◌, ◌-◌, ◌<◌, ◌≤◌, min, Bool, true, false, List, [], ◌∷◌, ◌++◌, length, take, drop, get_or, map, set, refl, sym, ap, ◌∙◌, subst, arith, length-append, length-take, length-drop}
use Rattle.std.specs.Prelude.{Option, Some, None, is_some, nat_lt, option_map, slice_get}
use Rattle.std.proofs.lemmas.Bool.Decides.{nat_tests}
use Rattle.std.proofs.Math.Seq.{map-set_same, take-add}
use Rattle.std.proofs.lemmas.List.{drop-append-le, get_or-map, length-map, length-set, map-set, set-get_or, take-append-le}
use Rattle.std.proofs.lemmas.Option.{slice_get-get_or, slice_get-map, slice_get_read}
use Rattle.process_network.specs.Network.{handed_over}
use Rattle.process_network.specs.PacketStar.{LeafOutlook, leaf_after_take, leaf_turn_by}
use Rattle.process_network.specs.PacketStar.LeafOutlook.{LeafActs, LeafWaits, LeafHalts}
use Rattle.process_network.specs.Star.{Link, after_leaf_turn, leaf_received, leaf_turn_of, link, new_link, star_after, star_effective}
use Rattle.process_network.specs.Star.StarStep.{LeafTurn, DeliverOut, DeliverBack}
use Rattle.cosim_model.specs.Packets.{Decoded}
use Rattle.cosim_model.specs.Parts.{DeviceModel, MasterModel}
use Rattle.ends_model.specs.DeviceTurn.{DeviceEnd, device_outlook}
use Rattle.ends_model.specs.Traffic as traffic
use Rattle.ends_model.specs.World.{ends}
use Rattle.rp_packet.specs.declared.fault.Cause.{Cause}
use Rattle.rp_packet.specs.Streams.{packet_codec}
use Rattle.machine_turns.specs.declared.fault.PortFault.{PortFault}
use Rattle.machine_turns.specs.Ends.{End, Received, core_of, fed_at, more, put}
use Rattle.world.specs.Seats.{SeatGiven, SeatTurns, SeatValue, IsSoundSeat, TurnsTo, back_given, leaf_of, out_given, seat_turn}
use Rattle.world.specs.Stars.{Ends, Hub, IsHeard, IsHub, IsMoved, IsSound, Leaf, ends_of, hub_of, nothing_received, star}

-- A place behind the end of a list.

pub past-get : {A : Type 0} (xs : List A) (p : ℕ) → length xs ≤ p → slice_get xs p ≡ None
past-get [] p past = refl
past-get (x ∷ xs) zero past = absurd (omega (arith, past))
past-get (x ∷ xs) (suc p) past = past-get xs p (omega (arith, past))

pub past-or : {A : Type 0} (xs : List A) (p : ℕ) (d : A) → length xs ≤ p → get_or xs p d ≡ d
past-or [] p d past = refl
past-or (x ∷ xs) zero d past = absurd (omega (arith, past))
past-or (x ∷ xs) (suc p) d past = past-or xs p d (omega (arith, past))

pub past-set : {A : Type 0} (xs : List A) (p : ℕ) (v : A) → length xs ≤ p → set xs p v ≡ xs
past-set [] p v past = refl
past-set (x ∷ xs) zero v past = absurd (omega (arith, past))
past-set (x ∷ xs) (suc p) v past = ap (λ ys. x ∷ ys) (past-set xs p v (omega (arith, past)))

-- What holds at each place still does where one is replaced.

pub set-all : {A : Type 0} (P : ℕ → A → Type 0) (xs : List A) (p : ℕ) (v d : A) → P p v → ((q : ℕ) → P q (get_or xs q d))
    → (q : ℕ) → P q (get_or (set xs p v) q d)
set-all P [] p v d here each q = each q
set-all P (x ∷ xs) zero v d here each zero = here
set-all P (x ∷ xs) zero v d here each (suc q) = each (suc q)
set-all P (x ∷ xs) (suc p) v d here each zero = each zero
set-all P (x ∷ xs) (suc p) v d here each (suc q) = set-all (λ n. P (suc n)) xs p v d here (λ n. each (suc n)) q

pub set-both : {A B : Type 0} (P : A → B → Type 0) (xs : List A) (ys : List B) (p : ℕ) (v d : A) (w e : B)
    → length xs ≡ length ys → P v w → ((q : ℕ) → P (get_or xs q d) (get_or ys q e))
    → (q : ℕ) → P (get_or (set xs p v) q d) (get_or (set ys p w) q e)
set-both P [] [] p v d w e long here each q = each q
set-both P [] (y ∷ ys) p v d w e long here each q = absurd (let n : 0 ≡ suc (length ys) = long in omega arith)
set-both P (x ∷ xs) [] p v d w e long here each q = absurd (let n : suc (length xs) ≡ 0 = long in omega arith)
set-both P (x ∷ xs) (y ∷ ys) zero v d w e long here each zero = here
set-both P (x ∷ xs) (y ∷ ys) zero v d w e long here each (suc q) = each (suc q)
set-both P (x ∷ xs) (y ∷ ys) (suc p) v d w e long here each zero = each zero
set-both P (x ∷ xs) (y ∷ ys) (suc p) v d w e long here each (suc q) =
    let n : suc (length xs) ≡ suc (length ys) = long in
    set-both P xs ys p v d w e (omega arith) here (λ n. each (suc n)) q

-- A change of a link that leaves what the machine end has of it.
pub hub-set : {M : Type 0} (e : End M) (links : List Link) (p : ℕ) (old new : Link)
    → get_or links p new_link ≡ old → ((r : Received) → IsHeard old r → IsHeard new r) → IsHub e links
    → IsHub e (set links p new)
hub-set e links p old new at keeps is = record {
  clear = is.clear;
  size = is.size ∙ sym (length-set links p new);
  heard = set-all (λ q k. IsHeard k (get_or e.ports q nothing_received)) links p new new_link
      (keeps (get_or e.ports p nothing_received) (subst (λ k. IsHeard k (get_or e.ports p nothing_received)) at (is.heard p)))
      is.heard;
}

pub heard-grown : (k : Link) (bytes : List ℕ) (r : Received) → IsHeard k r → IsHeard (record k { back = k.back ++ bytes }) r
heard-grown k bytes r is =
    let fits = is.fits in
    let long = length-append k.back bytes in
    record {
      taken = is.taken;
      small = is.small;
      fits = omega (arith, fits, long);
      holds = is.holds ∙ ap (drop r.taken) (sym (take-append-le k.back_delivered k.back bytes is.fits));
    }

pub heard-out : (k : Link) (out : List ℕ) (n : ℕ) (r : Received) → IsHeard k r
    → IsHeard (record k { out = out; out_delivered = n }) r
heard-out k out n r is = record { taken = is.taken; small = is.small; fits = is.fits; holds = is.holds }

module _ {M S : Type 0} (k : MasterModel M) (d : DeviceModel S) where
  -- A device end among others takes the turns of one alone.

  took-same : (l : Leaf S) (m : Option (Decoded Cause × ℕ))
      → leaf_after_take (ends k d packet_codec) l m ≡ leaf_after_take (traffic.device_alone d packet_codec) l m
  took-same l None = refl
  took-same l (Some m) = refl

  turned-same : (l : Leaf S) (x : List ℕ) (o : LeafOutlook (DeviceEnd S Cause) (Decoded Cause))
      → leaf_turn_by (ends k d packet_codec) l x o ≡ leaf_turn_by (traffic.device_alone d packet_codec) l x o
  turned-same l x (LeafActs next sends) = refl
  turned-same l x LeafWaits = took-same l (packet_codec.first (drop l.taken x))
  turned-same l x LeafHalts = refl

  pub leaf-same : (l : Leaf S) (x : List ℕ) → (star k d).leaf_turn l x ≡ traffic.device_turn d packet_codec l x
  leaf-same l x = turned-same l x (device_outlook l.core)

  module _ (e : End M) (seats : List (SeatValue S)) where
    abbrev now : Ends M S
    now = ends_of e seats

    abbrev links : List Link
    links = map (λ (s : SeatValue S). s.link) seats

    -- there is no such port

    past-links : (p : ℕ) → length seats ≤ p → length links ≤ p
    past-links p past = let long = length-map seats (λ (s : SeatValue S). s.link) in omega (arith, long, past)

    past-leaves : (p : ℕ) → length seats ≤ p → length now.leaves ≤ p
    past-leaves p past = let long = length-map seats (λ (s : SeatValue S). leaf_of s.end) in omega (arith, long, past)

    pub no-leaf : (p : ℕ) → length seats ≤ p → (w : Ends M S) → now ≡ w → IsMoved k d w w (LeafTurn p) false
    no-leaf p past w is =
        subst (λ (w : Ends M S). IsMoved k d w w (LeafTurn p) false) is (
        let none = ap (λ o. leaf_turn_of (star k d) o (leaf_received now p)) (past-get now.leaves p (past-leaves p past)) in
        record {
          new_is = sym (ap (after_leaf_turn now p) none);
          moved_is = sym (ap (λ (o : Option (Leaf S × List ℕ)). is_some o) none);
        })

    idle : (n count : ℕ) → n ≡ 0 → false ≡ nat_lt 0 (0 + min count n)
    idle n count is = grind (arith, nat_tests, is)

    pub no-out : (p count : ℕ) → length seats ≤ p → (w : Ends M S) → now ≡ w → IsMoved k d w w (DeliverOut p count) false
    no-out p count past w is =
        subst (λ (w : Ends M S). IsMoved k d w w (DeliverOut p count) false) is (record {
          new_is = ap (λ ks. record now { links = ks }) (sym (past-set links p _ (past-links p past)));
          moved_is = idle 0 count refl
              ∙ ap (λ (k : Link). nat_lt k.out_delivered (handed_over k.out_delivered k.out count))
              (sym (past-or links p new_link (past-links p past)));
        })

    pub no-back : (p count : ℕ) → length seats ≤ p → (w : Ends M S) → now ≡ w → IsMoved k d w w (DeliverBack p count) false
    no-back p count past w is =
        subst (λ (w : Ends M S). IsMoved k d w w (DeliverBack p count) false) is (record {
          new_is = ap (λ ks. record now { links = ks }) (sym (past-set links p _ (past-links p past)));
          moved_is = idle 0 count refl
              ∙ ap (λ (k : Link). nat_lt k.back_delivered (handed_over k.back_delivered k.back count))
              (sym (past-or links p new_link (past-links p past)));
        })

    module _ (p : ℕ) (old : SeatValue S) (within : p < length seats) (here : old ≡ get_or seats p old) where
      pub link-at : link now p ≡ old.link
      link-at = get_or-map (λ (s : SeatValue S). s.link) seats p old new_link within ∙ sym (ap (λ (s : SeatValue S). s.link) here)

      leaf-at : slice_get now.leaves p ≡ Some (leaf_of old.end)
      leaf-at =
          slice_get-map (λ (s : SeatValue S). leaf_of s.end) seats p
          ∙ ap (option_map (λ (s : SeatValue S). leaf_of s.end)) (slice_get_read seats (length seats) p old refl within here)

      turn-at : leaf_turn_of (star k d) (slice_get now.leaves p) (leaf_received now p) ≡ seat_turn d old
      turn-at =
          ap (λ o. leaf_turn_of (star k d) o (leaf_received now p)) leaf-at
          ∙ ap (λ k'. (star k d).leaf_turn (leaf_of old.end) (take k'.out_delivered k'.out)) link-at
          ∙ leaf-same (leaf_of old.end) (take old.link.out_delivered old.link.out)

      pub seat-sound : (w : Ends M S) → now ≡ w → IsSound k d w → IsSoundSeat d old
      seat-sound w is sound r at = by (subst (λ (w : Ends M S). IsSound k d w) (sym is) sound)
        where
          by : IsSound k d now → r.0.core.fault ≡ None
          by sound = sound.leaf p r (turn-at ∙ at)

      module _ (new : SeatValue S) where
        abbrev then-seats : List (SeatValue S)
        then-seats = set seats p new

        -- the end took a turn

        turned-by : (o : Option (Leaf S × List ℕ)) → TurnsTo o old new → ends_of e then-seats ≡ after_leaf_turn now p o
        turned-by None turns = ap (λ s. ends_of e (set seats p s)) (turns ∙ here) ∙ ap (ends_of e) (set-get_or seats p old)
        turned-by (Some r) turns = λ i. record {
          hub = hub_of e;
          leaves = (map-set (λ (s : SeatValue S). leaf_of s.end) seats p new ∙ ap (set now.leaves p) turns.0) i;
          links = (map-set (λ (s : SeatValue S). s.link) seats p new
              ∙ ap (set links p) (turns.1 ∙ ap (λ (k : Link). record k { back = k.back ++ r.1 }) (sym link-at))) i;
        }

        pub seat-moves : (moved : Bool) → SeatTurns d old new moved → (w : Ends M S) → now ≡ w
            → IsMoved k d w (ends_of e then-seats) (LeafTurn p) moved
        seat-moves moved turns w is =
            subst (λ (w : Ends M S). IsMoved k d w (ends_of e then-seats) (LeafTurn p) moved) is (record {
              new_is = turned-by (seat_turn d old) turns.turns ∙ ap (after_leaf_turn now p) (sym turn-at);
              moved_is = turns.took_is ∙ ap (λ (o : Option (Leaf S × List ℕ)). is_some o) (sym turn-at);
            })

        turned-link : (o : Option (Leaf S × List ℕ)) → TurnsTo o old new → (r : Received) → IsHeard old.link r → IsHeard new.link r
        turned-link None turns r heard = subst (λ (s : SeatValue S). IsHeard s.link r) (sym turns) heard
        turned-link (Some t) turns r heard = subst (λ k. IsHeard k r) (sym turns.1) (heard-grown old.link t.1 r heard)

        links-set : map (λ (s : SeatValue S). s.link) then-seats ≡ set links p new.link
        links-set = map-set (λ (s : SeatValue S). s.link) seats p new

        pub seat-keeps : (moved : Bool) → SeatTurns d old new moved → IsHub e links
            → IsHub e (map (λ (s : SeatValue S). s.link) then-seats)
        seat-keeps moved turns is =
            subst (λ ks. IsHub e ks) (sym links-set)
            (hub-set e links p old.link new.link link-at (turned-link (seat_turn d old) turns.turns) is)

        -- bytes were delivered to it

        pub given-moves : (count : ℕ) (moved : Bool) → SeatGiven old new count moved → (w : Ends M S) → now ≡ w
            → IsMoved k d w (ends_of e then-seats) (DeliverOut p count) moved
        given-moves count moved given w is =
            subst (λ (w : Ends M S). IsMoved k d w (ends_of e then-seats) (DeliverOut p count) moved) is (record {
              new_is = λ i. record {
                hub = hub_of e;
                leaves = map-set_same (λ (s : SeatValue S). leaf_of s.end) seats p new old
                    (given.leaf ∙ ap (λ (s : SeatValue S). leaf_of s.end) here) i;
                links = (links-set ∙ ap (set links p) (given.link ∙ ap (λ k. out_given k count) (sym link-at))) i;
              };
              moved_is = given.took_is
                  ∙ ap (λ (k : Link). nat_lt k.out_delivered (out_given k count).out_delivered) (sym link-at);
            })

        pub given-keeps : (count : ℕ) (moved : Bool) → SeatGiven old new count moved → IsHub e links
            → IsHub e (map (λ (s : SeatValue S). s.link) then-seats)
        given-keeps count moved given is =
            subst (λ ks. IsHub e ks) (sym links-set)
            (hub-set e links p old.link new.link link-at
            (λ r heard. subst (λ k. IsHeard k r) (sym given.link) (heard-out old.link old.link.out (out_given old.link count).out_delivered r heard))
            is)
