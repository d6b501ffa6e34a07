-- Bytes are delivered to the machine end.
use Rattle.std.proofs.Common.{◌≡◌, ℕ, zero, suc, ◌+◌, ◌-◌, ◌<◌, ◌≤◌, min, Bool, true, false, List, [], ◌∷◌, ◌++◌, length, take, drop, get_or, map, set, refl, sym, ap, ◌∙◌, subst, arith, length-append, length-take, length-drop}
use Rattle.std.specs.Prelude.{Option, Some, None, nat_lt, option_map, slice_get}
use Rattle.std.proofs.lemmas.Bool.Decides.{nat_tests}
use Rattle.std.proofs.Math.Seq.{map-set_same, take-add}
use Rattle.std.proofs.lemmas.List.{drop-append-le, length-map, length-set, map-set}
use Rattle.std.proofs.lemmas.Option.{slice_get-get_or}
use Rattle.process_network.specs.Star.{Link, new_link}
use Rattle.process_network.specs.Star.StarStep.{DeliverBack}
use Rattle.cosim_model.specs.Parts.{DeviceModel, MasterModel}
use Rattle.machine_turns.specs.declared.fault.PortFault.{PortFault}
use Rattle.machine_turns.specs.Ends.{End, Received, core_of, fed_at, more, put}
use Rattle.world.specs.Seats.{SeatValue, back_given, leaf_of}
use Rattle.world.specs.Stars.{Ends, IsHeard, IsHub, IsMoved, ends_of, nothing_received}
use Rattle.world.proofs.Stepping.{link-at, set-both}

least : (count : ℕ) (xs : List ℕ) → take (min count (length xs)) xs ≡ take count xs
least zero xs = ap (λ n. take n xs) (let z : min 0 (length xs) ≡ 0 = omega arith in z)
least (suc count) [] = ap (λ n. take n []) (let z : min (suc count) 0 ≡ 0 = omega arith in z)
least (suc count) (x ∷ xs) =
    ap (λ n. take n (x ∷ xs)) (let z : min (suc count) (suc (length xs)) ≡ suc (min count (length xs)) = omega arith in z)
    ∙ ap (λ ys. x ∷ ys) (least count xs)

exactly : (count : ℕ) (piece xs : List ℕ) → piece ≡ take count xs → take (length piece) xs ≡ piece
exactly count piece xs e = ap (λ n. take n xs) (ap length e ∙ length-take count xs) ∙ least count xs ∙ sym e

module _ (k : Link) (r : Received) (piece : List ℕ) (count : ℕ) (is : piece ≡ take count (drop k.back_delivered k.back))
    (heard : IsHeard k r) where
  pub piece-size : length piece ≡ min count (length k.back - k.back_delivered)
  piece-size =
      ap length is ∙ length-take count (drop k.back_delivered k.back)
      ∙ ap (min count) (length-drop k.back_delivered k.back)

  pub piece-fits : k.back_delivered + length piece ≤ length k.back
  piece-fits = let size = piece-size in let fits = heard.fits in omega (arith, size, fits)

  heard-given : k.back_delivered + length piece ≤ 18446744073709551615
      → IsHeard (record k { back_delivered = k.back_delivered + length piece }) (more piece r)
  heard-given small =
      let taken = heard.taken in
      let fits = heard.fits in
      let front = length-take k.back_delivered k.back in
      record {
        taken = omega (arith, taken);
        small = small;
        fits = piece-fits;
        holds = ap (λ h. h ++ piece) heard.holds
            ∙ ap (λ p. drop r.taken (take k.back_delivered k.back) ++ p)
            (sym (exactly count piece (drop k.back_delivered k.back) is))
            ∙ sym (drop-append-le r.taken (take k.back_delivered k.back) (take (length piece) (drop k.back_delivered k.back))
            (omega (arith, front, taken, fits)))
            ∙ ap (drop r.taken) (sym (take-add k.back_delivered (length piece) k.back));
      }

module _ {M S : Type 0} (k : MasterModel M) (d : DeviceModel S) (e new : End M) (seats : List (SeatValue S)) (p count : ℕ)
    (old later : SeatValue S) (within : p < length seats) (here : old ≡ get_or seats p old) (piece : List ℕ)
    (is : piece ≡ take count (drop old.link.back_delivered old.link.back))
    (fed : new ≡ fed_at e.kept p piece e) (hub : IsHub e (map (λ (s : SeatValue S). s.link) seats)) where
  abbrev received : Received
  received = get_or e.ports p nothing_received

  abbrev links : List Link
  links = map (λ (s : SeatValue S). s.link) seats

  pub heard-here : IsHeard old.link received
  heard-here = subst (λ k. IsHeard k received) (link-at k d e seats p old within here) (hub.heard p)

  there : p < length e.ports
  there = let size = hub.size in let long = length-map seats (λ (s : SeatValue S). s.link) in omega (arith, size, long, within)

  fed-clear : (kept : Option PortFault) → kept ≡ None → fed_at kept p piece e ≡ put e p (option_map (more piece) (slice_get e.ports p))
  fed-clear None none = refl
  fed-clear (Some f) none = absurd (cc (none))

  new-is : new ≡ record e { ports = set e.ports p (more piece received) }
  new-is =
      fed ∙ fed-clear e.kept hub.clear
      ∙ ap (λ o. put e p (option_map (more piece) o)) (slice_get-get_or e.ports p nothing_received there)

  module _ (end : later.end ≡ old.end)
      (link : later.link ≡ record old.link { back_delivered = old.link.back_delivered + length piece }) where
    pub back-keeps : later.link.back_delivered ≤ 18446744073709551615
        → IsHub new (map (λ (s : SeatValue S). s.link) (set seats p later))
    back-keeps small =
        subst (λ (x : End M). IsHub x (map (λ (s : SeatValue S). s.link) (set seats p later))) (sym new-is) (
        subst (λ ks. IsHub (record e { ports = set e.ports p (more piece received) }) ks)
        (sym (map-set (λ (s : SeatValue S). s.link) seats p later)) (record {
          clear = hub.clear;
          size = length-set e.ports p (more piece received) ∙ hub.size ∙ sym (length-set links p later.link);
          heard = set-both IsHeard links e.ports p later.link new_link (more piece received) nothing_received (sym hub.size)
              (subst (λ k. IsHeard k (more piece received)) (sym link)
              (heard-given old.link received piece count is heard-here
              (subst (λ (k : Link). k.back_delivered ≤ 18446744073709551615) link small)))
              hub.heard;
        }))

    delivered : old.link.back_delivered + length piece ≡ (back_given old.link count).back_delivered
    delivered = ap (λ n. old.link.back_delivered + n) (piece-size old.link received piece count is heard-here)

    more-than : (a b n m : ℕ) → a + n ≡ m → nat_lt 0 n ≡ nat_lt a m
    more-than a b n m is = grind (arith, nat_tests, is)

    pub back-moves : (w : Ends M S) → ends_of e seats ≡ w
        → IsMoved k d w (ends_of new (set seats p later)) (DeliverBack p count) (nat_lt 0 (length piece))
    back-moves w same =
        let at = link-at k d e seats p old within here in
        subst (λ (w : Ends M S). IsMoved k d w (ends_of new (set seats p later)) (DeliverBack p count) (nat_lt 0 (length piece))) same
        (record {
          new_is = ap (λ (x : End M). ends_of x (set seats p later)) new-is ∙ (λ i. record {
            hub = record {
              core = core_of e;
              taken = map-set_same (λ (r : Received). r.taken) e.ports p (more piece received) nothing_received refl i;
            };
            leaves = map-set_same (λ (s : SeatValue S). leaf_of s.end) seats p later old
                (ap leaf_of end ∙ ap (λ (s : SeatValue S). leaf_of s.end) here) i;
            links = (map-set (λ (s : SeatValue S). s.link) seats p later
                ∙ ap (set links p) (link ∙ ap (λ n. record old.link { back_delivered = n }) delivered
                ∙ ap (λ k. back_given k count) (sym at))) i;
          });
          moved_is = more-than old.link.back_delivered 0 (length piece) (back_given old.link count).back_delivered delivered
              ∙ ap (λ (k : Link). nat_lt k.back_delivered (back_given k count).back_delivered) (sym at);
        })
