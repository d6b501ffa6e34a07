-- Room for what the machine end sends, and what it sends.
use Rattle.std.proofs.Common.{◌≡◌, inl, inr, ◌⊎◌, ℕ, ◌+◌, ◌<◌, ◌≤◌, List, ◌++◌, length, set, get_or, map, sym, ap, ◌∙◌, subst, arith}
use Rattle.std.proofs.lemmas.Bool.{cases_eq}
use Rattle.std.proofs.lemmas.List.{get_or-map, length-set, get_or-set_same, get_or-set_other, map-set}
use Rattle.std.proofs.Math.Seq.{map-set_same}
use Rattle.process_network.specs.Star.{Link, new_link}
use Rattle.device_turns.specs.Ends.{End}
use Rattle.world.specs.Seats.{SeatValue, leaf_of}
use Rattle.world.specs.Stars.{HaveRoom}

pub record IsRooming {S : Type 0} (start now : List (SeatValue S)) (at : ℕ) : Type 0 where
  pub leaves : map (λ (s : SeatValue S). leaf_of s.end) now ≡ map (λ (s : SeatValue S). leaf_of s.end) start
  pub links : map (λ (s : SeatValue S). s.link) now ≡ map (λ (s : SeatValue S). s.link) start
  pub long : length now ≡ length start
  pub room : HaveRoom at now

module _ {S : Type 0} (start now : List (SeatValue S)) (at : ℕ) (old new : SeatValue S) (within : at < length now)
    (here : old ≡ get_or now at old) (end : new.end ≡ old.end) (link : new.link ≡ old.link) (is : IsRooming start now at) where
  pub same-leaves : map (λ (s : SeatValue S). leaf_of s.end) (set now at new) ≡ map (λ (s : SeatValue S). leaf_of s.end) start
  same-leaves =
      map-set_same (λ (s : SeatValue S). leaf_of s.end) now at new old
      (ap leaf_of end ∙ ap (λ (s : SeatValue S). leaf_of s.end) here) ∙ is.leaves

  pub same-links : map (λ (s : SeatValue S). s.link) (set now at new) ≡ map (λ (s : SeatValue S). s.link) start
  same-links =
      map-set_same (λ (s : SeatValue S). s.link) now at new old (link ∙ ap (λ (s : SeatValue S). s.link) here) ∙ is.links

  pub next-room : 4176 ≤ new.room → IsRooming start (set now at new) (at + 1)
  next-room room = record {
    leaves = same-leaves;
    links = same-links;
    long = length-set now at new ∙ is.long;
    room = λ q x low. by q x low (cases_eq q at);
  }
    where
      by : (q : ℕ) (x : SeatValue S) → q < at + 1 → (q ≡ at) ⊎ (q ≡ at → ⊥) → 4176 ≤ (get_or (set now at new) q x).room
      by q x low (inl same) =
          subst (λ (j : ℕ). 4176 ≤ (get_or (set now at new) j x).room) (sym same)
          (subst (λ (s : SeatValue S). 4176 ≤ s.room) (sym (get_or-set_same now at new x within)) room)
      by q x low (inr apart) =
          subst (λ (s : SeatValue S). 4176 ≤ s.room) (sym (get_or-set_other now at q new x apart))
          (is.room q x (let n : q < at = arith-below q at low apart in n))
        where
          arith-below : (q at : ℕ) → q < at + 1 → (q ≡ at → ⊥) → q < at
          arith-below q at low apart = omega (arith, low, apart)

-- Bytes are appended to those of one port.
module _ {S : Type 0} (seats : List (SeatValue S)) (p : ℕ) (old new : SeatValue S) (bytes : List ℕ) (within : p < length seats)
    (here : old ≡ get_or seats p old) where
  pub sent-leaves : new.end ≡ old.end
      → map (λ (s : SeatValue S). leaf_of s.end) (set seats p new) ≡ map (λ (s : SeatValue S). leaf_of s.end) seats
  sent-leaves end =
      map-set_same (λ (s : SeatValue S). leaf_of s.end) seats p new old
      (ap leaf_of end ∙ ap (λ (s : SeatValue S). leaf_of s.end) here)

  pub sent-on : new.link ≡ record old.link { out = old.link.out ++ bytes }
      → map (λ (s : SeatValue S). s.link) (set seats p new)
      ≡ set (map (λ (s : SeatValue S). s.link) seats) p (record (get_or (map (λ (s : SeatValue S). s.link) seats) p new_link) {
        out = (get_or (map (λ (s : SeatValue S). s.link) seats) p new_link).out ++ bytes;
      })
  sent-on link =
      map-set (λ (s : SeatValue S). s.link) seats p new
      ∙ ap (set (map (λ (s : SeatValue S). s.link) seats) p)
      (link ∙ ap (λ (k : Link). record k { out = k.out ++ bytes })
      (sym (get_or-map (λ (s : SeatValue S). s.link) seats p old new_link within ∙ sym (ap (λ (s : SeatValue S). s.link) here))))

  pub has-room : HaveRoom (length seats) seats → 4176 ≤ old.room
  has-room room = subst (λ (s : SeatValue S). 4176 ≤ s.room) (sym here) (room p old within)
