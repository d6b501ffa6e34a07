-- A turn of the machine end is a step of the star.
use Rattle.std.proofs.Common.{◌≡◌, ℕ, zero, suc, ◌+◌, ◌<◌, ◌≤◌, min, Bool, true, false, List, [], ◌∷◌, ◌++◌, length, take, drop, get_or, map, set, replicate, refl, sym, ap, ◌∙◌, subst, arith, Result, Ok, Err, length-take}
use Rattle.std.specs.Prelude.{Option, Some, None, is_some, option_map, slice_get}
use Rattle.std.proofs.lemmas.List.{drop-drop, length-map}
use Rattle.std.proofs.Math.ListN.{get_or-map}
use Rattle.std.proofs.lemmas.Option.{get_or_from_slice_get, none-some}
use Rattle.process_network.specs.Network.{Streams}
use Rattle.process_network.specs.PacketStar.{HubOutlook, fresh_hub, hub_after_take, hub_turn_by}
use Rattle.process_network.specs.PacketStar.HubOutlook.{HubActs, HubWaits, HubHalts}
use Rattle.process_network.specs.Star.{Link, after_hub_turn, hub_received, link, links_with, new_link}
use Rattle.process_network.specs.Star.StarStep.{HubTurn}
use Rattle.process_network.proofs.PacketCursors.{packet_cursors}
use Rattle.cosim_model.specs.declared.session.EndFault.{EndFault}
use Rattle.cosim_model.specs.Packets.{Decoded}
use Rattle.cosim_model.specs.Parts.{DeviceModel, MasterModel}
use Rattle.ends_model.specs.declared.ends.Turn.{Turn}
use Rattle.ends_model.specs.declared.ends.Turn.TheVariants as turn
use Rattle.ends_model.specs.Answers.{answer_by}
use Rattle.ends_model.specs.MachineTurn.{Act, MachineEnd, machine_acts, machine_outlook}
use Rattle.ends_model.specs.MachineTurn.Act.{Works, Sends, Awaits, Serves, Marks, Rests, Fails, Lost}
use Rattle.ends_model.specs.World.{ends}
use Rattle.rp_framing.specs.Framing.{counted}
use Rattle.rp_packet.specs.CodecLaws.{codec-laws}
use Rattle.rp_packet.specs.declared.fault.Cause.{Cause}
use Rattle.rp_packet.specs.Refusals.{first}
use Rattle.rp_packet.specs.Streams.{packet_codec}
use Rattle.machine_turns.specs.declared.fault.PortFault.{PortFault}
use Rattle.machine_turns.specs.Runs.{machine_alone}
use Rattle.machine_turns.specs.Ends.{End, Goes, Holds, IsAtFront, IsTurn, Received, answer_of, core_of, held_at, held_of, port_cause, sent_by, taken_of, turn_of}
use Rattle.machine_turns.specs.EndLaws.{waits-none}
use Rattle.machine_turns.specs.StepLaws.{After, Answer, absent, done-halts, ok-is, sends-nothing, sends-to, some-is, turned, waits-for, zeros}
use Rattle.world.specs.Seats.{SeatValue, leaf_of}
use Rattle.world.proofs.Stepping.{heard-out, hub-set}
use Rattle.world.specs.Stars.{Ends, Hub, IsHeard, IsHub, IsMoved, IsSendable, IsSound, ends_of, hub_of, is_move, nothing_received, sent_links, star}

-- Numbers are added, place by place, as far as there are both.
abbrev pub add : List ℕ → List ℕ → List ℕ
add [] us = []
add (t ∷ ts) [] = t ∷ ts
add (t ∷ ts) (u ∷ us) = (t + u) ∷ add ts us

add-none : (ts : List ℕ) (n : ℕ) → add ts (replicate n 0) ≡ ts
add-none [] n = refl
add-none (t ∷ ts) zero = refl
add-none (t ∷ ts) (suc n) = let same : t + 0 ≡ t = omega arith in λ i. same i ∷ add-none ts n i

add-one : (ts : List ℕ) (p size : ℕ)
    → set ts p (get_or ts p 0 + size) ≡ add ts (set (replicate (length ts) 0) p (get_or (replicate (length ts) 0) p 0 + size))
add-one [] p size = refl
add-one (t ∷ ts) zero size =
    let same : t + size ≡ t + (0 + size) = omega arith in
    let rest = sym (add-none ts (length ts)) in
    λ i. same i ∷ rest i
add-one (t ∷ ts) (suc p) size = let same : t ≡ t + 0 = omega arith in λ i. same i ∷ add-one ts p size i

-- What was taken of each port after a turn.
ports-add : (old new : List Received) (us : List ℕ) → length new ≡ length old
    → ((p : ℕ) → slice_get new p ≡ option_map (taken_of (get_or us p 0)) (slice_get old p))
    → ((p : ℕ) → get_or (add (map (λ (r : Received). r.taken) old) us) p 0 ≤ 18446744073709551615)
    → map (λ (r : Received). r.taken) new ≡ add (map (λ (r : Received). r.taken) old) us
ports-add [] [] us long each small = refl
ports-add [] (n ∷ new) us long each small = absurd (let e : suc (length new) ≡ 0 = long in omega arith)
ports-add (o ∷ old) [] us long each small = absurd (let e : 0 ≡ suc (length old) = long in omega arith)
ports-add (o ∷ old) (n ∷ new) [] long each small =
    let e : suc (length new) ≡ suc (length old) = long in
    let here = small 0 in
    let taken : n.taken ≡ counted (o.taken + 0) = ap (λ (r : Received). r.taken) (some-is n (taken_of 0 o) (each 0)) in
    let same : n.taken ≡ o.taken = omega (arith, here, taken) in
    let rest = ports-add old new [] (omega arith) (λ p. each (suc p)) (λ p. nothing (map (λ (r : Received). r.taken) old) p (small (suc p))) in
    λ i. same i ∷ (rest ∙ add-none (map (λ (r : Received). r.taken) old) 0) i
  where
    nothing : (ts : List ℕ) (p : ℕ) → get_or ts p 0 ≤ 18446744073709551615 → get_or (add ts []) p 0 ≤ 18446744073709551615
    nothing [] p is = is
    nothing (t ∷ ts) p is = is
ports-add (o ∷ old) (n ∷ new) (u ∷ us) long each small =
    let e : suc (length new) ≡ suc (length old) = long in
    let here = small 0 in
    let taken : n.taken ≡ counted (o.taken + u) = ap (λ (r : Received). r.taken) (some-is n (taken_of u o) (each 0)) in
    let same : n.taken ≡ o.taken + u = omega (arith, here, taken) in
    let rest = ports-add old new us (omega arith) (λ p. each (suc p)) (λ p. small (suc p)) in
    λ i. same i ∷ rest i

add-at : (ts us : List ℕ) (p : ℕ) → p < length ts → get_or (add ts us) p 0 ≡ get_or ts p 0 + get_or us p 0
add-at [] us p within = absurd (omega (arith, within))
add-at (t ∷ ts) [] p within = omega arith
add-at (t ∷ ts) (u ∷ us) zero within = refl
add-at (t ∷ ts) (u ∷ us) (suc p) within = add-at ts us p (omega (arith, within))

none-or : {A : Type 0} (xs : List A) (p : ℕ) (d : A) → slice_get xs p ≡ None → get_or xs p d ≡ d
none-or [] p d none = refl
none-or (x ∷ xs) zero d none = absurd (cc (none))
none-or (x ∷ xs) (suc p) d none = none-or xs p d none

get-within : {A : Type 0} (xs : List A) (p : ℕ) (x : A) → slice_get xs p ≡ Some x → p < length xs
get-within [] p x is = absurd (none-some x is)
get-within (y ∷ ys) zero x is = omega arith
get-within (y ∷ ys) (suc p) x is = let e = get-within ys p x is in omega (arith, e)

held-or : (ports : List Received) (p : ℕ) → held_of (slice_get ports p) ≡ (get_or ports p nothing_received).held
held-or [] p = refl
held-or (r ∷ ports) zero = refl
held-or (r ∷ ports) (suc p) = held-or ports p

abbrev pub lifted : {M : Type 0} → List ℕ → Option (After M) → Option (After M)
lifted ts None = None
lifted ts (Some r) = Some (record { core = r.0.core; taken = add ts r.0.taken }, r.1)

module _ {M S : Type 0} (k : MasterModel M) (d : DeviceModel S) (e : End M) (seats : List (SeatValue S))
    (is : IsHub e (map (λ (s : SeatValue S). s.link) seats)) where
  abbrev now : Ends M S
  now = ends_of e seats

  abbrev links : List Link
  links = map (λ (s : SeatValue S). s.link) seats

  abbrev taken : List ℕ
  taken = map (λ (r : Received). r.taken) e.ports

  abbrev fresh-hub : Hub M
  fresh-hub = fresh_hub (core_of e) (length e.ports)

  taken-at : (p : ℕ) → get_or taken p 0 ≡ (get_or e.ports p nothing_received).taken
  taken-at p = get_or-map (λ (r : Received). r.taken) e.ports p nothing_received

  -- The turn over the bytes held is that over all the bytes delivered.

  stands : (p : ℕ) → drop (get_or taken p 0) (hub_received now p) ≡ held_at e p
  stands p =
      ap (λ n. drop n (hub_received now p)) (taken-at p) ∙ sym (is.heard p).holds ∙ sym (held-or e.ports p)

  took-is : (p : ℕ) (m : Option (Decoded Cause × ℕ)) → first (held_at e p) ≡ m
      → hub_after_take (ends k d packet_codec) (hub_of e) p m
      ≡ lifted taken (hub_after_take (machine_alone k packet_codec) fresh-hub p m)
  took-is p None front = refl
  took-is p (Some m) front =
      let long = length-map e.ports (λ (r : Received). r.taken) in
      ap (λ ts. Some (record { core = (ends k d packet_codec).hub_take (core_of e) p m.0; taken = ts }, None))
      (add-one taken p m.1 ∙ ap (λ n. add taken (set (replicate n 0) p (get_or (replicate n 0) p 0 + m.1))) long)

  acted-is : (next : MachineEnd M Cause) (sends : Option (ℕ × Decoded Cause))
      → hub_turn_by (ends k d packet_codec) (hub_of e) (hub_received now) (HubActs next sends)
      ≡ lifted taken (hub_turn_by (machine_alone k packet_codec) fresh-hub (held_at e) (HubActs next sends))
  acted-is next None = ap (λ ts. Some (record { core = next; taken = ts }, None)) (sym (add-none taken (length e.ports)))
  acted-is next (Some m) =
      ap (λ ts. Some (record { core = next; taken = ts }, Some (m.0, (ends k d packet_codec).write m.1)))
      (sym (add-none taken (length e.ports)))

  turned-is : (o : HubOutlook (MachineEnd M Cause) (Decoded Cause))
      → hub_turn_by (ends k d packet_codec) (hub_of e) (hub_received now) o
      ≡ lifted taken (hub_turn_by (machine_alone k packet_codec) fresh-hub (held_at e) o)
  turned-is (HubActs next sends) = acted-is next sends
  turned-is (HubWaits p) =
      ap (λ b. hub_after_take (ends k d packet_codec) (hub_of e) p (first b)) (stands p)
      ∙ took-is p (first (held_at e p)) refl
      ∙ ap (λ n. lifted taken (hub_after_take (machine_alone k packet_codec) fresh-hub p (first (drop n (held_at e p)))))
      (sym (zeros (length e.ports) p))
  turned-is HubHalts = refl

  pub turn-is : (star k d).hub_turn now.hub (hub_received now) ≡ lifted taken (turn_of k e)
  turn-is = turned-is (machine_outlook k (core_of e))

  received-size : (p : ℕ) → length (hub_received now p) ≡ (link now p).back_delivered
  received-size p =
      let size = length-take (link now p).back_delivered (link now p).back in
      let fits = (is.heard p).fits in
      omega (arith, size, fits)

  -- no more is taken than was delivered
  within : (r : After M) → turn_of k e ≡ Some r → (p : ℕ) → get_or (add taken r.0.taken) p 0 ≤ (link now p).back_delivered
  within r at p =
      let most = (packet_cursors (ends k d packet_codec) codec-laws.decided (core_of e) 0 []).hub_within (hub_of e) (hub_received now)
      (record { core = r.0.core; taken = add taken r.0.taken }, r.1)
      (λ q. let size = received-size q in let few = (is.heard q).taken in let n = taken-at q in omega (arith, size, few, n))
      (turn-is ∙ ap (lifted taken) at) p in
      let size = received-size p in
      omega (arith, most, size)

  module _ (new : End M) (after : List ℕ) (answer : Answer) (fault : Option PortFault)
      (took : IsTurn k e new [] after answer fault) where
    taken-is : (r : After M) → turn_of k e ≡ Some r → Holds e new r.0.taken → new.kept ≡ None
        → map (λ (r : Received). r.taken) new.ports ≡ add taken r.0.taken
    taken-is r at holds clear =
        ports-add e.ports new.ports r.0.taken took.size (holds clear)
        (λ p. let most = within r at p in let small = (is.heard p).small in omega (arith, most, small))

    heard-after : (r : After M) → turn_of k e ≡ Some r → Holds e new r.0.taken → new.kept ≡ None → (p : ℕ)
        (o : Option Received) → slice_get e.ports p ≡ o → IsHeard (link now p) (get_or new.ports p nothing_received)
    heard-after r at holds clear p None here =
        subst (λ x. IsHeard (link now p) x)
        (none-or e.ports p nothing_received here ∙ sym (none-or new.ports p nothing_received
        (holds clear p ∙ ap (option_map (taken_of (get_or r.0.taken p 0))) here)))
        (is.heard p)
    heard-after r at holds clear p (Some x) here =
        let n = get_or r.0.taken p 0 in
        let old = subst (λ x. IsHeard (link now p) x) (get_or_from_slice_get e.ports p x nothing_received here) (is.heard p) in
        let there = get-within e.ports p x here in
        let long = length-map e.ports (λ (r : Received). r.taken) in
        let sum = add-at taken r.0.taken p (omega (arith, there, long)) in
        let was = taken-at p ∙ ap (λ (r : Received). r.taken) (get_or_from_slice_get e.ports p x nothing_received here) in
        let most = within r at p in
        let few : x.taken + n ≤ (link now p).back_delivered = omega (arith, sum, was, most) in
        let small = old.small in
        let count : counted (x.taken + n) ≡ x.taken + n = omega (arith, few, small) in
        subst (λ x. IsHeard (link now p) x)
        (sym (get_or_from_slice_get new.ports p (taken_of n x) nothing_received
        (holds clear p ∙ ap (option_map (taken_of n)) here))) (record {
          taken = omega (arith, count, few);
          small = old.small;
          fits = old.fits;
          holds = ap (drop n) old.holds ∙ drop-drop n x.taken (take (link now p).back_delivered (link now p).back)
              ∙ ap (λ i. drop i (take (link now p).back_delivered (link now p).back)) (sym count);
        })

    kept-by : (o : Option (After M)) → turn_of k e ≡ o → Goes o e new [] after → new.kept ≡ None → IsHub new links
    kept-by None at goes clear = subst (λ (x : End M). IsHub x links) (sym goes.0) is
    kept-by (Some r) at goes clear = record {
      clear = clear;
      size = took.size ∙ is.size;
      heard = λ p. heard-after r at goes.1 clear p (slice_get e.ports p) refl;
    }

    -- no fault is met

    faulty : (o : Option PortFault) (f : PortFault) → o ≡ Some f → option_map port_cause o ≡ None → ⊥
    faulty None f some none = absurd (cc (some))
    faulty (Some g) f some none = absurd (cc (none))

    fault-by : (f : PortFault) → new.kept ≡ Some f → (o : Option (After M)) → turn_of k e ≡ o → Goes o e new [] after
        → IsSound k d now → ⊥
    fault-by f keeps None at goes sound =
        let none : new.kept ≡ None = ap (λ (x : End M). x.kept) goes.0 ∙ is.clear in absurd (cc (none, keeps))
    fault-by f keeps (Some r) at goes sound =
        let none = sound.hub (record { core = r.0.core; taken = add taken r.0.taken }, r.1) (turn-is ∙ ap (lifted taken) at) in
        faulty new.kept f keeps (ap (λ (c : MachineEnd M Cause). c.fault) goes.0 ∙ none)

  pub no-fault : (new : End M) (after : List ℕ) (f : PortFault) → IsTurn k e new [] after (Err (port_cause f)) (Some f)
      → (w : Ends M S) → now ≡ w → IsSound k d w → ⊥
  no-fault new after f took w same sound =
      fault-by new after (Err (port_cause f)) (Some f) took f took.keeps (turn_of k e) refl took.goes
      (subst (λ (w : Ends M S). IsSound k d w) (sym same) sound)

  -- Whether the end moved is told by its answer.

  abbrev whole : ℕ → Option (Decoded Cause)
  whole p = option_map (λ r. r.0) (first (held_at e p))

  abbrev does : Act M Cause → Option (After M)
  does a = turned k fresh-hub (held_at e) a

  takes-some : (p : ℕ) (m : Option (Decoded Cause × ℕ)) (t : Turn)
      → answer_by k (core_of e) (λ q. option_map (λ r. r.0) m) (Awaits p) ≡ Some (Ok t) → is_move t ≡ true
      → hub_after_take (machine_alone k packet_codec) fresh-hub p m ≡ None → ⊥
  takes-some p None t answers moves none =
      absurd (cc (ap is_move (ok-is (turn.NotYet p) t (some-is _ _ answers)), moves))
  takes-some p (Some m) t answers moves none = absent _ none

  moves-some : (a : Act M Cause) (t : Turn) → answer_by k (core_of e) whole a ≡ Some (Ok t) → is_move t ≡ true
      → does a ≡ None → ⊥
  moves-some (Works next) t answers moves none = absent _ none
  moves-some (Sends p m next) t answers moves none = absent _ none
  moves-some (Awaits p) t answers moves none =
      takes-some p (first (held_at e p)) t answers moves
      (ap (λ n. hub_after_take (machine_alone k packet_codec) fresh-hub p (first (drop n (held_at e p)))) (sym (zeros (length e.ports) p))
      ∙ none)
  moves-some (Serves p next) t answers moves none = absent _ none
  moves-some (Marks next) t answers moves none = absent _ none
  moves-some Rests t answers moves none =
      absurd (cc (ap is_move (ok-is turn.Done t (some-is _ _ answers)), moves))
  moves-some (Fails p f) t answers moves none = absurd (cc (some-is _ _ answers))
  moves-some Lost t answers moves none = absurd (none-some (Ok t) answers)

  rests-none : (p : ℕ) → answer_of k e ≡ Some (Ok (turn.NotYet p)) → turn_of k e ≡ None
  rests-none p answers =
      let at = waits-for k (core_of e) whole (machine_acts k (core_of e)) p answers in
      ap does at.0
      ∙ ap (λ n. hub_after_take (machine_alone k packet_codec) fresh-hub p (first (drop n (held_at e p)))) (zeros (length e.ports) p)
      ∙ ap (hub_after_take (machine_alone k packet_codec) fresh-hub p) (waits-none k p e answers)

  done-none : answer_of k e ≡ Some (Ok turn.Done) → turn_of k e ≡ None
  done-none answers =
      ap (hub_turn_by (machine_alone k packet_codec) fresh-hub (held_at e))
      (done-halts k (core_of e) whole (machine_acts k (core_of e)) answers)

  still-none : (t : Turn) → is_move t ≡ false → answer_of k e ≡ Some (Ok t) → turn_of k e ≡ None
  still-none (turn.NotYet p) still answers = rests-none p answers
  still-none turn.Done still answers = done-none answers
  still-none (turn.Sent p) still answers = absurd (cc (still))
  still-none turn.Unit still answers = absurd (cc (still))
  still-none (turn.Took p) still answers = absurd (cc (still))
  still-none (turn.Served p) still answers = absurd (cc (still))
  still-none turn.Marked still answers = absurd (cc (still))

  -- What it sends comes to the link that its answer names.

  not-sent : (t : Turn) → ((q : ℕ) → t ≡ turn.Sent q → ⊥) → (r : After M) → answer_of k e ≡ Some (Ok t)
      → turn_of k e ≡ Some r → r.1 ≡ None
  not-sent t other r answers at =
      sends-nothing k fresh-hub (held_at e) (core_of e) whole (machine_acts k (core_of e)) (Ok t) r answers
      (λ q same. other q (ok-is t (turn.Sent q) same)) at

  module _ (new : End M) (after : List ℕ) where
    links-by : (t : Turn) (r : After M) → answer_of k e ≡ Some (Ok t) → turn_of k e ≡ Some r → after ≡ sent_by r.1
        → sent_links links t after ≡ links_with links r.1
    links-by (turn.Sent p) r answers at is =
        let s = sends-to k fresh-hub (held_at e) (core_of e) whole (machine_acts k (core_of e)) p r answers at in
        ap (λ b. sent_links links (turn.Sent p) b) (is ∙ ap (λ o. sent_by o) s.1) ∙ ap (links_with links) (sym s.1)
    links-by turn.Unit r answers at is = ap (links_with links) (sym (not-sent turn.Unit (λ q s. cc (s)) r answers at))
    links-by (turn.Took p) r answers at is = ap (links_with links) (sym (not-sent (turn.Took p) (λ q s. cc (s)) r answers at))
    links-by (turn.Served p) r answers at is = ap (links_with links) (sym (not-sent (turn.Served p) (λ q s. cc (s)) r answers at))
    links-by turn.Marked r answers at is = ap (links_with links) (sym (not-sent turn.Marked (λ q s. cc (s)) r answers at))
    links-by (turn.NotYet p) r answers at is = ap (links_with links) (sym (not-sent (turn.NotYet p) (λ q s. cc (s)) r answers at))
    links-by turn.Done r answers at is = ap (links_with links) (sym (not-sent turn.Done (λ q s. cc (s)) r answers at))

    module _ (t : Turn) (took : IsTurn k e new [] after (Ok t) None) where
      pub hub-kept : IsHub new links
      hub-kept = kept-by new after (Ok t) None took (turn_of k e) refl took.goes took.keeps

      moved-by : (b : Bool) → is_move t ≡ b → (o : Option (After M)) → turn_of k e ≡ o → Goes o e new [] after
          → (later : List (SeatValue S))
          → map (λ (s : SeatValue S). leaf_of s.end) later ≡ now.leaves
          → map (λ (s : SeatValue S). s.link) later ≡ sent_links links t after
          → IsMoved k d now (ends_of new later) HubTurn b
      moved-by true move None at goes later leaves sent =
          absurd (moves-some (machine_acts k (core_of e)) t took.answers move at)
      moved-by false move None at goes later leaves sent =
          let none = turn-is ∙ ap (lifted taken) at in
          record {
            new_is = (λ i. record { hub = hub_of (goes.0 i); leaves = leaves i; links = (sent ∙ quiet t move) i })
                ∙ sym (ap (after_hub_turn now) none);
            moved_is = sym (ap (λ (o : Option (After M)). is_some o) none);
          }
        where
          quiet : (t : Turn) → is_move t ≡ false → sent_links links t after ≡ links
          quiet (turn.NotYet p) still = refl
          quiet turn.Done still = refl
          quiet (turn.Sent p) still = absurd (cc (still))
          quiet turn.Unit still = refl
          quiet (turn.Took p) still = refl
          quiet (turn.Served p) still = refl
          quiet turn.Marked still = refl
      moved-by false move (Some r) at goes later leaves sent =
          absurd (absent r (sym at ∙ still-none t move took.answers))
      moved-by true move (Some r) at goes later leaves sent =
          let all = turn-is ∙ ap (lifted taken) at in
          let counts = taken-is new after (Ok t) None took r at goes.1 took.keeps in
          record {
            new_is = (λ i. record {
              hub = record { core = goes.0 i; taken = counts i };
              leaves = leaves i;
              links = (sent ∙ links-by t r took.answers at goes.2) i;
            })
                ∙ sym (ap (after_hub_turn now) all);
            moved_is = sym (ap (λ (o : Option (After M)). is_some o) all);
          }

      pub hub-moves : (later : List (SeatValue S))
          → map (λ (s : SeatValue S). leaf_of s.end) later ≡ now.leaves
          → map (λ (s : SeatValue S). s.link) later ≡ sent_links links t after → (w : Ends M S) → now ≡ w
          → IsMoved k d w (ends_of new later) HubTurn (is_move t)
      hub-moves later leaves sent w same =
          subst (λ (w : Ends M S). IsMoved k d w (ends_of new later) HubTurn (is_move t)) same
          (moved-by (is_move t) refl (turn_of k e) refl took.goes later leaves sent)

  pub sendable : (after : List ℕ) (t : Turn) → IsAtFront e (Ok t) → length after ≤ 4176
      → IsSendable (length seats) t after
  sendable after (turn.Sent p) front few =
      let size = is.size in
      let long = length-map seats (λ (s : SeatValue S). s.link) in
      (omega (arith, front, size, long), few)
  sendable after turn.Unit front few = tt
  sendable after (turn.Took p) front few = tt
  sendable after (turn.Served p) front few = tt
  sendable after turn.Marked front few = tt
  sendable after (turn.NotYet p) front few = tt
  sendable after turn.Done front few = tt

-- What crosses the calls round a turn: room was made before, and then the bytes are appended.
module _ {M S : Type 0} (k : MasterModel M) (d : DeviceModel S) (e new : End M) (seats roomy later : List (SeatValue S))
    (is : IsHub e (map (λ (s : SeatValue S). s.link) seats)) (before after piece : List ℕ) (cleared : before ≡ [])
    (piece_is : piece ≡ after)
    (room_leaves : map (λ (s : SeatValue S). leaf_of s.end) roomy ≡ map (λ (s : SeatValue S). leaf_of s.end) seats)
    (room_links : map (λ (s : SeatValue S). s.link) roomy ≡ map (λ (s : SeatValue S). s.link) seats) (w : Ends M S)
    (same : ends_of e seats ≡ w) where
  from-empty : (a : Answer) (f : Option PortFault) → IsTurn k e new before after a f → IsTurn k e new [] after a f
  from-empty a f took = subst (λ b. IsTurn k e new b after a f) cleared took

  pub never-faulty : (f : PortFault) → IsTurn k e new before after (Err (port_cause f)) (Some f) → IsSound k d w → ⊥
  never-faulty f took sound = no-fault k d e seats is new after f (from-empty _ _ took) w same sound

  module _ (t : Turn) (took : IsTurn k e new before after (Ok t) None) where
    pub has-room-for : (e.kept ≡ None → IsAtFront e (Ok t)) → length after ≤ length before + 4176
        → IsSendable (length roomy) t piece
    has-room-for front few =
        let none = ap length cleared in
        subst (λ b. IsSendable (length roomy) t b) (sym piece_is)
        (subst (λ n. IsSendable n t after) (sym long)
        (sendable k d e seats is after t (front is.clear) (omega (arith, none, few))))
      where
        long : length roomy ≡ length seats
        long =
            sym (length-map roomy (λ (s : SeatValue S). s.link)) ∙ ap length room_links
            ∙ length-map seats (λ (s : SeatValue S). s.link)

    module _ (sent_leaves : map (λ (s : SeatValue S). leaf_of s.end) later ≡ map (λ (s : SeatValue S). leaf_of s.end) roomy)
        (sent_on : map (λ (s : SeatValue S). s.link) later ≡ sent_links (map (λ (s : SeatValue S). s.link) roomy) t piece) where
      all_links : map (λ (s : SeatValue S). s.link) later ≡ sent_links (map (λ (s : SeatValue S). s.link) seats) t after
      all_links =
          sent_on ∙ ap (λ ks. sent_links ks t piece) room_links
          ∙ ap (sent_links (map (λ (s : SeatValue S). s.link) seats) t) piece_is

      sent-kept : (t : Turn) → IsHub new (map (λ (s : SeatValue S). s.link) seats)
          → IsHub new (sent_links (map (λ (s : SeatValue S). s.link) seats) t after)
      sent-kept (turn.Sent p) hub =
          let links = map (λ (s : SeatValue S). s.link) seats in
          let k = get_or links p new_link in
          hub-set new links p k (record k { out = k.out ++ after }) refl
          (λ r heard. heard-out k (k.out ++ after) k.out_delivered r heard) hub
      sent-kept turn.Unit hub = hub
      sent-kept (turn.Took p) hub = hub
      sent-kept (turn.Served p) hub = hub
      sent-kept turn.Marked hub = hub
      sent-kept (turn.NotYet p) hub = hub
      sent-kept turn.Done hub = hub

      pub turn-keeps : IsHub new (map (λ (s : SeatValue S). s.link) later)
      turn-keeps =
          subst (λ ks. IsHub new ks) (sym all_links)
          (sent-kept t (hub-kept k d e seats is new after t (from-empty _ _ took)))

      pub turn-moves : IsMoved k d w (ends_of new later) HubTurn (is_move t)
      turn-moves =
          hub-moves k d e seats is new after t (from-empty _ _ took) later (sent_leaves ∙ room_leaves) all_links w same
