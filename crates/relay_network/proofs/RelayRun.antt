-- A run of packets with relays ends as the run without them, and every schedule of bytes with relays ends there.
use Rattle.std.proofs.Common.{◌≡◌, ℕ, zero, suc, ◌+◌, ◌≤◌, ⊎_elim, List, [], ◌∷◌, ◌++◌, length, drop, set, map, replicate, Option, Some, None, slice_get, option_map, refl, sym, ap, ◌∙◌, subst, arith, append-nil, length-append}
use Rattle.std.proofs.lemmas.List.{map-set, length-map}
use Rattle.std.proofs.lemmas.Option.{none-some, same_Some, slice_get-map}
use Rattle.process_network.specs.Network.{Step, start, effective_steps}
use Rattle.process_network.specs.PacketProcesses.{IsDecided}
use Rattle.process_network.specs.CalmRun.{Move, traffic_at, traffic_bytes, one_if_some}
use Rattle.process_network.specs.CalmRun.Move.{HubMoves, LeafMoves}
use Rattle.process_network.specs.PacketStar.{HubOutlook, LeafOutlook, Ends, written, HubEnd, LeafEnd, hub_turn_by, leaf_after_take, leaf_turn_by, PacketLink, PacketWorld, with_packet, hub_takes, hub_waits_on, hub_packet_move, leaf_takes, leaf_packet_move, packet_move_at, packets_after, packets_all, packets_start, link_leaf, link_traffic, link_taken, in_bytes, fresh_link, fresh_hub, fresh_leaf, IsOver, with_sent, with_leaf, with_taken, waiting_count, back_count, hub_count, leaf_count, leaf_count_at, one_packet_move, packet_turns}
use Rattle.process_network.specs.PacketStar.HubOutlook.{HubActs, HubWaits, HubHalts}
use Rattle.process_network.specs.PacketStar.LeafOutlook.{LeafActs, LeafWaits, LeafHalts}
use Rattle.relay_network.specs.RelayStar.{RelayPort, RelayCalm, RelayMove, field_of, hub_turn_now, relay_turn_now, leaf_turn_now, relay_calm_after, relay_calm_all, new_port, relay_calm_start, IsRelayAtRest, one_relay_move, relay_moves_taken, relay_bytes, relay_network, IsRelayResult}
use Rattle.relay_network.specs.RelayStar.RelayMove.{MoveHub, MoveRelay, MoveLeaf}
use Rattle.relay_network.specs.RelayPackets.{RelayOutlook, Relays, RelayEnd, relay_takes_hub, relay_takes_leaf, relay_turn_by, relay_star_of, fresh_relay, RelayedWorld, relayed_sent, relayed_takes, relayed_waits, relayed_hub, relayed_gets, relayed_leaf, relayed_leaf_at, relayed_after, relayed_all, relayed_start, AllPass, without_relays, port_in_bytes, relays_in_bytes, moves_of_send, moves_of_take, moves_of_wait, moves_of_hub, moves_of_get, moves_of_leaf, moves_of_leaf_at, moves_of, relayed_moves, passed_count, packet_count, IsSameEnd}
use Rattle.relay_network.specs.RelayPackets.RelayOutlook.{AwaitsHub, AwaitsLeaf, RelayHalts}
use Rattle.process_network.proofs.Sums.{sum_same}
use Rattle.process_network.proofs.StarTheorem.{sum_add}
use Rattle.process_network.proofs.PacketRuns.{none_is, mapped_get}
use Rattle.relay_network.proofs.RelayPackets.{relays_monotone, relayed_in_bytes}
use Rattle.relay_network.proofs.RelayTheorem.{every_relay_schedule}

module _ {H R L P : Type 0} (e : Ends H L P) (k : Relays R P) where
  abbrev pub link_of : PacketLink L P × R → PacketLink L P
  link_of q = q.0

  -- The run without its relays is the run of packets.

  without_hub : (f : RelayedWorld H R L P) (v : HubOutlook H P) → without_relays (relayed_hub e k f v) ≡ hub_packet_move e (without_relays f) v
  without_hub f (HubActs next None) = refl
  without_hub f (HubActs next (Some m)) = go (slice_get f.links m.0) refl
    where
      go : (o : Option (PacketLink L P × R)) → slice_get f.links m.0 ≡ o → ◌≡◌ {A = PacketWorld H L P} (record { hub = next; links = map link_of (relayed_sent k f.links m.0 m.1 o) }) (record { hub = next; links = with_packet (map link_of f.links) m.0 m.1 (slice_get (map link_of f.links) m.0) })
      go None s = ap (λ (o : Option (PacketLink L P)). record { hub = next; links = with_packet (map link_of f.links) m.0 m.1 o }) (sym (slice_get-map link_of f.links m.0 ∙ ap (option_map link_of) s))
      go (Some q) s =
          (λ d. record { hub = next; links = map-set link_of f.links m.0 (with_sent q.0 m.1, (k.take q.1 m.1).0) d })
          ∙ ap (λ (o : Option (PacketLink L P)). record { hub = next; links = with_packet (map link_of f.links) m.0 m.1 o }) (sym (mapped_get link_of f.links m.0 q s))
  without_hub f (HubWaits p) = go (slice_get f.links p) refl
    where
      takes : (q : PacketLink L P × R) (ms : List P) → without_relays (relayed_takes e k f p q ms) ≡ hub_takes e (without_relays f) p q.0 ms
      takes q [] = refl
      takes q (m ∷ rest) = λ d. record { hub = e.hub_take f.hub p m; links = map-set link_of f.links p (with_taken q.0 m rest, (k.take q.1 m).0) d }

      go : (o : Option (PacketLink L P × R)) → slice_get f.links p ≡ o → without_relays (relayed_waits e k f p o) ≡ hub_waits_on e (without_relays f) p (slice_get (map link_of f.links) p)
      go None s = ap (hub_waits_on e (without_relays f) p) (sym (slice_get-map link_of f.links p ∙ ap (option_map link_of) s))
      go (Some q) s = takes q q.0.back_waiting ∙ ap (hub_waits_on e (without_relays f) p) (sym (mapped_get link_of f.links p q s))
  without_hub f HubHalts = refl

  without_after : (f : RelayedWorld H R L P) (m : Move) → without_relays (relayed_after e k f m) ≡ packets_after e (without_relays f) m
  without_after f HubMoves = without_hub f (e.hub_outlook f.hub)
  without_after f (LeafMoves p) = go (slice_get f.links p) refl
    where
      gets : (q : PacketLink L P × R) (ms : List P) → without_relays (relayed_gets e f p q ms) ≡ leaf_takes e (without_relays f) p q.0 ms
      gets q [] = refl
      gets q (m ∷ rest) = λ d. record { hub = f.hub; links = map-set link_of f.links p (with_leaf q.0 m rest (e.leaf_take q.0.leaf m), q.1) d }

      leaf : (q : PacketLink L P × R) (v : LeafOutlook L P) → without_relays (relayed_leaf e f p q v) ≡ leaf_packet_move e (without_relays f) p q.0 v
      leaf q (LeafActs next sends) = λ d. record { hub = f.hub; links = map-set link_of f.links p (record (q.0) { leaf = next; back_waiting = q.0.back_waiting ++ sends }, q.1) d }
      leaf q LeafWaits = gets q q.0.out_waiting
      leaf q LeafHalts = refl

      go : (o : Option (PacketLink L P × R)) → slice_get f.links p ≡ o → without_relays (relayed_leaf_at e f p o) ≡ packet_move_at e (without_relays f) p (slice_get (map link_of f.links) p)
      go None s = ap (packet_move_at e (without_relays f) p) (sym (slice_get-map link_of f.links p ∙ ap (option_map link_of) s))
      go (Some q) s = leaf q (e.leaf_outlook q.0.leaf) ∙ ap (packet_move_at e (without_relays f) p) (sym (mapped_get link_of f.links p q s))

  pub without_all : (f : RelayedWorld H R L P) (ms : List Move) → without_relays (relayed_all e k f ms) ≡ packets_all e (without_relays f) ms
  without_all f [] = refl
  without_all f (m ∷ ms) = without_all (relayed_after e k f m) ms ∙ ap (λ c. packets_all e c ms) (without_after f m)

  pub without_start : (hub : H) (relay : R) (leaves : List L) → ◌≡◌ {A = PacketWorld H L P} (without_relays {H = H} {R = R} {L = L} {P = P} (relayed_start hub relay leaves)) (packets_start hub leaves)
  without_start hub relay leaves = λ d. record { hub = hub; links = links leaves d }
    where
      links : (ls : List L) → map link_of (map (λ l. (fresh_link l, relay)) ls) ≡ map fresh_link ls
      links [] = refl
      links (l ∷ ls) = ap (λ t. fresh_link l ∷ t) (links ls)

  start_in_bytes : (hub : H) (relay : R) (leaves : List L) → relay_calm_start (fresh_hub hub (length leaves)) (fresh_relay relay) (map fresh_leaf leaves) ≡ relays_in_bytes e (relayed_start hub relay leaves)
  start_in_bytes hub relay leaves = λ d. record { hub = record { core = hub; taken = zeros leaves d }; ports = ports leaves d }
    where
      zeros : (ls : List L) → replicate (length ls) 0 ≡ map (λ (q : PacketLink L P × R). link_taken e q.0) (map (λ l. (fresh_link l, relay)) ls)
      zeros [] = refl
      zeros (l ∷ ls) = ap (λ t. 0 ∷ t) (zeros ls)

      ports : (ls : List L) → map (new_port (fresh_relay relay)) (map fresh_leaf ls) ≡ map (port_in_bytes e) (map (λ l. (fresh_link l, relay)) ls)
      ports [] = refl
      ports (l ∷ ls) = ap (λ t. new_port (fresh_relay relay) (fresh_leaf l) ∷ t) (ports ls)

  -- What is sent on each queue at the end.

  same_end : (f : RelayedWorld H R L P) → IsOver e (without_relays f) → IsSameEnd (relays_in_bytes e f) (in_bytes e (without_relays f))
  same_end f over = record {
    hub = λ d. record { core = f.hub; taken = taken f.links d };
    leaf = leaf f.links;
    hub_relay = out f.links;
    relay_leaf = out' f.links;
    leaf_relay = back f.links;
    relay_hub = λ p. passed p (slice_get f.links p) refl;
  }
    where
      taken : (qs : List (PacketLink L P × R)) → map (λ (q : PacketLink L P × R). link_taken e q.0) qs ≡ map (link_taken e) (map link_of qs)
      taken [] = refl
      taken (q ∷ qs) = ap (λ t. link_taken e q.0 ∷ t) (taken qs)

      leaf : (qs : List (PacketLink L P × R)) (p : ℕ) → field_of (λ (q : RelayPort (RelayEnd R) (LeafEnd L)). Some q.leaf) None (slice_get (map (port_in_bytes e) qs) p) ≡ slice_get (map (link_leaf e) (map link_of qs)) p
      leaf [] p = refl
      leaf (q ∷ qs) zero = refl
      leaf (q ∷ qs) (suc p) = leaf qs p

      out : (qs : List (PacketLink L P × R)) (p : ℕ) → field_of (λ (q : RelayPort (RelayEnd R) (LeafEnd L)). q.hub_relay) [] (slice_get (map (port_in_bytes e) qs) p) ≡ (traffic_at (map (link_traffic e) (map link_of qs)) p).0
      out [] p = refl
      out (q ∷ qs) zero = refl
      out (q ∷ qs) (suc p) = out qs p

      out' : (qs : List (PacketLink L P × R)) (p : ℕ) → field_of (λ (q : RelayPort (RelayEnd R) (LeafEnd L)). q.relay_leaf) [] (slice_get (map (port_in_bytes e) qs) p) ≡ (traffic_at (map (link_traffic e) (map link_of qs)) p).0
      out' [] p = refl
      out' (q ∷ qs) zero = refl
      out' (q ∷ qs) (suc p) = out' qs p

      back : (qs : List (PacketLink L P × R)) (p : ℕ) → field_of (λ (q : RelayPort (RelayEnd R) (LeafEnd L)). q.leaf_relay) [] (slice_get (map (port_in_bytes e) qs) p) ≡ (traffic_at (map (link_traffic e) (map link_of qs)) p).1
      back [] p = refl
      back (q ∷ qs) zero = refl
      back (q ∷ qs) (suc p) = back qs p

      passed : (p : ℕ) (o : Option (PacketLink L P × R)) → slice_get f.links p ≡ o → field_of (λ (q : RelayPort (RelayEnd R) (LeafEnd L)). q.relay_hub) [] (slice_get (map (port_in_bytes e) f.links) p) ≡ (traffic_at (map (link_traffic e) (map link_of f.links)) p).1
      passed p None s =
          ap (field_of (λ (q : RelayPort (RelayEnd R) (LeafEnd L)). q.relay_hub) []) (slice_get-map (port_in_bytes e) f.links p ∙ ap (option_map (port_in_bytes e)) s)
          ∙ sym (ap (field_of (λ (q : RelayPort (RelayEnd R) (LeafEnd L)). q.leaf_relay) []) (slice_get-map (port_in_bytes e) f.links p ∙ ap (option_map (port_in_bytes e)) s))
          ∙ back f.links p
      passed p (Some q) s =
          ap (field_of (λ (q : RelayPort (RelayEnd R) (LeafEnd L)). q.relay_hub) []) (mapped_get (port_in_bytes e) f.links p q s)
          ∙ ap (written e.write) (sym (append-nil q.0.back_taken) ∙ ap (λ (ms : List P). q.0.back_taken ++ ms) (sym (over.back p q.0 (mapped_get link_of f.links p q s))))
          ∙ sym (ap (field_of (λ (q : RelayPort (RelayEnd R) (LeafEnd L)). q.leaf_relay) []) (mapped_get (port_in_bytes e) f.links p q s))
          ∙ back f.links p

  module _ (decided : IsDecided e.first) where
    -- Where the run is over, nothing can move.
    pub rests : (f : RelayedWorld H R L P) → IsOver e (without_relays f) → IsRelayAtRest (relay_star_of e k) (relays_in_bytes e f)
    rests f over = record {
      hub = ap (hub_turn_by e (relays_in_bytes e f).hub (λ p. field_of (λ q. q.relay_hub) [] (slice_get (relays_in_bytes e f).ports p))) over.hub;
      relay = λ p q s. at (λ q. relay_turn_now (relay_star_of e k) q ≡ None) p (slice_get f.links p) refl q s relay_stops;
      leaf = λ p q s. at (λ q. leaf_turn_now (relay_star_of e k) q ≡ None) p (slice_get f.links p) refl q s leaf_stops;
    }
      where
        at : (T : RelayPort (RelayEnd R) (LeafEnd L) → Type 0) (p : ℕ) (o : Option (PacketLink L P × R)) → slice_get f.links p ≡ o → (q : RelayPort (RelayEnd R) (LeafEnd L)) → slice_get (map (port_in_bytes e) f.links) p ≡ Some q → ((p : ℕ) (t : PacketLink L P × R) → slice_get f.links p ≡ Some t → T (port_in_bytes e t)) → T q
        at T p None s q g all = absurd (none-some q (sym (slice_get-map (port_in_bytes e) f.links p ∙ ap (option_map (port_in_bytes e)) s) ∙ g))
        at T p (Some t) s q g all = subst T (same_Some (port_in_bytes e t) q (sym (mapped_get (port_in_bytes e) f.links p t s) ∙ g)) (all p t s)

        relay_stops : (p : ℕ) (t : PacketLink L P × R) → slice_get f.links p ≡ Some t → relay_turn_now (relay_star_of e k) (port_in_bytes e t) ≡ None
        relay_stops p t s = go (k.outlook t.1)
          where
            go : (v : RelayOutlook) → relay_turn_by e k (port_in_bytes e t).relay (port_in_bytes {H = H} e t).hub_relay (port_in_bytes e t).leaf_relay v ≡ None
            go AwaitsHub = ap (relay_takes_hub e k (port_in_bytes e t).relay) (ap (λ (xs : List P). e.first (drop (length (written e.write (t.0.out_taken ++ t.0.out_waiting))) (written e.write xs))) (sym (append-nil (t.0.out_taken ++ t.0.out_waiting))) ∙ none_is e decided (t.0.out_taken ++ t.0.out_waiting))
            go AwaitsLeaf = ap (relay_takes_leaf e k (port_in_bytes e t).relay) (ap (λ (xs : List P). e.first (drop (length (written e.write t.0.back_taken)) (written e.write (t.0.back_taken ++ xs)))) (over.back p t.0 (mapped_get link_of f.links p t s)) ∙ none_is e decided t.0.back_taken)
            go RelayHalts = refl

        leaf_stops : (p : ℕ) (t : PacketLink L P × R) → slice_get f.links p ≡ Some t → leaf_turn_now (relay_star_of e k) (port_in_bytes e t) ≡ None
        leaf_stops p t s = ⊎_elim
            (λ w. ap (leaf_turn_by e (link_leaf e t.0) (written e.write (t.0.out_taken ++ t.0.out_waiting))) w
            ∙ ap (leaf_after_take e (link_leaf e t.0)) (ap (λ (xs : List P). e.first (drop (length (written e.write t.0.out_taken)) (written e.write (t.0.out_taken ++ xs)))) (over.out p t.0 (mapped_get link_of f.links p t s)) ∙ none_is e decided t.0.out_taken))
            (λ w. ap (leaf_turn_by e (link_leaf e t.0) (written e.write (t.0.out_taken ++ t.0.out_waiting))) w)
            (over.leaf p t.0 (mapped_get link_of f.links p t s))

  -- How many moves the run with relays has.

  at_most_one : {A : Type 0} (r : Option A) → one_if_some r ≤ 1
  at_most_one None = omega arith
  at_most_one (Some r) = omega arith

  one_at_most : (c : RelayCalm (HubEnd H) (RelayEnd R) (LeafEnd L)) (m : RelayMove) → one_relay_move (relay_star_of e k) c m ≤ 1
  one_at_most c MoveHub = at_most_one (hub_turn_now (relay_star_of e k) c)
  one_at_most c (MoveRelay p) = go (slice_get c.ports p)
    where
      go : (o : Option (RelayPort (RelayEnd R) (LeafEnd L))) → field_of (λ q. one_if_some (relay_turn_now (relay_star_of e k) q)) 0 o ≤ 1
      go None = omega arith
      go (Some q) = at_most_one (relay_turn_now (relay_star_of e k) q)
  one_at_most c (MoveLeaf p) = go (slice_get c.ports p)
    where
      go : (o : Option (RelayPort (RelayEnd R) (LeafEnd L))) → field_of (λ q. one_if_some (leaf_turn_now (relay_star_of e k) q)) 0 o ≤ 1
      go None = omega arith
      go (Some q) = at_most_one (leaf_turn_now (relay_star_of e k) q)

  taken_at_most : (c : RelayCalm (HubEnd H) (RelayEnd R) (LeafEnd L)) (ms : List RelayMove) → relay_moves_taken (relay_star_of e k) c ms ≤ length ms
  taken_at_most c [] = omega arith
  taken_at_most c (m ∷ ms) = let a = one_at_most c m in let b = taken_at_most (relay_calm_after (relay_star_of e k) c m) ms in omega arith

  -- A change at p of what the hub has sent or taken there.
  passed_set : (qs : List (PacketLink L P × R)) (p : ℕ) (q q' : PacketLink L P × R) (more : ℕ) → slice_get qs p ≡ Some q → length q'.0.out_taken + length q'.0.out_waiting + length q'.0.back_taken ≡ length q.0.out_taken + length q.0.out_waiting + length q.0.back_taken + more → passed_count (set qs p q') ≡ passed_count qs + more
  passed_set [] p q q' more s same = absurd (none-some q s)
  passed_set (x ∷ qs) zero q q' more s same =
      let e : length x.0.out_taken + length x.0.out_waiting + length x.0.back_taken ≡ length q.0.out_taken + length q.0.out_waiting + length q.0.back_taken = ap (λ (q : PacketLink L P × R). length q.0.out_taken + length q.0.out_waiting + length q.0.back_taken) (same_Some x q s) in
      omega arith
  passed_set (x ∷ qs) (suc p) q q' more s same = let ih = passed_set qs p q q' more s same in omega arith

  after_one : (xs : List P) (m : P) → length (xs ++ m ∷ []) ≡ suc (length xs)
  after_one xs m = let l = length-append xs (m ∷ []) in omega arith

  hub_count_on : (f : RelayedWorld H R L P) (v : HubOutlook H P) → length (moves_of_hub f v) + passed_count f.links ≤ hub_count (without_relays f) v + passed_count (relayed_hub e k f v).links
  hub_count_on f (HubActs next None) = omega arith
  hub_count_on f (HubActs next (Some m)) = go (slice_get f.links m.0) refl
    where
      go : (o : Option (PacketLink L P × R)) → slice_get f.links m.0 ≡ o → length (moves_of_send m.0 o) + passed_count f.links ≤ 1 + passed_count (relayed_sent k f.links m.0 m.1 o)
      go None s = omega arith
      go (Some q) s =
          let l = after_one q.0.out_waiting m.1 in
          let more : passed_count (set f.links m.0 (with_sent q.0 m.1, (k.take q.1 m.1).0)) ≡ passed_count f.links + 1 = passed_set f.links m.0 q (with_sent q.0 m.1, (k.take q.1 m.1).0) 1 s (omega arith) in
          omega arith
  hub_count_on f (HubWaits p) = go (slice_get f.links p) refl
    where
      takes : (q : PacketLink L P × R) → slice_get f.links p ≡ Some q → (ms : List P) → length (moves_of_take p ms) + passed_count f.links ≤ waiting_count ms + passed_count (relayed_takes e k f p q ms).links
      takes q s [] = omega arith
      takes q s (m ∷ rest) =
          let l = after_one q.0.back_taken m in
          let more : passed_count (set f.links p (with_taken q.0 m rest, (k.take q.1 m).0)) ≡ passed_count f.links + 1 = passed_set f.links p q (with_taken q.0 m rest, (k.take q.1 m).0) 1 s (omega arith) in
          omega arith

      go : (o : Option (PacketLink L P × R)) → slice_get f.links p ≡ o → length (moves_of_wait p o) + passed_count f.links ≤ back_count (slice_get (map link_of f.links) p) + passed_count (relayed_waits e k f p o).links
      go None s = omega arith
      go (Some q) s = subst (λ (o : Option (PacketLink L P)). length (moves_of_take p q.0.back_waiting) + passed_count f.links ≤ back_count o + passed_count (relayed_takes e k f p q q.0.back_waiting).links) (sym (mapped_get link_of f.links p q s)) (takes q s q.0.back_waiting)
  hub_count_on f HubHalts = omega arith

  leaf_count_on : (f : RelayedWorld H R L P) (p : ℕ) (q : PacketLink L P × R) → slice_get f.links p ≡ Some q → (v : LeafOutlook L P) → length (moves_of_leaf p q.0 v) + passed_count f.links ≤ leaf_count q.0 v + passed_count (relayed_leaf e f p q v).links
  leaf_count_on f p q s (LeafActs next sends) =
      let same : passed_count (set f.links p (record (q.0) { leaf = next; back_waiting = q.0.back_waiting ++ sends }, q.1)) ≡ passed_count f.links + 0 = passed_set f.links p q (record (q.0) { leaf = next; back_waiting = q.0.back_waiting ++ sends }, q.1) 0 s (omega arith) in
      omega arith
  leaf_count_on f p q s LeafWaits = gets q.0.out_waiting refl
    where
      gets : (ms : List P) → q.0.out_waiting ≡ ms → length (moves_of_get p ms) + passed_count f.links ≤ waiting_count ms + passed_count (relayed_gets e f p q ms).links
      gets [] b = omega arith
      gets (m ∷ rest) b =
          let l = after_one q.0.out_taken m in
          let n : length q.0.out_waiting ≡ suc (length rest) = ap length b in
          let same : passed_count (set f.links p (with_leaf q.0 m rest (e.leaf_take q.0.leaf m), q.1)) ≡ passed_count f.links + 0 = passed_set f.links p q (with_leaf q.0 m rest (e.leaf_take q.0.leaf m), q.1) 0 s (omega arith) in
          omega arith
  leaf_count_on f p q s LeafHalts = omega arith

  move_count : (f : RelayedWorld H R L P) (m : Move) → length (moves_of e f m) + passed_count f.links ≤ one_packet_move e (without_relays f) m + passed_count (relayed_after e k f m).links
  move_count f HubMoves = hub_count_on f (e.hub_outlook f.hub)
  move_count f (LeafMoves p) = go (slice_get f.links p) refl
    where
      go : (o : Option (PacketLink L P × R)) → slice_get f.links p ≡ o → length (moves_of_leaf_at e p o) + passed_count f.links ≤ leaf_count_at e (slice_get (map link_of f.links) p) + passed_count (relayed_leaf_at e f p o).links
      go None s = omega arith
      go (Some q) s = subst (λ (o : Option (PacketLink L P)). length (moves_of_leaf p q.0 (e.leaf_outlook q.0.leaf)) + passed_count f.links ≤ leaf_count_at e o + passed_count (relayed_leaf e f p q (e.leaf_outlook q.0.leaf)).links) (sym (mapped_get link_of f.links p q s)) (leaf_count_on f p q s (e.leaf_outlook q.0.leaf))

  moves_count : (f : RelayedWorld H R L P) (ms : List Move) → length (relayed_moves e k f ms) + passed_count f.links ≤ packet_turns e (without_relays f) ms + passed_count (relayed_all e k f ms).links
  moves_count f [] = omega arith
  moves_count f (m ∷ ms) =
      let one = move_count f m in
      let rest : length (relayed_moves e k (relayed_after e k f m) ms) + passed_count (relayed_after e k f m).links ≤ packet_turns e (packets_after e (without_relays f) m) ms + passed_count (relayed_all e k (relayed_after e k f m) ms).links = subst (λ c. length (relayed_moves e k (relayed_after e k f m) ms) + passed_count (relayed_after e k f m).links ≤ packet_turns e c ms + passed_count (relayed_all e k (relayed_after e k f m) ms).links) (without_after f m) (moves_count (relayed_after e k f m) ms) in
      let both = length-append (moves_of e f m) (relayed_moves e k (relayed_after e k f m) ms) in
      omega arith

  passed_all : (qs : List (PacketLink L P × R)) → passed_count qs ≤ packet_count (map link_of qs)
  passed_all [] = omega arith
  passed_all (q ∷ qs) = let ih = passed_all qs in omega arith

  none_passed : (relay : R) (ls : List L) → passed_count (map (λ l. (fresh_link {P = P} l, relay)) ls) ≡ 0
  none_passed relay [] = refl
  none_passed relay (l ∷ ls) = let ih = none_passed relay ls in omega arith

-- The theorem on every schedule with relays, from a run of packets.
module _ {H R L P : Type 0} (e : Ends H L P) (decided : IsDecided e.first) (k : Relays R P) (hub : H) (relay : R) (leaves : List L) (moves : List Move) (pass : AllPass e k (relayed_start hub relay leaves) moves) (over : IsOver e (packets_all e (packets_start hub leaves) moves)) where
  abbrev pub begin : RelayedWorld H R L P
  begin = relayed_start hub relay leaves

  abbrev pub end : RelayedWorld H R L P
  end = relayed_all e k begin moves

  abbrev pub first_calm : RelayCalm (HubEnd H) (RelayEnd R) (LeafEnd L)
  first_calm = relay_calm_start (fresh_hub hub (length leaves)) (fresh_relay relay) (map fresh_leaf leaves)

  pub without_end : without_relays end ≡ packets_all e (packets_start hub leaves) moves
  without_end = without_all e k begin moves ∙ ap (λ c. packets_all e c moves) (without_start e k hub relay leaves)

  pub over_end : IsOver e (without_relays end)
  over_end = subst (λ c. IsOver e c) (sym without_end) over

  pub calm_ends : relay_calm_all (relay_star_of e k) first_calm (relayed_moves e k begin moves) ≡ relays_in_bytes e end
  calm_ends = ap (λ c. relay_calm_all (relay_star_of e k) c (relayed_moves e k begin moves)) (start_in_bytes e k hub relay leaves) ∙ relayed_in_bytes e decided k begin moves pass

  pub every_relayed_run : IsRelayResult (relay_star_of e k) (fresh_hub hub (length leaves)) (fresh_relay relay) (map fresh_leaf leaves) (relayed_moves e k begin moves) (relays_in_bytes e end)
  every_relayed_run = subst (λ c. IsRelayResult (relay_star_of e k) (fresh_hub hub (length leaves)) (fresh_relay relay) (map fresh_leaf leaves) (relayed_moves e k begin moves) c) calm_ends
      (every_relay_schedule (relay_star_of e k) (relays_monotone e k decided) (fresh_hub hub (length leaves)) (fresh_relay relay) (map fresh_leaf leaves) (relayed_moves e k begin moves)
      (subst (λ c. IsRelayAtRest (relay_star_of e k) c) (sym calm_ends) (rests e k decided end over_end)))

  pub relayed_end : IsSameEnd (relays_in_bytes e end) (in_bytes e (packets_all e (packets_start hub leaves) moves))
  relayed_end = subst (λ c. IsSameEnd (relays_in_bytes e end) (in_bytes e c)) without_end (same_end e k end over_end)

  moves_within : relay_moves_taken (relay_star_of e k) first_calm (relayed_moves e k begin moves) ≤ packet_turns e (packets_start hub leaves) moves + packet_count (packets_all e (packets_start hub leaves) moves).links
  moves_within =
      let a = taken_at_most e k first_calm (relayed_moves e k begin moves) in
      let b : length (relayed_moves e k begin moves) + passed_count begin.links ≤ packet_turns e (packets_start hub leaves) moves + passed_count end.links = subst (λ c. length (relayed_moves e k begin moves) + passed_count begin.links ≤ packet_turns e c moves + passed_count end.links) (without_start e k hub relay leaves) (moves_count e k begin moves) in
      let c : passed_count end.links ≤ packet_count (packets_all e (packets_start hub leaves) moves).links = subst (λ (c : PacketWorld H L P). passed_count end.links ≤ packet_count c.links) without_end (passed_all e k end.links) in
      omega arith

  abbrev traffic : List (List ℕ × List ℕ)
  traffic = (in_bytes e (packets_all e (packets_start hub leaves) moves)).traffic

  bytes_twice : (n : ℕ) → relay_bytes n (relays_in_bytes e end) ≡ traffic_bytes n traffic + traffic_bytes n traffic
  bytes_twice n =
      sum_same n _ (λ p. both p + both p) (λ p _.
      let a = ap length (relayed_end.hub_relay p) in
      let b = ap length (relayed_end.relay_hub p) in
      let c = ap length (relayed_end.relay_leaf p) in
      let d = ap length (relayed_end.leaf_relay p) in
      omega arith)
      ∙ sum_add n both both
    where
      both : ℕ → ℕ
      both p = length (traffic_at traffic p).0 + length (traffic_at traffic p).1

  -- One more turn for each packet, and each byte crosses two queues.
  pub relayed_bound : (ss : List Step) → effective_steps (relay_network (relay_star_of e k) (fresh_hub hub (length leaves)) (fresh_relay relay) (map fresh_leaf leaves)) (start (relay_network (relay_star_of e k) (fresh_hub hub (length leaves)) (fresh_relay relay) (map fresh_leaf leaves))) ss ≤ packet_turns e (packets_start hub leaves) moves + packet_count (packets_all e (packets_start hub leaves) moves).links + (traffic_bytes (length leaves) traffic + traffic_bytes (length leaves) traffic)
  relayed_bound ss =
      let b = every_relayed_run.bound ss in
      let m = moves_within in
      let s : relay_bytes (length (map fresh_leaf leaves)) (relays_in_bytes e end) ≡ traffic_bytes (length leaves) traffic + traffic_bytes (length leaves) traffic = ap (λ n. relay_bytes n (relays_in_bytes e end)) (length-map leaves fresh_leaf) ∙ bytes_twice (length leaves) in
      omega arith
