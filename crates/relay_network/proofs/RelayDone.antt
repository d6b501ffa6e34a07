-- With relays all is at its end as soon as the hub has halted, where each leaf ends by sending.
use Rattle.std.proofs.Common.{◌≡◌, ℕ, zero, suc, ◌+◌, ◌<◌, ◌≤◌, ◌==◌, inl, inr, ⊎_elim, Bool, true, false, List, [], ◌∷◌, ◌++◌, length, get_or, map, Option, Some, None, slice_get, if◌then◌else◌, refl, sym, ap, ap₂, ◌∙◌, subst, arith, append-nil, length-set, le_antisymm, eqb-true}
use Rattle.std.proofs.lemmas.List.{length-map}
use Rattle.std.proofs.lemmas.Option.{none-some}
use Rattle.process_network.specs.Network.{IsPrefix, Streams, Network, IsMonotone, World, received, Step, outcome, turns, IsRun, IsSame, IsSmall}
use Rattle.process_network.specs.PacketProcesses.{IsDecided}
use Rattle.process_network.specs.Star.{link, Link, star_all, star_start, StarStep}
use Rattle.process_network.specs.CalmRun.{Move, no_traffic, traffic_at, calm_start, script_of, all_delivered}
use Rattle.process_network.specs.CalmRun.Move.{HubMoves, LeafMoves}
use Rattle.process_network.specs.PacketStar.{HubOutlook, LeafOutlook, Ends, written, HubEnd, LeafEnd, hub_turn_by, star_of, PacketLink, PacketWorld, with_packet, hub_takes, hub_waits_on, hub_packet_move, leaf_takes, leaf_packet_move, packet_move_at, packets_after, packets_all, packets_start, link_leaf, link_traffic, link_taken, in_bytes, fresh_link, fresh_hub, fresh_leaf, IsOver, AllReadable, LeafEndsBySending, back_bytes, packet_leaf_turns}
use Rattle.process_network.specs.PacketStar.HubOutlook.{HubActs, HubWaits, HubHalts}
use Rattle.process_network.specs.PacketStar.LeafOutlook.{LeafActs, LeafWaits, LeafHalts}
use Rattle.process_network.proofs.Prefixes.{prefix_length, prefix_antisym, prefix_take, prefix_eq, prefix_trans, le_or_lt}
use Rattle.process_network.proofs.ProcessRuns.{runs_more, runs_same, runs_cut, runs_max}
use Rattle.process_network.proofs.ReachableWorlds.{IsOnRun, IsFinal, Under, final_received, on_the_way}
use Rattle.process_network.proofs.QuiescentWorlds.{schedule_run}
use Rattle.process_network.proofs.HaltedNode.{IsHungry, EndsBySending, halted_complete, complete_fed, sent_complete, complete_same}
use Rattle.process_network.proofs.PacketRuns.{mapped_at, mapped_get, written_append, every_packet_run, packet_run_ends}
use Rattle.process_network.proofs.CalmRuns.{script_in_schedule, calm_at_start, link_calm}
use Rattle.relay_network.specs.RelayStar.{IsRelayAtRest, Place, place, twice, number, RelayNode, leaf_sends, hub_place_turn, by_number, relay_network, RelayPort, RelayCalm, field_of, state_at, sent_at, relay_world}
use Rattle.relay_network.specs.RelayStar.Place.{AtHub, AtRelay, AtLeaf}
use Rattle.relay_network.specs.RelayStar.RelayNode.{TheHub, TheRelay, TheLeaf, NoNode}
use Rattle.relay_network.specs.RelayPackets.{Relays, RelayEnd, relay_star_of, fresh_relay, RelayedWorld, relayed_moves, relayed_all, relayed_start, AllPass, port_in_bytes, relays_in_bytes, without_relays, relayed_network}
use Rattle.relay_network.proofs.RelayNetwork.{place_number, number_place, relay_monotone, at_self}
use Rattle.relay_network.proofs.RelayTheorem.{fin, led, small, below_final}
use Rattle.relay_network.proofs.RelayPackets.{relays_monotone}
use Rattle.relay_network.proofs.RelayRun.{calm_ends, without_end, over_end, rests}
use Rattle.relay_network.proofs.RelayStates.{RelayRuns, IsFaithful, Known, relay_of, turns_of, end_known, relay_turn_takes, relay_within}
use Rattle.relay_network.proofs.LeafRuns.{run_more, leaf_run_after}
use Rattle.relay_network.proofs.RelayHalted.{HubWithin, LeafWithin, hub_within, leaf_within, relay_runs, relay_same, leaf_runs, relay_is}

twice_mono : (a b : ℕ) → a ≤ b → twice a ≤ twice b
twice_mono zero b l = omega arith
twice_mono (suc a) zero l = absurd (omega arith)
twice_mono (suc a) (suc b) l = let ih = twice_mono a b (omega arith) in omega arith

-- A run of packets keeps the number of links.
links_kept : {H L P : Type 0} (e : Ends H L P) (c : PacketWorld H L P) (ms : List Move) → length (packets_all e c ms).links ≡ length c.links
links_kept e c [] = refl
links_kept {H} {L} {P} e c (m ∷ ms) = links_kept e (packets_after e c m) ms ∙ one m
  where
    hub : (v : HubOutlook H P) → length (hub_packet_move e c v).links ≡ length c.links
    hub (HubActs next None) = refl
    hub (HubActs next (Some m)) = go (slice_get c.links m.0)
      where
        go : (o : Option (PacketLink L P)) → length (with_packet c.links m.0 m.1 o) ≡ length c.links
        go None = refl
        go (Some q) = length-set c.links m.0 _
    hub (HubWaits p) = go (slice_get c.links p)
      where
        takes : (q : PacketLink L P) (ms : List P) → length (hub_takes e c p q ms).links ≡ length c.links
        takes q [] = refl
        takes q (m ∷ rest) = length-set c.links p _

        go : (o : Option (PacketLink L P)) → length (hub_waits_on e c p o).links ≡ length c.links
        go None = refl
        go (Some q) = takes q q.back_waiting
    hub HubHalts = refl

    leaf : (p : ℕ) (o : Option (PacketLink L P)) → length (packet_move_at e c p o).links ≡ length c.links
    leaf p None = refl
    leaf p (Some q) = go (e.leaf_outlook q.leaf)
      where
        gets : (ms : List P) → length (leaf_takes e c p q ms).links ≡ length c.links
        gets [] = refl
        gets (m ∷ rest) = length-set c.links p _

        go : (v : LeafOutlook L P) → length (leaf_packet_move e c p q v).links ≡ length c.links
        go (LeafActs next sends) = length-set c.links p _
        go LeafWaits = gets q.out_waiting
        go LeafHalts = refl

    one : (m : Move) → length (packets_after e c m).links ≡ length c.links
    one HubMoves = hub (e.hub_outlook c.hub)
    one (LeafMoves p) = leaf p (slice_get c.links p)

there_is : {A : Type 0} (xs : List A) (p : ℕ) → p < length xs → (q : A) × (slice_get xs p ≡ Some q)
there_is [] p l = absurd (omega arith)
there_is (x ∷ xs) zero l = (x, refl)
there_is (x ∷ xs) (suc p) l = there_is xs p (omega arith)

module _ {H R L P : Type 0} (e : Ends H L P) (decided : IsDecided e.first) (k : Relays R P) (hub : H) (relay : R) (leaves : List L) (moves : List Move) (pass : AllPass e k (relayed_start hub relay leaves) moves) (over : IsOver e (packets_all e (packets_start hub leaves) moves)) (good : AllReadable e (packets_start hub leaves) moves) (ends : (p : ℕ) → p < length leaves → LeafEndsBySending e (packets_start hub leaves) moves p) where
  abbrev net : Network (RelayNode (HubEnd H) (RelayEnd R) (LeafEnd L))
  net = relay_network (relay_star_of e k) (fresh_hub hub (length leaves)) (fresh_relay relay) (map fresh_leaf leaves)

  abbrev n : ℕ
  n = length (map fresh_leaf leaves)

  abbrev finish : RelayedWorld H R L P
  finish = relayed_all e k (relayed_start hub relay leaves) moves

  abbrev c : RelayCalm (HubEnd H) (RelayEnd R) (LeafEnd L)
  c = relays_in_bytes e finish

  mono : IsMonotone net
  mono = relay_monotone (relay_star_of e k) (relays_monotone e k decided) (fresh_hub hub (length leaves)) (fresh_relay relay) (map fresh_leaf leaves)

  abbrev FinalAt : RelayCalm (HubEnd H) (RelayEnd R) (LeafEnd L) → Type 0
  FinalAt c = (t : ℕ → ℕ) × IsFinal net (relay_world c) t × IsSmall (suc (twice n)) (relay_world c) t × ((ss : List Step) → Under (outcome net ss) (relay_world c).sent) × (length c.ports ≡ n)

  final : FinalAt c
  final =
      let same = calm_ends e decided k hub relay leaves moves pass over in
      let m = relays_monotone e k decided in
      let moved = relayed_moves e k (relayed_start hub relay leaves) moves in
      let rest = subst (λ c. IsRelayAtRest (relay_star_of e k) c) (sym same) (rests e k decided finish (over_end e decided k hub relay leaves moves pass over)) in
      subst FinalAt same (
        (led (relay_star_of e k) m (fresh_hub hub (length leaves)) (fresh_relay relay) (map fresh_leaf leaves) moved rest).0,
        fin (relay_star_of e k) m (fresh_hub hub (length leaves)) (fresh_relay relay) (map fresh_leaf leaves) moved rest,
        small (relay_star_of e k) m (fresh_hub hub (length leaves)) (fresh_relay relay) (map fresh_leaf leaves) moved rest,
        below_final (relay_star_of e k) m (fresh_hub hub (length leaves)) (fresh_relay relay) (map fresh_leaf leaves) moved rest,
        (led (relay_star_of e k) m (fresh_hub hub (length leaves)) (fresh_relay relay) (map fresh_leaf leaves) moved rest).3,
      )

  abbrev F : World (RelayNode (HubEnd H) (RelayEnd R) (LeafEnd L))
  F = relay_world c

  abbrev t : ℕ → ℕ
  t = final.0

  abbrev fin_c : IsFinal net F t
  fin_c = final.1

  got_is : (i : ℕ) → received F i ≡ (λ j. F.sent j i)
  got_is i = final_received net F t fin_c i

  -- What holds past the nodes, at the hub, at each relay and at each leaf holds of each node.
  by_place : (T : ℕ → Type 0) → ((i : ℕ) → suc (twice n) ≤ i → T i) → T 0 → ((p : ℕ) → p < n → T (number (AtRelay p))) → ((p : ℕ) → p < n → T (number (AtLeaf p))) → (i : ℕ) → T i
  by_place T beyond first relays leaves i = ⊎_elim (λ l. beyond i l) (λ l. subst T (number_place i) (go (place i) (subst (λ m. m < suc (twice n)) (sym (number_place i)) l))) (le_or_lt (suc (twice n)) i)
    where
      inside : (p : ℕ) → twice p < twice n → p < n
      inside p l = ⊎_elim (λ (m : n ≤ p). absurd (let d = twice_mono n p m in omega arith)) (λ m. m) (le_or_lt n p)

      go : (a : Place) → number a < suc (twice n) → T (number a)
      go AtHub l = first
      go (AtRelay p) l = relays p (inside p (omega arith))
      go (AtLeaf p) l = leaves p (inside p (omega arith))

  -- One port.
  module _ (p : ℕ) (inside : p < n) where
    leaf_here : (l : L) × (slice_get leaves p ≡ Some l)
    leaf_here = there_is leaves p (let m = length-map leaves fresh_leaf in omega arith)

    abbrev l : L
    l = leaf_here.0

    fresh_here : slice_get (map fresh_leaf leaves) p ≡ Some (fresh_leaf l)
    fresh_here = mapped_get fresh_leaf leaves p l leaf_here.1

    link_here : (q : PacketLink L P × R) × (slice_get finish.links p ≡ Some q)
    link_here = there_is finish.links p (let m : length (map (port_in_bytes e) finish.links) ≡ length finish.links = length-map finish.links (port_in_bytes e) in let f : length (map (port_in_bytes e) finish.links) ≡ n = final.4 in omega arith)

    abbrev q : PacketLink L P × R
    q = link_here.0

    abbrev rp : ℕ
    rp = number (AtRelay p)

    abbrev lp : ℕ
    lp = number (AtLeaf p)

    port_here : slice_get c.ports p ≡ Some (port_in_bytes e q)
    port_here = mapped_get (port_in_bytes e) finish.links p q link_here.1

    over_here : IsOver e (without_relays finish)
    over_here = over_end e decided k hub relay leaves moves pass over

    none_out : q.0.out_waiting ≡ []
    none_out = over_here.out p q.0 (mapped_get (λ (q : PacketLink L P × R). q.0) finish.links p q link_here.1)

    none_back : q.0.back_waiting ≡ []
    none_back = over_here.back p q.0 (mapped_get (λ (q : PacketLink L P × R). q.0) finish.links p q link_here.1)

    abbrev out : List ℕ
    out = written e.write (q.0.out_taken ++ q.0.out_waiting)

    abbrev back : List ℕ
    back = written e.write q.0.back_taken

    out_taken_all : written e.write q.0.out_taken ≡ out
    out_taken_all = ap (written e.write) (sym (append-nil q.0.out_taken) ∙ ap (λ (ms : List P). q.0.out_taken ++ ms) (sym none_out))

    back_all : written e.write (q.0.back_taken ++ q.0.back_waiting) ≡ back
    back_all = ap (λ (ms : List P). written e.write (q.0.back_taken ++ ms)) none_back ∙ ap (written e.write) (append-nil q.0.back_taken)

    to_relay : F.sent 0 rp ≡ out
    to_relay = ap (sent_at c AtHub) (place_number (AtRelay p)) ∙ ap (field_of (λ (q : RelayPort (RelayEnd R) (LeafEnd L)). q.hub_relay) []) port_here

    to_hub : F.sent rp 0 ≡ back
    to_hub = ap (λ a. sent_at c a AtHub) (place_number (AtRelay p)) ∙ ap (field_of (λ (q : RelayPort (RelayEnd R) (LeafEnd L)). q.relay_hub) []) port_here

    to_leaf : F.sent rp lp ≡ out
    to_leaf = ap₂ (sent_at c) (place_number (AtRelay p)) (place_number (AtLeaf p)) ∙ at_self p _ _ ∙ ap (field_of (λ (q : RelayPort (RelayEnd R) (LeafEnd L)). q.relay_leaf) []) port_here

    from_leaf : F.sent lp rp ≡ back
    from_leaf = ap₂ (sent_at c) (place_number (AtLeaf p)) (place_number (AtRelay p)) ∙ at_self p _ _ ∙ ap (field_of (λ (q : RelayPort (RelayEnd R) (LeafEnd L)). q.leaf_relay) []) port_here ∙ back_all

    relay_state : F.state rp ≡ TheRelay (relay_of e decided k relay q)
    relay_state = ap (state_at c) (place_number (AtRelay p)) ∙ ap (field_of relay_node NoNode) port_here
      where
        relay_node : RelayPort (RelayEnd R) (LeafEnd L) → RelayNode (HubEnd H) (RelayEnd R) (LeafEnd L)
        relay_node q = TheRelay q.relay

    leaf_state : F.state lp ≡ TheLeaf (link_leaf e q.0)
    leaf_state = ap (state_at c) (place_number (AtLeaf p)) ∙ ap (field_of leaf_node NoNode) port_here
      where
        leaf_node : RelayPort (RelayEnd R) (LeafEnd L) → RelayNode (HubEnd H) (RelayEnd R) (LeafEnd L)
        leaf_node q = TheLeaf q.leaf

    -- The relay's run, as far as it goes, is faithful.
    known : Known e decided k relay q
    known = end_known e decided k relay hub leaves moves pass p q link_here.1

    got_out : IsPrefix out (received F rp 0)
    got_out = prefix_eq (sym (ap (λ (x : Streams). x 0) (got_is rp) ∙ to_relay))

    got_back : IsPrefix back (received F rp lp)
    got_back = prefix_eq (sym (ap (λ (x : Streams). x lp) (got_is rp) ∙ from_leaf))

    relay_turns : t rp ≤ turns_of e decided k relay q
    relay_turns = ⊎_elim (λ l. l) (λ more. absurd (no more)) (le_or_lt (t rp) (turns_of e decided k relay q))
      where
        no : turns_of e decided k relay q < t rp → ⊥
        no more =
            let r = runs_cut net rp (received F rp) (turns_of e decided k relay q) (t rp) (F.state rp) (F.sent rp) more (fin_c.run.runs rp) in
            let rr = relay_runs e decided k hub relay leaves p (fresh_leaf l) fresh_here (received F rp) (turns_of e decided k relay q) r.0 r.1 r.4 in
            let same = (known (received F rp 0) (received F rp lp) got_out got_back (turns_of e decided k relay q) rr.0 (r.1 lp) (r.1 0) rr.2).1 refl in
            none-some {A = RelayNode (HubEnd H) (RelayEnd R) (LeafEnd L) × Streams} (r.2, r.3) (sym (fin_c.stop rp) ∙ ap (λ s. net.turn rp s (received F rp)) (relay_state ∙ ap TheRelay (sym same) ∙ sym rr.1) ∙ r.5)

    faithful : (m : ℕ) (s : RelayEnd R) (a b : List ℕ) → m ≤ t rp → RelayRuns e decided k relay (received F rp 0) (received F rp lp) m s a b → IsFaithful e decided k relay s a b
    faithful m s a b l run = (known (received F rp 0) (received F rp lp) got_out got_back m s a b run).0 (let d = relay_turns in omega arith)

    -- The relay, and the leaf, need all that they receive.

    hungry_relay : IsHungry net F t rp
    hungry_relay x b s o run j = subst (λ a. length (sent_at c (place j) a) ≤ length (x j)) (sym (place_number (AtRelay p))) (subst (λ i. length (sent_at c (place j) (AtRelay p)) ≤ length (x i)) (number_place j) (at (place j)))
      where
        same : s ≡ F.state rp
        same = (runs_same net rp (received F rp) (t rp) s (F.state rp) o (F.sent rp) (runs_more net mono rp x (received F rp) b (t rp) s o run) (fin_c.run.runs rp)).0

        r : (s' : RelayEnd R) × (s ≡ TheRelay s') × RelayRuns e decided k relay (x 0) (x lp) (t rp) s' (o lp) (o 0)
        r = relay_runs e decided k hub relay leaves p (fresh_leaf l) fresh_here x (t rp) s o run

        is : r.0 ≡ relay_of e decided k relay q
        is = relay_is r.0 (relay_of e decided k relay q) (sym r.1 ∙ same ∙ relay_state)

        within : (r.0.from_hub ≤ length (x 0)) × (r.0.from_leaf ≤ length (x lp))
        within = relay_within e decided k relay (x 0) (x lp) (t rp) r.0 (o lp) (o 0) r.2

        at : (a : Place) → length (sent_at c a (AtRelay p)) ≤ length (x (number a))
        at AtHub =
            let w : r.0.from_hub ≤ length (x 0) = within.0 in
            let h : r.0.from_hub ≡ length out = ap (λ (s : RelayEnd R). s.from_hub) is in
            let m : length (sent_at c AtHub (AtRelay p)) ≡ length out = ap length (ap (field_of (λ (q : RelayPort (RelayEnd R) (LeafEnd L)). q.hub_relay) []) port_here) in
            omega arith
        at (AtRelay j) = omega arith
        at (AtLeaf j) = go (p == j) refl
          where
            go : (b : Bool) → (p == j) ≡ b → length (if b then field_of (λ (q : RelayPort (RelayEnd R) (LeafEnd L)). q.leaf_relay) [] (slice_get c.ports j) else []) ≤ length (x (number (AtLeaf j)))
            go false s = omega arith
            go true s = subst (λ i. length (field_of (λ (q : RelayPort (RelayEnd R) (LeafEnd L)). q.leaf_relay) [] (slice_get c.ports i)) ≤ length (x (number (AtLeaf i)))) (eqb-true p j s)
                (let w : r.0.from_leaf ≤ length (x lp) = within.1 in
                let h : r.0.from_leaf ≡ length back = ap (λ (s : RelayEnd R). s.from_leaf) is in
                let m : length (field_of (λ (q : RelayPort (RelayEnd R) (LeafEnd L)). q.leaf_relay) [] (slice_get c.ports p)) ≡ length back = ap length (ap (field_of (λ (q : RelayPort (RelayEnd R) (LeafEnd L)). q.leaf_relay) []) port_here ∙ back_all) in
                omega arith)

    hungry_leaf : IsHungry net F t lp
    hungry_leaf x b s o run j = subst (λ a. length (sent_at c (place j) a) ≤ length (x j)) (sym (place_number (AtLeaf p))) (subst (λ i. length (sent_at c (place j) (AtLeaf p)) ≤ length (x i)) (number_place j) (at (place j)))
      where
        same : s ≡ F.state lp
        same = (runs_same net lp (received F lp) (t lp) s (F.state lp) o (F.sent lp) (runs_more net mono lp x (received F lp) b (t lp) s o run) (fin_c.run.runs lp)).0

        within : length (written e.write q.0.out_taken) ≤ length (x rp)
        within = subst (λ s. LeafWithin e decided k hub relay leaves p x s) (same ∙ leaf_state) (leaf_within e decided k hub relay leaves p (fresh_leaf l) fresh_here x (t lp) s o run)

        at : (a : Place) → length (sent_at c a (AtLeaf p)) ≤ length (x (number a))
        at AtHub = omega arith
        at (AtLeaf j) = omega arith
        at (AtRelay j) = go (p == j) refl
          where
            go : (b : Bool) → (p == j) ≡ b → length (if b then field_of (λ (q : RelayPort (RelayEnd R) (LeafEnd L)). q.relay_leaf) [] (slice_get c.ports j) else []) ≤ length (x (number (AtRelay j)))
            go false s = omega arith
            go true s = subst (λ i. length (field_of (λ (q : RelayPort (RelayEnd R) (LeafEnd L)). q.relay_leaf) [] (slice_get c.ports i)) ≤ length (x (number (AtRelay i)))) (eqb-true p j s)
                (let m : length (field_of (λ (q : RelayPort (RelayEnd R) (LeafEnd L)). q.relay_leaf) [] (slice_get c.ports p)) ≡ length out = ap length (ap (field_of (λ (q : RelayPort (RelayEnd R) (LeafEnd L)). q.relay_leaf) []) port_here) in
                let a : length (written e.write q.0.out_taken) ≡ length out = ap length out_taken_all in
                let w = within in
                omega arith)

    -- The leaf sends in its last turn.

    star_moves : List Move → PacketWorld H L P
    star_moves ms = packets_all e (packets_start hub leaves) ms

    got_leaf : received F lp rp ≡ out
    got_leaf = ap (λ (x : Streams). x rp) (got_is lp) ∙ to_leaf

    leaf_node_run : (ms : List Move) → AllReadable e (packets_start hub leaves) ms → (r : PacketLink L P) → slice_get (packets_all e (packets_start hub leaves) ms).links p ≡ Some r → IsPrefix (written e.write r.out_taken) out → IsRun net lp (received F lp) (packet_leaf_turns e (packets_start hub leaves) p ms) (TheLeaf (link_leaf e r)) (λ j. leaf_sends p (written e.write (r.back_taken ++ r.back_waiting)) (place j))
    leaf_node_run ms readable r s b = leaf_runs e decided k hub relay leaves p (fresh_leaf l) fresh_here (received F lp) (packet_leaf_turns e (packets_start hub leaves) p ms) (link_leaf e r) (written e.write (r.back_taken ++ r.back_waiting))
        (run_more e decided l p (written e.write r.out_taken) (received F lp rp) (prefix_trans (written e.write r.out_taken) out (received F lp rp) b (prefix_eq (sym got_leaf))) (packet_leaf_turns e (packets_start hub leaves) p ms) (link_leaf e r) (written e.write (r.back_taken ++ r.back_waiting))
        (leaf_run_after e decided l p hub leaves ms leaf_here.1 readable r s))

    star_end : slice_get (packets_all e (packets_start hub leaves) moves).links p ≡ Some q.0
    star_end = ap (λ (w : PacketWorld H L P). slice_get w.links p) (sym (without_end e decided k hub relay leaves moves pass over)) ∙ mapped_get (λ (q : PacketLink L P × R). q.0) finish.links p q link_here.1

    leaf_turns_are : t lp ≡ packet_leaf_turns e (packets_start hub leaves) p moves
    leaf_turns_are =
        let run = leaf_node_run moves good q.0 star_end (prefix_eq out_taken_all) in
        let stop : net.turn lp (TheLeaf (link_leaf e q.0)) (received F lp) ≡ None = ap (λ s. net.turn lp s (received F lp)) (sym leaf_state) ∙ fin_c.stop lp in
        le_antisymm
        (runs_max net lp (received F lp) (t lp) (packet_leaf_turns e (packets_start hub leaves) p moves) (F.state lp) (TheLeaf (link_leaf e q.0)) (F.sent lp) _ (fin_c.run.runs lp) run stop)
        (runs_max net lp (received F lp) (packet_leaf_turns e (packets_start hub leaves) p moves) (t lp) (TheLeaf (link_leaf e q.0)) (F.state lp) _ (F.sent lp) run (fin_c.run.runs lp) (fin_c.stop lp))

    -- What is sent to the leaf in any run of packets is a beginning of what is sent to it at the end.
    out_before : (ms : List Move) → AllReadable e (packets_start hub leaves) ms → (r : PacketLink L P) → slice_get (packets_all e (packets_start hub leaves) ms).links p ≡ Some r → IsPrefix (written e.write (r.out_taken ++ r.out_waiting)) out
    out_before ms readable r s =
        subst (λ (v : List ℕ). IsPrefix v out) (ap (λ (v : List ℕ × List ℕ). v.0) (mapped_at (link_traffic e) (packets_all e (packets_start hub leaves) ms).links p r no_traffic s))
        (subst (λ (v : List ℕ × List ℕ). IsPrefix (traffic_at (in_bytes e (packets_all e (packets_start hub leaves) ms)).traffic p).0 v.0) (mapped_at (link_traffic e) (packets_all e (packets_start hub leaves) moves).links p q.0 no_traffic star_end)
        (subst (λ (v : List ℕ). IsPrefix v (traffic_at (in_bytes e (packets_all e (packets_start hub leaves) moves)).traffic p).0) sent
        ((every_packet_run e decided hub leaves moves good over).out_prefix schedule p)))
      where
        schedule : List StarStep
        schedule = script_of (star_of e) (calm_start (fresh_hub hub (length leaves)) (map fresh_leaf leaves)) ms

        sent : (link (star_all (star_of e) (star_start (fresh_hub hub (length leaves)) (map fresh_leaf leaves)) schedule) p).out ≡ (traffic_at (in_bytes e (packets_all e (packets_start hub leaves) ms)).traffic p).0
        sent =
            ap (λ w. (link (star_all (star_of e) w schedule) p).out) (calm_at_start (fresh_hub hub (length leaves)) (map fresh_leaf leaves))
            ∙ ap (λ w. (link w p).out) (script_in_schedule (star_of e) (calm_start (fresh_hub hub (length leaves)) (map fresh_leaf leaves)) ms ∙ ap all_delivered (packet_run_ends e decided hub leaves ms readable))
            ∙ ap (λ (l : Link). l.out) (link_calm (in_bytes e (packets_all e (packets_start hub leaves) ms)) p)

    leaf_ends : EndsBySending net F t lp rp
    leaf_ends = ⊎_elim
        (λ none. inl (leaf_turns_are ∙ none))
        (λ last.
        let r = there_is (packets_all e (packets_start hub leaves) last.0).links p (let a = links_kept e (packets_start hub leaves) last.0 in let b = length-map leaves (fresh_link {P = P}) in let d = length-map leaves fresh_leaf in omega arith) in
        inr (
          packet_leaf_turns e (packets_start hub leaves) p last.0,
          TheLeaf (link_leaf e r.0),
          (λ j. leaf_sends p (written e.write (r.0.back_taken ++ r.0.back_waiting)) (place j)),
          leaf_turns_are ∙ last.2,
          leaf_node_run last.0 last.1 r.0 r.1 (prefix_trans (written e.write r.0.out_taken) (written e.write (r.0.out_taken ++ r.0.out_waiting)) out (front r.0) (out_before last.0 last.1 r.0 r.1)),
          less r.0 last.0 r.1 last.3,
        ))
        (ends p (let d = length-map leaves fresh_leaf in omega arith))
      where
        front : (r : PacketLink L P) → IsPrefix (written e.write r.out_taken) (written e.write (r.out_taken ++ r.out_waiting))
        front r = (written e.write r.out_waiting, sym (written_append e.write r.out_taken r.out_waiting))

        less : (r : PacketLink L P) (ms : List Move) → slice_get (packets_all e (packets_start hub leaves) ms).links p ≡ Some r → back_bytes e (packets_all e (packets_start hub leaves) ms) p < back_bytes e (packets_all e (packets_start hub leaves) moves) p → length (leaf_sends p (written e.write (r.back_taken ++ r.back_waiting)) (place rp)) < length (F.sent lp rp)
        less r ms s l =
            let a : length (leaf_sends p (written e.write (r.back_taken ++ r.back_waiting)) (place rp)) ≡ length (written e.write (r.back_taken ++ r.back_waiting)) = ap length (ap (leaf_sends p (written e.write (r.back_taken ++ r.back_waiting))) (place_number (AtRelay p)) ∙ at_self p _ []) in
            let b : back_bytes e (packets_all e (packets_start hub leaves) ms) p ≡ length (written e.write (r.back_taken ++ r.back_waiting)) = ap (λ (v : List ℕ × List ℕ). length v.1) (mapped_at (link_traffic e) (packets_all e (packets_start hub leaves) ms).links p r no_traffic s) in
            let d : back_bytes e (packets_all e (packets_start hub leaves) moves) p ≡ length (written e.write (q.0.back_taken ++ q.0.back_waiting)) = ap (λ (v : List ℕ × List ℕ). length v.1) (mapped_at (link_traffic e) (packets_all e (packets_start hub leaves) moves).links p q.0 no_traffic star_end) in
            let f : length (F.sent lp rp) ≡ length (written e.write (q.0.back_taken ++ q.0.back_waiting)) = ap length (from_leaf ∙ sym back_all) in
            omega arith

    -- In any world: as soon as the relay has sent all to the hub, it and the leaf have taken all their turns.
    port_done : (w : World (RelayNode (HubEnd H) (RelayEnd R) (LeafEnd L))) (m : ℕ → ℕ) → IsOnRun net w m → Under w F.sent → w.sent rp 0 ≡ F.sent rp 0 → (m rp ≡ t rp) × (m lp ≡ t lp)
    port_done w m h u all = (relay_done, leaf_done)
      where
        way : (m rp ≤ t rp) × IsRun net rp (received F rp) (m rp) (w.state rp) (w.sent rp)
        way = on_the_way net mono w F m t h fin_c u rp

        over_all : (s : RelayEnd R) × (w.state rp ≡ TheRelay s) × RelayRuns e decided k relay (received F rp 0) (received F rp lp) (m rp) s (w.sent rp lp) (w.sent rp 0)
        over_all = relay_runs e decided k hub relay leaves p (fresh_leaf l) fresh_here (received F rp) (m rp) (w.state rp) (w.sent rp) way.1

        now : IsFaithful e decided k relay over_all.0 (w.sent rp lp) (w.sent rp 0)
        now = faithful (m rp) over_all.0 (w.sent rp lp) (w.sent rp 0) way.0 over_all.2

        over_own : (s : RelayEnd R) × (w.state rp ≡ TheRelay s) × RelayRuns e decided k relay (received w rp 0) (received w rp lp) (m rp) s (w.sent rp lp) (w.sent rp 0)
        over_own = relay_runs e decided k hub relay leaves p (fresh_leaf l) fresh_here (received w rp) (m rp) (w.state rp) (w.sent rp) (h.runs rp)

        leaf_sent : w.sent lp rp ≡ F.sent lp rp
        leaf_sent = prefix_antisym (w.sent lp rp) (F.sent lp rp) (u lp rp)
            (let same : over_own.0 ≡ over_all.0 = relay_is over_own.0 over_all.0 (sym over_own.1 ∙ over_all.1) in
            let own : over_own.0.from_leaf ≤ length (received w rp lp) = (relay_within e decided k relay (received w rp 0) (received w rp lp) (m rp) over_own.0 (w.sent rp lp) (w.sent rp 0) over_own.2).1 in
            let is : over_own.0.from_leaf ≡ over_all.0.from_leaf = ap (λ (s : RelayEnd R). s.from_leaf) same in
            let sum : over_all.0.from_leaf ≡ length (w.sent rp 0) = now.1 in
            let passed : length (w.sent rp 0) ≡ length back = ap length (all ∙ to_hub) in
            let got : length (received w rp lp) ≤ length (w.sent lp rp) = prefix_length (received w rp lp) (w.sent lp rp) (prefix_take (w.delivered lp rp) (w.sent lp rp)) in
            let whole : length (F.sent lp rp) ≡ length back = ap length from_leaf in
            omega arith)

        leaf_done : m lp ≡ t lp
        leaf_done = sent_complete net mono w F m t h fin_c u lp rp leaf_sent leaf_ends

        relay_sent : w.sent rp lp ≡ F.sent rp lp
        relay_sent = (complete_fed net mono w F m t h fin_c u lp leaf_done hungry_leaf rp).0

        relay_done : m rp ≡ t rp
        relay_done = le_antisymm way.0 (⊎_elim (λ l. l) (λ less. absurd (no less)) (le_or_lt (t rp) (m rp)))
          where
            no : m rp < t rp → ⊥
            no less =
                let r = runs_cut net rp (received F rp) (m rp) (t rp) (F.state rp) (F.sent rp) less (fin_c.run.runs rp) in
                let sent = (runs_same net rp (received F rp) (m rp) r.0 (w.state rp) r.1 (w.sent rp) r.4 way.1).1 in
                let a = relay_runs e decided k hub relay leaves p (fresh_leaf l) fresh_here (received F rp) (m rp) r.0 r.1 r.4 in
                let b = relay_runs e decided k hub relay leaves p (fresh_leaf l) fresh_here (received F rp) (suc (m rp)) r.2 (λ j. r.1 j ++ r.3 j) (r.0, r.1, r.3, r.4, r.5, λ j. refl) in
                let fa = faithful (m rp) a.0 (r.1 lp) (r.1 0) way.0 a.2 in
                let fb = faithful (suc (m rp)) b.0 (r.1 lp ++ r.3 lp) (r.1 0 ++ r.3 0) less b.2 in
                let within = relay_within e decided k relay (received F rp 0) (received F rp lp) (m rp) b.2.0 b.2.1 b.2.2 b.2.4 in
                let takes = relay_turn_takes e decided k relay b.2.0 (received F rp 0) (received F rp lp) (k.outlook b.2.0.core) (b.0, b.2.3) b.2.5 within.0 within.1 in
                let same : b.2.0 ≡ a.0 = relay_same e decided k hub relay leaves (received F rp 0) (received F rp lp) (m rp) b.2.0 a.0 b.2.1 b.2.2 (r.1 lp) (r.1 0) b.2.4 a.2 in
                let s0 : b.2.0.from_hub ≡ a.0.from_hub = ap (λ (s : RelayEnd R). s.from_hub) same in
                let s1 : b.2.0.from_leaf ≡ a.0.from_leaf = ap (λ (s : RelayEnd R). s.from_leaf) same in
                let more : b.2.0.from_hub + b.2.0.from_leaf < b.0.from_hub + b.0.from_leaf = takes.2 in
                let fa0 : a.0.from_hub ≡ length (r.1 lp) = fa.0 in
                let fa1 : a.0.from_leaf ≡ length (r.1 0) = fa.1 in
                let fb0 : b.0.from_hub ≡ length (r.1 lp ++ r.3 lp) = fb.0 in
                let fb1 : b.0.from_leaf ≡ length (r.1 0 ++ r.3 0) = fb.1 in
                let all0 : length (r.1 lp) ≡ length (F.sent rp lp) = ap length (sent lp ∙ relay_sent) in
                let all1 : length (r.1 0) ≡ length (F.sent rp 0) = ap length (sent 0 ∙ all) in
                let b0 : length (r.1 lp ++ r.3 lp) ≤ length (F.sent rp lp) = prefix_length (r.1 lp ++ r.3 lp) (F.sent rp lp) (r.6 lp) in
                let b1 : length (r.1 0 ++ r.3 0) ≤ length (F.sent rp 0) = prefix_length (r.1 0 ++ r.3 0) (F.sent rp 0) (r.6 0) in
                omega arith

  -- The hub needs all that it receives.
  hungry_hub : IsHungry net F t 0
  hungry_hub x b s o run j = subst (λ i. length (sent_at c (place j) AtHub) ≤ length (x i)) (number_place j) (at (place j))
    where
      same : s ≡ F.state 0
      same = (runs_same net 0 (received F 0) (t 0) s (F.state 0) o (F.sent 0) (runs_more net mono 0 x (received F 0) b (t 0) s o run) (fin_c.run.runs 0)).0

      within : (p : ℕ) → get_or c.hub.taken p 0 ≤ length (x (number (AtRelay p)))
      within = subst (λ s. HubWithin e decided k hub relay leaves x s) same (hub_within e decided k hub relay leaves x (t 0) s o run)

      taken_sent : (qs : List (PacketLink L P × R)) (p : ℕ) → get_or (map (λ (q : PacketLink L P × R). link_taken e q.0) qs) p 0 ≡ length (field_of (λ (q : RelayPort (RelayEnd R) (LeafEnd L)). q.relay_hub) [] (slice_get (map (port_in_bytes e) qs) p))
      taken_sent [] p = refl
      taken_sent (q ∷ qs) zero = refl
      taken_sent (q ∷ qs) (suc p) = taken_sent qs p

      at : (a : Place) → length (sent_at c a AtHub) ≤ length (x (number a))
      at AtHub = omega arith
      at (AtRelay p) = subst (λ m. m ≤ length (x (number (AtRelay p)))) (taken_sent finish.links p) (within p)
      at (AtLeaf p) = omega arith

  hungry : (i : ℕ) → IsHungry net F t i
  hungry = by_place (λ i. IsHungry net F t i) (λ i l x b s o run j. (let z : length (F.sent j i) ≡ 0 = ap length (final.2.sent_to j i l) in omega arith)) hungry_hub (λ p l. hungry_relay p l) (λ p l. hungry_leaf p l)

  -- All is at its end as soon as no more bytes would move the hub.
  pub relays_halted : (ss : List Step) → ((x : Streams) → net.turn 0 ((outcome net ss).state 0) x ≡ None) → IsSame (outcome net ss) F
  relays_halted ss halted = complete_same net mono w F m t h fin_c u done hungry
    where
      w : World (RelayNode (HubEnd H) (RelayEnd R) (LeafEnd L))
      w = outcome net ss

      m : ℕ → ℕ
      m = turns net ss

      h : IsOnRun net w m
      h = schedule_run net mono ss

      u : Under w F.sent
      u = final.3 ss

      hub_done : m 0 ≡ t 0
      hub_done = halted_complete net mono w F m t h fin_c u 0 halted

      fed : (j : ℕ) → w.sent j 0 ≡ F.sent j 0
      fed j = (complete_fed net mono w F m t h fin_c u 0 hub_done hungry_hub j).0

      done : (i : ℕ) → m i ≡ t i
      done = by_place (λ i. m i ≡ t i) (λ i l. (let z : t i ≡ 0 = final.2.turns i l in let a = (on_the_way net mono w F m t h fin_c u i).0 in omega arith)) hub_done
          (λ p l. (port_done p l w m h u (fed (number (AtRelay p)))).0) (λ p l. (port_done p l w m h u (fed (number (AtRelay p)))).1)

-- A hub that has halted is moved by no more bytes.
pub hub_stops : {H R L P : Type 0} (e : Ends H L P) (k : Relays R P) (hub : H) (relay : R) (leaves : List L) (ss : List Step) (h : HubEnd H) → (outcome (relayed_network e k hub relay leaves) ss).state 0 ≡ TheHub h → e.hub_outlook h.core ≡ HubHalts → (x : Streams) → (relayed_network e k hub relay leaves).turn 0 ((outcome (relayed_network e k hub relay leaves) ss).state 0) x ≡ None
hub_stops {H} {R} {L} e k hub relay leaves ss h here halted x =
    ap (λ s. (relayed_network e k hub relay leaves).turn 0 s x) here
    ∙ ap (λ v. by_number (hub_place_turn {R = RelayEnd R} {L = LeafEnd L} (length (map fresh_leaf leaves)) (hub_turn_by e h (λ p. x (number (AtRelay p))) v))) halted
