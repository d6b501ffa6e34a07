-- A run of packets with relays is a calm run of bytes of the star with relays.
use Rattle.std.proofs.Common.{◌≡◌, ℕ, zero, suc, ◌+◌, Bool, List, [], ◌∷◌, ◌++◌, length, drop, get_or, set, map, Option, Some, None, slice_get, option_map, refl, sym, ap, ap₂, ◌∙◌, append_assoc, append-nil, length-append}
use Rattle.std.proofs.lemmas.List.{map-set}
use Rattle.std.proofs.lemmas.Option.{none-some, slice_get-map}
use Rattle.process_network.specs.Network.{IsPrefix}
use Rattle.process_network.specs.PacketProcesses.{IsDecided}
use Rattle.process_network.specs.CalmRun.{Move}
use Rattle.process_network.specs.CalmRun.Move.{HubMoves, LeafMoves}
use Rattle.process_network.specs.PacketStar.{HubOutlook, LeafOutlook, Ends, written, HubEnd, LeafEnd, hub_after_take, hub_turn_by, leaf_after_take, leaf_turn_by, IsReadBack, PacketLink, link_leaf, link_taken, with_sent, with_leaf, with_taken}
use Rattle.process_network.specs.PacketStar.HubOutlook.{HubActs, HubWaits, HubHalts}
use Rattle.process_network.specs.PacketStar.LeafOutlook.{LeafActs, LeafWaits, LeafHalts}
use Rattle.relay_network.specs.RelayStar.{RelayStar, RelayPort, RelayCalm, RelayMove, field_of, port_sent, calm_hub, calm_relay, calm_leaf, hub_turn_now, relay_turn_now, leaf_turn_now, relay_moved, leaf_moved, relay_calm_after, relay_calm_all, IsRelayMonotone}
use Rattle.relay_network.specs.RelayStar.RelayMove.{MoveHub, MoveRelay, MoveLeaf}
use Rattle.relay_network.specs.RelayPackets.{RelayOutlook, Relays, RelayEnd, passed_on, relay_takes_hub, relay_takes_leaf, relay_turn_by, relay_star_of, RelayedWorld, relayed_sent, relayed_send, relayed_takes, relayed_waits, relayed_hub, relayed_gets, relayed_leaf, relayed_leaf_at, relayed_after, relayed_all, IsPassed, HubPasses, MovePasses, AllPass, port_in_bytes, relays_in_bytes, moves_of_send, moves_of_take, moves_of_get, moves_of_leaf, moves_of_leaf_at, moves_of_wait, moves_of_hub, moves_of, relayed_moves}
use Rattle.relay_network.specs.RelayPackets.RelayOutlook.{AwaitsHub, AwaitsLeaf, RelayHalts}
use Rattle.process_network.proofs.PacketProcesses.{still}
use Rattle.process_network.proofs.PacketRuns.{ends_monotone, written_append, drop_front, next_is, longer, mapped_at, mapped_get, mapped_kept}
use Rattle.relay_network.proofs.RelayNetwork.{set_here}

set_again : {A : Type 0} (xs : List A) (p : ℕ) (a b : A) → set (set xs p a) p b ≡ set xs p b
set_again [] p a b = refl
set_again (x ∷ xs) zero a b = refl
set_again (x ∷ xs) (suc p) a b = ap (λ t. x ∷ t) (set_again xs p a b)

-- A relay keeps its turns over more received bytes.

hub_side_same : {H R L P : Type 0} (e : Ends H L P) (k : Relays R P) (s : RelayEnd R) (a b : Option (P × ℕ)) (r : RelayEnd R × (List ℕ × List ℕ)) → ((m : P × ℕ) → a ≡ Some m → b ≡ Some m) → relay_takes_hub e k s a ≡ Some r → relay_takes_hub e k s b ≡ Some r
hub_side_same e k s None b r keep t = absurd (none-some r t)
hub_side_same e k s (Some m) b r keep t = ap (relay_takes_hub e k s) (keep m refl) ∙ t

leaf_side_same : {H R L P : Type 0} (e : Ends H L P) (k : Relays R P) (s : RelayEnd R) (a b : Option (P × ℕ)) (r : RelayEnd R × (List ℕ × List ℕ)) → ((m : P × ℕ) → a ≡ Some m → b ≡ Some m) → relay_takes_leaf e k s a ≡ Some r → relay_takes_leaf e k s b ≡ Some r
leaf_side_same e k s None b r keep t = absurd (none-some r t)
leaf_side_same e k s (Some m) b r keep t = ap (relay_takes_leaf e k s) (keep m refl) ∙ t

relay_same : {H R L P : Type 0} (e : Ends H L P) (k : Relays R P) → IsDecided e.first → (s : RelayEnd R) (x x' y y' : List ℕ) (v : RelayOutlook) (r : RelayEnd R × (List ℕ × List ℕ)) → IsPrefix x x' → IsPrefix y y' → relay_turn_by e k s x y v ≡ Some r → relay_turn_by e k s x' y' v ≡ Some r
relay_same e k decided s x x' y y' AwaitsHub r a b t = hub_side_same e k s (e.first (drop s.from_hub x)) (e.first (drop s.from_hub x')) r (still e.first decided s.from_hub x x' a) t
relay_same e k decided s x x' y y' AwaitsLeaf r a b t = leaf_side_same e k s (e.first (drop s.from_leaf y)) (e.first (drop s.from_leaf y')) r (still e.first decided s.from_leaf y y' b) t
relay_same e k decided s x x' y y' RelayHalts r a b t = t

pub relays_monotone : {H R L P : Type 0} (e : Ends H L P) (k : Relays R P) → IsDecided e.first → IsRelayMonotone (relay_star_of e k)
relays_monotone e k decided = (ends_monotone e decided, λ s x x' y y' r a b t. relay_same e k decided s x x' y y' (k.outlook s.core) r a b t)

module _ {H R L P : Type 0} (e : Ends H L P) (decided : IsDecided e.first) (k : Relays R P) where
  abbrev rs : RelayStar (HubEnd H) (RelayEnd R) (LeafEnd L)
  rs = relay_star_of e k

  abbrev taken_in : List (PacketLink L P × R) → List ℕ
  taken_in links = map (λ (q : PacketLink L P × R). link_taken e q.0) links

  abbrev ports_in : List (PacketLink L P × R) → List (RelayPort (RelayEnd R) (LeafEnd L))
  ports_in links = map (port_in_bytes e) links

  same_relays : (core : H) (taken taken' : List ℕ) (ports ports' : List (RelayPort (RelayEnd R) (LeafEnd L))) → taken ≡ taken' → ports ≡ ports' → ◌≡◌ {A = RelayCalm (HubEnd H) (RelayEnd R) (LeafEnd L)} (record { hub = record { core = core; taken = taken }; ports = ports }) (record { hub = record { core = core; taken = taken' }; ports = ports' })
  same_relays core taken taken' ports ports' a b = λ d. record { hub = record { core = core; taken = a d }; ports = b d }

  -- The packet that was just sent is the first one that is not taken.
  first_sent : (old : List ℕ) (m : P) → IsReadBack e.first e.write m → e.first (drop (length old) (old ++ e.write m)) ≡ Some (m, length (e.write m))
  first_sent old m back = ap e.first (drop_front old (e.write m) ∙ sym (append-nil (e.write m))) ∙ back []

  wrote : (old : List P) (m : P) → written e.write old ++ e.write m ≡ written e.write (old ++ m ∷ [])
  wrote old m = ap (λ t. written e.write old ++ t) (sym (append-nil (e.write m))) ∙ sym (written_append e.write old (m ∷ []))

  wrote_out : (q : PacketLink L P) (m : P) → written e.write (q.out_taken ++ q.out_waiting) ++ e.write m ≡ written e.write (q.out_taken ++ (q.out_waiting ++ m ∷ []))
  wrote_out q m = wrote (q.out_taken ++ q.out_waiting) m ∙ ap (written e.write) (append_assoc q.out_taken q.out_waiting (m ∷ []))

  counted : (a : List ℕ) (m : P) (b : List ℕ) → a ++ e.write m ≡ b → length a + length (e.write m) ≡ length b
  counted a m b s = sym (length-append a (e.write m)) ∙ ap length s

  -- The hub sends, and the relay passes it on.

  sends_on : (f : RelayedWorld H R L P) (next : H) (m : ℕ × P) → e.hub_outlook f.hub ≡ HubActs next (Some m) → HubPasses e k f (HubActs next (Some m)) → relay_calm_all rs (relays_in_bytes e f) (moves_of_send m.0 (slice_get f.links m.0)) ≡ relays_in_bytes e (record { hub = next; links = relayed_send k f (Some m) })
  sends_on f next m w pass = go (slice_get f.links m.0) refl
    where
      c : RelayCalm (HubEnd H) (RelayEnd R) (LeafEnd L)
      c = relays_in_bytes e f

      h : HubEnd H
      h = record { core = next; taken = taken_in f.links }

      turns : hub_turn_now rs c ≡ Some (h, Some (m.0, e.write m.1))
      turns = ap (hub_turn_by e c.hub (λ p. field_of (λ q. q.relay_hub) [] (slice_get c.ports p))) w

      go : (o : Option (PacketLink L P × R)) → slice_get f.links m.0 ≡ o → relay_calm_all rs c (moves_of_send m.0 o) ≡ relays_in_bytes e (record { hub = next; links = relayed_sent k f.links m.0 m.1 o })
      go None s =
          ap (calm_hub c) turns
          ∙ ap (λ (o : Option (RelayPort (RelayEnd R) (LeafEnd L))). record { hub = h; ports = port_sent (ports_in f.links) (m.0, e.write m.1) o }) (slice_get-map (port_in_bytes e) f.links m.0 ∙ ap (option_map (port_in_bytes e)) s)
      go (Some q) s =
          ap (λ r. relay_calm_after rs (calm_hub c r) (MoveRelay m.0)) turns
          ∙ ap (λ (o : Option (RelayPort (RelayEnd R) (LeafEnd L))). relay_calm_after rs (record { hub = h; ports = port_sent (ports_in f.links) (m.0, e.write m.1) o }) (MoveRelay m.0)) at
          ∙ ap (λ (o : Option (RelayPort (RelayEnd R) (LeafEnd L))). relay_moved rs (record { hub = h; ports = set (ports_in f.links) m.0 sent }) m.0 o) (set_here (ports_in f.links) m.0 (port_in_bytes e q) sent at)
          ∙ ap (calm_relay (record { hub = h; ports = set (ports_in f.links) m.0 sent }) m.0 sent) turn
          ∙ same_relays next _ _ _ _ (sym (mapped_kept (λ (q : PacketLink L P × R). link_taken e q.0) f.links m.0 q q' s refl))
          (set_again (ports_in f.links) m.0 sent _ ∙ ap (set (ports_in f.links) m.0) port ∙ sym (map-set (port_in_bytes e) f.links m.0 q'))
        where
          q' : PacketLink L P × R
          q' = (with_sent q.0 m.1, (k.take q.1 m.1).0)

          at : slice_get (ports_in f.links) m.0 ≡ Some (port_in_bytes e q)
          at = mapped_get (port_in_bytes e) f.links m.0 q s

          old : List ℕ
          old = written e.write (q.0.out_taken ++ q.0.out_waiting)

          sent : RelayPort (RelayEnd R) (LeafEnd L)
          sent = record (port_in_bytes e q) { hub_relay = old ++ e.write m.1 }

          p : IsPassed e k q.1 AwaitsHub m.1
          p = pass q s

          turn : relay_turn_now rs sent ≡ Some (record { core = (k.take q.1 m.1).0; from_hub = length old + length (e.write m.1); from_leaf = length (written e.write q.0.back_taken) }, (e.write m.1, []))
          turn =
              ap (relay_turn_by e k sent.relay sent.hub_relay sent.leaf_relay) p.awaited
              ∙ ap (relay_takes_hub e k sent.relay) (first_sent old m.1 p.read)
              ∙ ap (λ (b : Bool). Some (record { core = (k.take q.1 m.1).0; from_hub = length old + length (e.write m.1); from_leaf = length (written e.write q.0.back_taken) }, (passed_on e.write m.1 b, []))) p.passed

          port : record sent { relay = record { core = (k.take q.1 m.1).0; from_hub = length old + length (e.write m.1); from_leaf = length (written e.write q.0.back_taken) }; relay_leaf = old ++ e.write m.1; relay_hub = written e.write q.0.back_taken ++ [] } ≡ port_in_bytes e q'
          port = λ d. record {
            relay = record { core = (k.take q.1 m.1).0; from_hub = counted old m.1 _ (wrote_out q.0 m.1) d; from_leaf = length (written e.write q.0.back_taken) };
            leaf = link_leaf e q.0;
            hub_relay = wrote_out q.0 m.1 d;
            relay_leaf = wrote_out q.0 m.1 d;
            leaf_relay = written e.write (q.0.back_taken ++ q.0.back_waiting);
            relay_hub = append-nil (written e.write q.0.back_taken) d;
          }

  -- The relay passes on the packet that the hub takes.

  takes_on : (f : RelayedWorld H R L P) (p : ℕ) (q : PacketLink L P × R) (m : P) (rest : List P) → e.hub_outlook f.hub ≡ HubWaits p → slice_get f.links p ≡ Some q → q.0.back_waiting ≡ m ∷ rest → IsPassed e k q.1 AwaitsLeaf m → relay_calm_all rs (relays_in_bytes e f) (MoveRelay p ∷ MoveHub ∷ []) ≡ relays_in_bytes e (relayed_takes e k f p q (m ∷ rest))
  takes_on f p q m rest w s b pass =
      ap (λ (c : RelayCalm (HubEnd H) (RelayEnd R) (LeafEnd L)). relay_calm_after rs c MoveHub)
      (ap (λ (o : Option (RelayPort (RelayEnd R) (LeafEnd L))). relay_moved rs c p o) at ∙ ap (calm_relay c p (port_in_bytes e q)) turn)
      ∙ ap (calm_hub c₁) (ap (hub_turn_by e c.hub (λ j. field_of (λ q. q.relay_hub) [] (slice_get c₁.ports j))) w ∙ ap (hub_after_take e c.hub p) first)
      ∙ same_relays (e.hub_take f.hub p m) _ _ _ _
      (ap (λ t. set (taken_in f.links) p t) (ap (λ t. t + length (e.write m)) taken ∙ longer e decided q.0.back_taken m) ∙ sym (map-set (λ (q : PacketLink L P × R). link_taken e q.0) f.links p q'))
      (ap (set (ports_in f.links) p) port ∙ sym (map-set (port_in_bytes e) f.links p q'))
    where
      c : RelayCalm (HubEnd H) (RelayEnd R) (LeafEnd L)
      c = relays_in_bytes e f

      q' : PacketLink L P × R
      q' = (with_taken q.0 m rest, (k.take q.1 m).0)

      at : slice_get (ports_in f.links) p ≡ Some (port_in_bytes e q)
      at = mapped_get (port_in_bytes e) f.links p q s

      old : List ℕ
      old = written e.write q.0.back_taken

      relay : RelayEnd R
      relay = record { core = (k.take q.1 m).0; from_hub = length (written e.write (q.0.out_taken ++ q.0.out_waiting)); from_leaf = length old + length (e.write m) }

      turn : relay_turn_now rs (port_in_bytes e q) ≡ Some (relay, ([], e.write m))
      turn =
          ap (relay_turn_by e k (port_in_bytes e q).relay (port_in_bytes {H = H} e q).hub_relay (port_in_bytes e q).leaf_relay) pass.awaited
          ∙ ap (relay_takes_leaf e k (port_in_bytes e q).relay) (ap (λ (ms : List P). e.first (drop (length old) (written e.write (q.0.back_taken ++ ms)))) b ∙ next_is e decided q.0.back_taken m rest pass.read)
          ∙ ap (λ (t : Bool). Some (relay, ([], passed_on e.write m t))) pass.passed

      passed : RelayPort (RelayEnd R) (LeafEnd L)
      passed = record (port_in_bytes e q) { relay = relay; relay_leaf = written e.write (q.0.out_taken ++ q.0.out_waiting) ++ []; relay_hub = old ++ e.write m }

      c₁ : RelayCalm (HubEnd H) (RelayEnd R) (LeafEnd L)
      c₁ = record { hub = c.hub; ports = set (ports_in f.links) p passed }

      taken : get_or (taken_in f.links) p 0 ≡ length old
      taken = mapped_at (λ (q : PacketLink L P × R). link_taken e q.0) f.links p q 0 s

      first : e.first (drop (get_or (taken_in f.links) p 0) (field_of (λ (q : RelayPort (RelayEnd R) (LeafEnd L)). q.relay_hub) [] (slice_get (set (ports_in f.links) p passed) p))) ≡ Some (m, length (e.write m))
      first =
          ap₂ (λ (t : ℕ) (o : Option (RelayPort (RelayEnd R) (LeafEnd L))). e.first (drop t (field_of (λ (q : RelayPort (RelayEnd R) (LeafEnd L)). q.relay_hub) [] o))) taken (set_here (ports_in f.links) p (port_in_bytes e q) passed at)
          ∙ first_sent old m pass.read

      port : passed ≡ port_in_bytes e q'
      port = λ d. record {
        relay = record { core = (k.take q.1 m).0; from_hub = length (written e.write (q.0.out_taken ++ q.0.out_waiting)); from_leaf = longer e decided q.0.back_taken m d };
        leaf = link_leaf e q.0;
        hub_relay = written e.write (q.0.out_taken ++ q.0.out_waiting);
        relay_leaf = append-nil (written e.write (q.0.out_taken ++ q.0.out_waiting)) d;
        leaf_relay = written e.write ((ap (λ (ms : List P). q.0.back_taken ++ ms) b ∙ sym (append_assoc q.0.back_taken (m ∷ []) rest)) d);
        relay_hub = wrote q.0.back_taken m d;
      }

  -- A leaf moves.

  leaf_on : (f : RelayedWorld H R L P) (p : ℕ) (q : PacketLink L P × R) → slice_get f.links p ≡ Some q → (v : LeafOutlook L P) → e.leaf_outlook q.0.leaf ≡ v → ((m : P) (rest : List P) → q.0.out_waiting ≡ m ∷ rest → IsReadBack e.first e.write m) → relay_calm_all rs (relays_in_bytes e f) (moves_of_leaf p q.0 v) ≡ relays_in_bytes e (relayed_leaf e f p q v)
  leaf_on f p q s v w good = cases v w
    where
      c : RelayCalm (HubEnd H) (RelayEnd R) (LeafEnd L)
      c = relays_in_bytes e f

      at : slice_get (ports_in f.links) p ≡ Some (port_in_bytes e q)
      at = mapped_get (port_in_bytes e) f.links p q s

      -- where the turn is known
      moved : (r : LeafEnd L × List ℕ) (q' : PacketLink L P × R) → leaf_turn_now rs (port_in_bytes e q) ≡ Some r → link_taken e q'.0 ≡ link_taken e q.0 → record (port_in_bytes e q) { leaf = r.0; leaf_relay = written e.write (q.0.back_taken ++ q.0.back_waiting) ++ r.1 } ≡ port_in_bytes e q' → relay_calm_after rs c (MoveLeaf p) ≡ relays_in_bytes e (record f { links = set f.links p q' })
      moved r q' t same port =
          ap (λ (o : Option (RelayPort (RelayEnd R) (LeafEnd L))). leaf_moved rs c p o) at
          ∙ ap (calm_leaf c p (port_in_bytes e q)) t
          ∙ same_relays f.hub _ _ _ _ (sym (mapped_kept (λ (q : PacketLink L P × R). link_taken e q.0) f.links p q q' s same)) (ap (set (ports_in f.links) p) port ∙ sym (map-set (port_in_bytes e) f.links p q'))

      more : (ms : List P) → written e.write (q.0.back_taken ++ q.0.back_waiting) ++ written e.write ms ≡ written e.write (q.0.back_taken ++ (q.0.back_waiting ++ ms))
      more ms = sym (written_append e.write (q.0.back_taken ++ q.0.back_waiting) ms) ∙ ap (written e.write) (append_assoc q.0.back_taken q.0.back_waiting ms)

      gets : (ms : List P) → q.0.out_waiting ≡ ms → e.leaf_outlook q.0.leaf ≡ LeafWaits → relay_calm_all rs c (moves_of_get p ms) ≡ relays_in_bytes e (relayed_gets e f p q ms)
      gets [] b w = refl
      gets (m ∷ rest) b w = moved (record { core = (e.leaf_take q.0.leaf m).0; taken = length (written e.write q.0.out_taken) + length (e.write m) }, written e.write (e.leaf_take q.0.leaf m).1) (with_leaf q.0 m rest (e.leaf_take q.0.leaf m), q.1)
          (ap (leaf_turn_by e (link_leaf e q.0) (written e.write (q.0.out_taken ++ q.0.out_waiting))) w
          ∙ ap (leaf_after_take e (link_leaf e q.0)) (ap (λ (ms : List P). e.first (drop (length (written e.write q.0.out_taken)) (written e.write (q.0.out_taken ++ ms)))) b ∙ next_is e decided q.0.out_taken m rest (good m rest b)))
          refl
          (λ d. record {
            relay = record { core = q.1; from_hub = length (written e.write (out d)); from_leaf = length (written e.write q.0.back_taken) };
            leaf = record { core = (e.leaf_take q.0.leaf m).0; taken = longer e decided q.0.out_taken m d };
            hub_relay = written e.write (out d);
            relay_leaf = written e.write (out d);
            leaf_relay = more (e.leaf_take q.0.leaf m).1 d;
            relay_hub = written e.write q.0.back_taken;
          })
        where
          out : q.0.out_taken ++ q.0.out_waiting ≡ (q.0.out_taken ++ m ∷ []) ++ rest
          out = ap (λ (ms : List P). q.0.out_taken ++ ms) b ∙ sym (append_assoc q.0.out_taken (m ∷ []) rest)

      cases : (v : LeafOutlook L P) → e.leaf_outlook q.0.leaf ≡ v → relay_calm_all rs c (moves_of_leaf p q.0 v) ≡ relays_in_bytes e (relayed_leaf e f p q v)
      cases (LeafActs next sends) w = moved (record { core = next; taken = length (written e.write q.0.out_taken) }, written e.write sends) (record (q.0) { leaf = next; back_waiting = q.0.back_waiting ++ sends }, q.1)
          (ap (leaf_turn_by e (link_leaf e q.0) (written e.write (q.0.out_taken ++ q.0.out_waiting))) w)
          refl
          (λ d. record (port_in_bytes e q) { leaf = record { core = next; taken = length (written e.write q.0.out_taken) }; leaf_relay = more sends d })
      cases LeafWaits w = gets q.0.out_waiting refl w
      cases LeafHalts w = refl

  -- A move of packets, in bytes.

  hub_on : (f : RelayedWorld H R L P) (v : HubOutlook H P) → e.hub_outlook f.hub ≡ v → HubPasses e k f v → relay_calm_all rs (relays_in_bytes e f) (moves_of_hub f v) ≡ relays_in_bytes e (relayed_hub e k f v)
  hub_on f (HubActs next None) w pass = ap (calm_hub (relays_in_bytes e f)) (ap (hub_turn_by e (relays_in_bytes e f).hub (λ p. field_of (λ q. q.relay_hub) [] (slice_get (relays_in_bytes e f).ports p))) w)
  hub_on f (HubActs next (Some m)) w pass = sends_on f next m w pass
  hub_on f (HubWaits p) w pass = go (slice_get f.links p) refl
    where
      takes : (q : PacketLink L P × R) → slice_get f.links p ≡ Some q → (ms : List P) → q.0.back_waiting ≡ ms → relay_calm_all rs (relays_in_bytes e f) (moves_of_take p ms) ≡ relays_in_bytes e (relayed_takes e k f p q ms)
      takes q s [] b = refl
      takes q s (m ∷ rest) b = takes_on f p q m rest w s b (pass q m rest s b)

      go : (o : Option (PacketLink L P × R)) → slice_get f.links p ≡ o → relay_calm_all rs (relays_in_bytes e f) (moves_of_wait p o) ≡ relays_in_bytes e (relayed_waits e k f p o)
      go None s = refl
      go (Some q) s = takes q s q.0.back_waiting refl
  hub_on f HubHalts w pass = refl

  move_on : (f : RelayedWorld H R L P) (m : Move) → MovePasses e k f m → relay_calm_all rs (relays_in_bytes e f) (moves_of e f m) ≡ relays_in_bytes e (relayed_after e k f m)
  move_on f HubMoves pass = hub_on f (e.hub_outlook f.hub) refl pass
  move_on f (LeafMoves p) pass = go (slice_get f.links p) refl
    where
      go : (o : Option (PacketLink L P × R)) → slice_get f.links p ≡ o → relay_calm_all rs (relays_in_bytes e f) (moves_of_leaf_at e p o) ≡ relays_in_bytes e (relayed_leaf_at e f p o)
      go None s = refl
      go (Some q) s = leaf_on f p q s (e.leaf_outlook q.0.leaf) refl (λ m rest b. pass q m rest s b)

  relay_append : (c : RelayCalm (HubEnd H) (RelayEnd R) (LeafEnd L)) (xs ys : List RelayMove) → relay_calm_all rs c (xs ++ ys) ≡ relay_calm_all rs (relay_calm_all rs c xs) ys
  relay_append c [] ys = refl
  relay_append c (x ∷ xs) ys = relay_append (relay_calm_after rs c x) xs ys

  -- The run, in bytes.
  pub relayed_in_bytes : (f : RelayedWorld H R L P) (ms : List Move) → AllPass e k f ms → relay_calm_all rs (relays_in_bytes e f) (relayed_moves e k f ms) ≡ relays_in_bytes e (relayed_all e k f ms)
  relayed_in_bytes f [] pass = refl
  relayed_in_bytes f (m ∷ ms) pass =
      relay_append (relays_in_bytes e f) (moves_of e f m) (relayed_moves e k (relayed_after e k f m) ms)
      ∙ ap (λ c. relay_calm_all rs c (relayed_moves e k (relayed_after e k f m) ms)) (move_on f m pass.0)
      ∙ relayed_in_bytes (relayed_after e k f m) ms pass.1
