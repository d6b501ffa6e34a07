-- In a run of packets each leaf is on its own run over what it has taken, with as many turns as are counted.
use Rattle.std.proofs.Common.{◌≡◌, ℕ, zero, suc, ◌+◌, ◌≢◌, ◌==◌, inl, Bool, true, false, List, [], ◌∷◌, ◌++◌, set, Option, Some, None, slice_get, if◌then◌else◌, refl, sym, ap, ◌∙◌, subst, arith, append_assoc, add-zero, eqb-true}
use Rattle.std.proofs.lemmas.Bool.{eqb-false}
use Rattle.std.proofs.lemmas.Option.{none-some, same_Some}
use Rattle.process_network.specs.Network.{IsPrefix}
use Rattle.process_network.specs.PacketProcesses.{IsDecided}
use Rattle.process_network.specs.CalmRun.{Move}
use Rattle.process_network.specs.CalmRun.Move.{HubMoves, LeafMoves}
use Rattle.process_network.specs.PacketStar.{HubOutlook, LeafOutlook, Ends, written, LeafEnd, leaf_after_take, leaf_turn_by, star_of, PacketLink, PacketWorld, with_packet, hub_takes, hub_waits_on, hub_packet_move, leaf_takes, leaf_packet_move, packet_move_at, packets_after, packets_all, packets_start, link_leaf, fresh_link, fresh_leaf, IsReadable, AllReadable, leaf_count, leaf_count_at, waiting_count, one_packet_leaf_move, packet_leaf_turns}
use Rattle.process_network.specs.PacketStar.HubOutlook.{HubActs, HubWaits, HubHalts}
use Rattle.process_network.specs.PacketStar.LeafOutlook.{LeafActs, LeafWaits, LeafHalts}
use Rattle.process_network.specs.StarTalk.{IsLeafRun}
use Rattle.process_network.proofs.PacketRuns.{ends_monotone, written_append, next_is, longer, mapped_get}
use Rattle.relay_network.proofs.RelayNetwork.{set_here, set_there}

-- What a change at j keeps of what holds at p.
set_at : {A : Type 0} (T : A → Type 0) (xs : List A) (j : ℕ) (q q' : A) (p : ℕ) → slice_get xs j ≡ Some q → (T q → T q') → ((r : A) → slice_get xs p ≡ Some r → T r) → (r : A) → slice_get (set xs j q') p ≡ Some r → T r
set_at T [] j q q' p s keep all r g = absurd (none-some r g)
set_at T (x ∷ xs) zero q q' zero s keep all r g = subst T (same_Some q' r g) (keep (all q s))
set_at T (x ∷ xs) zero q q' (suc p) s keep all r g = all r g
set_at T (x ∷ xs) (suc j) q q' zero s keep all r g = all r g
set_at T (x ∷ xs) (suc j) q q' (suc p) s keep all r g = set_at T xs j q q' p s keep all r g

module _ {H L P : Type 0} (e : Ends H L P) (decided : IsDecided e.first) (l : L) (p : ℕ) where
  abbrev pub Ran : PacketLink L P → ℕ → Type 0
  Ran q n = IsLeafRun (star_of e) (fresh_leaf l) (written e.write q.out_taken) n (link_leaf e q) (written e.write (q.back_taken ++ q.back_waiting))

  abbrev pub RanAt : PacketWorld H L P → ℕ → Type 0
  RanAt c n = (q : PacketLink L P) → slice_get c.links p ≡ Some q → Ran q n

  pub run_more : (x y : List ℕ) → IsPrefix x y → (n : ℕ) (t : LeafEnd L) (o : List ℕ) → IsLeafRun (star_of e) (fresh_leaf l) x n t o → IsLeafRun (star_of e) (fresh_leaf l) y n t o
  run_more x y b zero t o run = run
  run_more x y b (suc n) t o run = (run.0, run.1, run.2, run_more x y b n run.0 run.1 run.3, (ends_monotone e decided).1 run.0 x y (t, run.2) b run.4, run.5)

  hub_ran : (c : PacketWorld H L P) (n : ℕ) (v : HubOutlook H P) → RanAt c n → RanAt (hub_packet_move e c v) n
  hub_ran c n (HubActs next None) ran = ran
  hub_ran c n (HubActs next (Some m)) ran = go (slice_get c.links m.0) refl
    where
      go : (o : Option (PacketLink L P)) → slice_get c.links m.0 ≡ o → RanAt (record { hub = next; links = with_packet c.links m.0 m.1 o }) n
      go None s = ran
      go (Some q) s = set_at (λ r. Ran r n) c.links m.0 q _ p s (λ a. a) ran
  hub_ran c n (HubWaits j) ran = go (slice_get c.links j) refl
    where
      takes : (q : PacketLink L P) → slice_get c.links j ≡ Some q → (ms : List P) → q.back_waiting ≡ ms → RanAt (hub_takes e c j q ms) n
      takes q s [] b = ran
      takes q s (m ∷ rest) b = set_at (λ r. Ran r n) c.links j q _ p s
          (subst (λ (ms : List P). IsLeafRun (star_of e) (fresh_leaf l) (written e.write q.out_taken) n (link_leaf e q) (written e.write ms)) (ap (λ (ms : List P). q.back_taken ++ ms) b ∙ sym (append_assoc q.back_taken (m ∷ []) rest))) ran

      go : (o : Option (PacketLink L P)) → slice_get c.links j ≡ o → RanAt (hub_waits_on e c j o) n
      go None s = ran
      go (Some q) s = takes q s q.back_waiting refl
  hub_ran c n HubHalts ran = ran

  same_count : (c : PacketWorld H L P) (n : ℕ) → RanAt c n → RanAt c (n + 0)
  same_count c n ran = subst (λ m. RanAt c m) (sym (add-zero n)) ran

  -- The leaf itself moves.
  leaf_ran : (c : PacketWorld H L P) (n : ℕ) → IsReadable e c → RanAt c n → RanAt (packet_move_at e c p (slice_get c.links p)) (n + leaf_count_at e (slice_get c.links p))
  leaf_ran c n good ran = go (slice_get c.links p) refl
    where
      turned : (q q' : PacketLink L P) → slice_get c.links p ≡ Some q → Ran q' (suc n) → RanAt (record { hub = c.hub; links = set c.links p q' }) (n + 1)
      turned q q' s run r g = let one : suc n ≡ n + 1 = omega arith in subst (λ m. Ran r m) one (subst (λ (r : PacketLink L P). Ran r (suc n)) (same_Some q' r (sym (set_here c.links p q q' s) ∙ g)) run)

      gets : (q : PacketLink L P) → slice_get c.links p ≡ Some q → e.leaf_outlook q.leaf ≡ LeafWaits → (ms : List P) → q.out_waiting ≡ ms → RanAt (leaf_takes e c p q ms) (n + waiting_count ms)
      gets q s w [] b = same_count c n ran
      gets q s w (m ∷ rest) b = turned q _ s (
        link_leaf e q,
        written e.write (q.back_taken ++ q.back_waiting),
        written e.write (e.leaf_take q.leaf m).1,
        run_more (written e.write q.out_taken) (written e.write (q.out_taken ++ m ∷ [])) (written e.write (m ∷ []), sym (written_append e.write q.out_taken (m ∷ []))) n (link_leaf e q) (written e.write (q.back_taken ++ q.back_waiting)) (ran q s),
        ap (leaf_turn_by e (link_leaf e q) (written e.write (q.out_taken ++ m ∷ []))) w
            ∙ ap (leaf_after_take e (link_leaf e q)) (next_is e decided q.out_taken m [] (good p q m rest s (inl b)))
            ∙ ap (λ t. Some (record { core = (e.leaf_take q.leaf m).0; taken = t }, written e.write (e.leaf_take q.leaf m).1)) (longer e decided q.out_taken m),
        ap (written e.write) (sym (append_assoc q.back_taken q.back_waiting (e.leaf_take q.leaf m).1)) ∙ written_append e.write (q.back_taken ++ q.back_waiting) (e.leaf_take q.leaf m).1,
      )

      leaf : (q : PacketLink L P) → slice_get c.links p ≡ Some q → (v : LeafOutlook L P) → e.leaf_outlook q.leaf ≡ v → RanAt (leaf_packet_move e c p q v) (n + leaf_count q v)
      leaf q s (LeafActs next sends) w = turned q _ s (
        link_leaf e q,
        written e.write (q.back_taken ++ q.back_waiting),
        written e.write sends,
        ran q s,
        ap (leaf_turn_by e (link_leaf e q) (written e.write q.out_taken)) w,
        ap (written e.write) (sym (append_assoc q.back_taken q.back_waiting sends)) ∙ written_append e.write (q.back_taken ++ q.back_waiting) sends,
      )
      leaf q s LeafWaits w = gets q s w q.out_waiting refl
      leaf q s LeafHalts w = same_count c n ran

      go : (o : Option (PacketLink L P)) → slice_get c.links p ≡ o → RanAt (packet_move_at e c p o) (n + leaf_count_at e o)
      go None s = same_count c n ran
      go (Some q) s = leaf q s (e.leaf_outlook q.leaf) refl

  -- Another leaf moves.
  other_ran : (c : PacketWorld H L P) (n j : ℕ) → p ≢ j → RanAt c n → RanAt (packet_move_at e c j (slice_get c.links j)) n
  other_ran c n j ne ran = go (slice_get c.links j)
    where
      away : (v : PacketLink L P) → RanAt (record { hub = c.hub; links = set c.links j v }) n
      away v q g = ran q (sym (set_there c.links j v p ne) ∙ g)

      gets : (q : PacketLink L P) (ms : List P) → RanAt (leaf_takes e c j q ms) n
      gets q [] = ran
      gets q (m ∷ rest) = away _

      leaf : (q : PacketLink L P) (v : LeafOutlook L P) → RanAt (leaf_packet_move e c j q v) n
      leaf q (LeafActs next sends) = away _
      leaf q LeafWaits = gets q q.out_waiting
      leaf q LeafHalts = ran

      go : (o : Option (PacketLink L P)) → RanAt (packet_move_at e c j o) n
      go None = ran
      go (Some q) = leaf q (e.leaf_outlook q.leaf)

  move_ran : (c : PacketWorld H L P) (n : ℕ) (m : Move) → IsReadable e c → RanAt c n → RanAt (packets_after e c m) (n + one_packet_leaf_move e c p m)
  move_ran c n HubMoves good ran = same_count (hub_packet_move e c (e.hub_outlook c.hub)) n (hub_ran c n (e.hub_outlook c.hub) ran)
  move_ran c n (LeafMoves j) good ran = go (j == p) refl
    where
      go : (b : Bool) → (j == p) ≡ b → RanAt (packet_move_at e c j (slice_get c.links j)) (n + (if b then leaf_count_at e (slice_get c.links j) else 0))
      go true s = subst (λ t. RanAt (packet_move_at e c t (slice_get c.links t)) (n + leaf_count_at e (slice_get c.links t))) (sym (eqb-true j p s)) (leaf_ran c n good ran)
      go false s = same_count (packet_move_at e c j (slice_get c.links j)) n (other_ran c n j (λ same. eqb-false j p s (sym same)) ran)

  ran_all : (c : PacketWorld H L P) (n : ℕ) (ms : List Move) → AllReadable e c ms → RanAt c n → RanAt (packets_all e c ms) (n + packet_leaf_turns e c p ms)
  ran_all c n [] good ran = same_count c n ran
  ran_all c n (m ∷ ms) good ran =
      let sum : n + one_packet_leaf_move e c p m + packet_leaf_turns e (packets_after e c m) p ms ≡ n + (one_packet_leaf_move e c p m + packet_leaf_turns e (packets_after e c m) p ms) = omega arith in
      subst (λ t. RanAt (packets_all e (packets_after e c m) ms) t) sum (ran_all (packets_after e c m) (n + one_packet_leaf_move e c p m) ms good.1 (move_ran c n m good.0 ran))

  -- From the start.
  pub leaf_run_after : (hub : H) (leaves : List L) (ms : List Move) → slice_get leaves p ≡ Some l → AllReadable e (packets_start hub leaves) ms → RanAt (packets_all e (packets_start hub leaves) ms) (packet_leaf_turns e (packets_start hub leaves) p ms)
  leaf_run_after hub leaves ms s good =
      let zero : 0 + packet_leaf_turns e (packets_start hub leaves) p ms ≡ packet_leaf_turns e (packets_start hub leaves) p ms = omega arith in
      subst (λ t. RanAt (packets_all e (packets_start hub leaves) ms) t) zero (ran_all (packets_start hub leaves) 0 ms good first)
    where
      first : RanAt (packets_start hub leaves) 0
      first q g = subst (λ (q : PacketLink L P). Ran q 0) (same_Some (fresh_link l) q (sym (mapped_get fresh_link leaves p l s) ∙ g)) (refl, refl)
