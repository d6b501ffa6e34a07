-- A relay on its run has passed on as many bytes as it has taken.
use Rattle.std.proofs.Common.{◌≡◌, ℕ, zero, suc, ◌+◌, ◌<◌, ◌≤◌, ⊎_elim, Bool, List, [], ◌∷◌, ◌++◌, length, drop, set, map, Option, Some, None, slice_get, refl, sym, ap, ap₂, ◌∙◌, subst, arith, append_assoc, append-nil, length-append, length-drop, eq-or-lt_of_le, le_of_suc-le-suc}
use Rattle.std.proofs.lemmas.Option.{none-some, same_Some}
use Rattle.process_network.specs.Network.{IsPrefix}
use Rattle.process_network.specs.PacketProcesses.{IsDecided}
use Rattle.process_network.specs.CalmRun.{Move}
use Rattle.process_network.specs.CalmRun.Move.{HubMoves, LeafMoves}
use Rattle.process_network.specs.PacketStar.{HubOutlook, LeafOutlook, Ends, written, IsReadBack, PacketLink, with_sent, with_leaf, with_taken, fresh_link}
use Rattle.process_network.specs.PacketStar.HubOutlook.{HubActs, HubWaits, HubHalts}
use Rattle.process_network.specs.PacketStar.LeafOutlook.{LeafActs, LeafWaits, LeafHalts}
use Rattle.process_network.proofs.Prefixes.{prefix_trans}
use Rattle.process_network.proofs.PacketRuns.{drop_front, written_append}
use Rattle.relay_network.specs.RelayPackets.{RelayOutlook, Relays, RelayEnd, passed_on, relay_takes_hub, relay_takes_leaf, relay_turn_by, fresh_relay, RelayedWorld, relayed_sent, relayed_takes, relayed_waits, relayed_hub, relayed_gets, relayed_leaf, relayed_leaf_at, relayed_after, relayed_all, relayed_start, IsPassed, HubPasses, MovePasses, AllPass}
use Rattle.relay_network.specs.RelayPackets.RelayOutlook.{AwaitsHub, AwaitsLeaf, RelayHalts}

-- A member of a list after one of them is changed.
all_set : {A : Type 0} (T : A → Type 0) (xs : List A) (p : ℕ) (v : A) → ((j : ℕ) (q : A) → slice_get xs j ≡ Some q → T q) → T v → (j : ℕ) (q : A) → slice_get (set xs p v) j ≡ Some q → T q
all_set T [] p v all here j q s = absurd (none-some q s)
all_set T (x ∷ xs) zero v all here zero q s = subst T (same_Some v q s) here
all_set T (x ∷ xs) zero v all here (suc j) q s = all (suc j) q s
all_set T (x ∷ xs) (suc p) v all here zero q s = all zero q s
all_set T (x ∷ xs) (suc p) v all here (suc j) q s = all_set T xs p v (λ j. all (suc j)) here j q s

module _ {H R L P : Type 0} (e : Ends H L P) (decided : IsDecided e.first) (k : Relays R P) (relay : R) where
  -- A relay over x from the hub and y from the leaf, after m turns, has sent a to the leaf and b to the hub.
  abbrev pub RelayRuns : List ℕ → List ℕ → ℕ → RelayEnd R → List ℕ → List ℕ → Type 0
  RelayRuns x y zero s a b = (s ≡ fresh_relay relay) × (a ≡ []) × (b ≡ [])
  RelayRuns x y (suc m) s a b = (s₀ : RelayEnd R) × (a₀ : List ℕ) × (b₀ : List ℕ) × (t : List ℕ × List ℕ) × RelayRuns x y m s₀ a₀ b₀ × (relay_turn_by e k s₀ x y (k.outlook s₀.core) ≡ Some (s, t)) × (a ≡ a₀ ++ t.0) × (b ≡ b₀ ++ t.1)

  -- What it has taken from each side was passed on to the other.
  abbrev pub IsFaithful : RelayEnd R → List ℕ → List ℕ → Type 0
  IsFaithful s a b = (s.from_hub ≡ length a) × (s.from_leaf ≡ length b)

  -- Over more than out and back, it was faithful for c turns, and is then in state r.
  abbrev pub KnownBy : List ℕ → List ℕ → RelayEnd R → ℕ → Type 0
  KnownBy out back r c = (x y : List ℕ) → IsPrefix out x → IsPrefix back y → (m : ℕ) (s : RelayEnd R) (a b : List ℕ) → RelayRuns x y m s a b → (m ≤ c → IsFaithful s a b) × (m ≡ c → s ≡ r)

  known_start : KnownBy [] [] (fresh_relay relay) 0
  known_start x y px py zero s a b run = ((λ l. (ap (λ (s : RelayEnd R). s.from_hub) run.0 ∙ sym (ap length run.1), ap (λ (s : RelayEnd R). s.from_leaf) run.0 ∙ sym (ap length run.2))), λ same. run.0)
  known_start x y px py (suc m) s a b run = ((λ l. absurd (omega arith)), λ same. absurd (omega arith))

  -- One more turn.
  known_more : (out back out' back' : List ℕ) (r r' : RelayEnd R) (c : ℕ) (t : List ℕ × List ℕ) → IsPrefix out out' → IsPrefix back back' → ((x y : List ℕ) → IsPrefix out' x → IsPrefix back' y → relay_turn_by e k r x y (k.outlook r.core) ≡ Some (r', t)) → (r'.from_hub ≡ r.from_hub + length t.0) → (r'.from_leaf ≡ r.from_leaf + length t.1) → KnownBy out back r c → KnownBy out' back' r' (suc c)
  known_more out back out' back' r r' c t po pb turn hub_side leaf_side known x y px py zero s a b run =
      ((λ l. (known x y (prefix_trans out out' x po px) (prefix_trans back back' y pb py) zero s a b run).0 (omega arith)), λ same. absurd (omega arith))
  known_more out back out' back' r r' c t po pb turn hub_side leaf_side known x y px py (suc m) s a b run = (first, λ same. (now (omega arith)).0)
    where
      before : (m ≤ c → IsFaithful run.0 run.1 run.2) × (m ≡ c → run.0 ≡ r)
      before = known x y (prefix_trans out out' x po px) (prefix_trans back back' y pb py) m run.0 run.1 run.2 run.4

      now : m ≡ c → (s ≡ r') × IsFaithful s a b
      now same =
          let at : run.0 ≡ r = before.1 same in
          let old = before.0 (omega arith) in
          let both : ◌≡◌ {A = RelayEnd R × (List ℕ × List ℕ)} (s, run.3) (r', t) = same_Some {A = RelayEnd R × (List ℕ × List ℕ)} (s, run.3) (r', t) (sym run.5 ∙ ap (λ (v : RelayEnd R). relay_turn_by e k v x y (k.outlook v.core)) at ∙ turn x y px py) in
          let state : s ≡ r' = ap (λ (v : RelayEnd R × (List ℕ × List ℕ)). v.0) both in
          let hub_now : s.from_hub ≡ r'.from_hub = ap (λ (v : RelayEnd R). v.from_hub) state in
          let leaf_now : s.from_leaf ≡ r'.from_leaf = ap (λ (v : RelayEnd R). v.from_leaf) state in
          let hub_then : run.0.from_hub ≡ r.from_hub = ap (λ (v : RelayEnd R). v.from_hub) at in
          let leaf_then : run.0.from_leaf ≡ r.from_leaf = ap (λ (v : RelayEnd R). v.from_leaf) at in
          let hub_sent : length run.3.0 ≡ length t.0 = ap (λ (v : RelayEnd R × (List ℕ × List ℕ)). length v.1.0) both in
          let leaf_sent : length run.3.1 ≡ length t.1 = ap (λ (v : RelayEnd R × (List ℕ × List ℕ)). length v.1.1) both in
          let la : length a ≡ length run.1 + length run.3.0 = ap length run.6 ∙ length-append run.1 run.3.0 in
          let lb : length b ≡ length run.2 + length run.3.1 = ap length run.7 ∙ length-append run.2 run.3.1 in
          let old_hub : run.0.from_hub ≡ length run.1 = old.0 in
          let old_leaf : run.0.from_leaf ≡ length run.2 = old.1 in
          (state, (omega arith, omega arith))

      first : suc m ≤ suc c → IsFaithful s a b
      first l = ⊎_elim
          (λ (same : m ≡ c). (now same).1)
          (λ (less : m < c). (known x y (prefix_trans out out' x po px) (prefix_trans back back' y pb py) (suc m) s a b run).0 less)
          (eq-or-lt_of_le (le_of_suc-le-suc l))

  -- What is known of the relay of a link.
  abbrev pub relay_of : PacketLink L P × R → RelayEnd R
  relay_of q = record { core = q.1; from_hub = length (written e.write (q.0.out_taken ++ q.0.out_waiting)); from_leaf = length (written e.write q.0.back_taken) }

  abbrev pub turns_of : PacketLink L P × R → ℕ
  turns_of q = length (q.0.out_taken ++ q.0.out_waiting) + length q.0.back_taken

  abbrev pub Known : PacketLink L P × R → Type 0
  Known q = KnownBy (written e.write (q.0.out_taken ++ q.0.out_waiting)) (written e.write q.0.back_taken) (relay_of q) (turns_of q)

  wrote : (old : List P) (m : P) → written e.write old ++ e.write m ≡ written e.write (old ++ m ∷ [])
  wrote old m = ap (λ t. written e.write old ++ t) (sym (append-nil (e.write m))) ∙ sym (written_append e.write old (m ∷ []))

  wrote_length : (old : List P) (m : P) → length (written e.write (old ++ m ∷ [])) ≡ length (written e.write old) + length (e.write m)
  wrote_length old m = ap length (sym (wrote old m)) ∙ length-append (written e.write old) (e.write m)

  first_of : (old : List ℕ) (m : P) (x : List ℕ) → IsReadBack e.first e.write m → IsPrefix (old ++ e.write m) x → e.first (drop (length old) x) ≡ Some (m, length (e.write m))
  first_of old m x back p =
      ap (λ t. e.first (drop (length old) t)) (sym p.1 ∙ append_assoc old (e.write m) p.0)
      ∙ ap e.first (drop_front old (e.write m ++ p.0)) ∙ back p.0

  known_sent : (q : PacketLink L P × R) (m : P) → IsPassed e k q.1 AwaitsHub m → Known q → Known (with_sent q.0 m, (k.take q.1 m).0)
  known_sent q m pass known = subst (λ c. KnownBy (written e.write (q.0.out_taken ++ (q.0.out_waiting ++ m ∷ []))) (written e.write q.0.back_taken) (relay_of (with_sent q.0 m, (k.take q.1 m).0)) c) count
      (subst (λ (ms : List P). KnownBy (written e.write ms) (written e.write q.0.back_taken) (record { core = (k.take q.1 m).0; from_hub = length (written e.write ms); from_leaf = length (written e.write q.0.back_taken) }) (suc (turns_of q))) (append_assoc q.0.out_taken q.0.out_waiting (m ∷ []))
      (known_more old back (written e.write (all ++ m ∷ [])) back (relay_of q) next (turns_of q) (e.write m, []) (e.write m, wrote all m) ([], append-nil back) turn (wrote_length all m) (omega arith) known))
    where
      all : List P
      all = q.0.out_taken ++ q.0.out_waiting

      old : List ℕ
      old = written e.write all

      back : List ℕ
      back = written e.write q.0.back_taken

      next : RelayEnd R
      next = record { core = (k.take q.1 m).0; from_hub = length (written e.write (all ++ m ∷ [])); from_leaf = length back }

      turn : (x y : List ℕ) → IsPrefix (written e.write (all ++ m ∷ [])) x → IsPrefix back y → relay_turn_by e k (relay_of q) x y (k.outlook q.1) ≡ Some (next, (e.write m, []))
      turn x y px py =
          ap (relay_turn_by e k (relay_of q) x y) pass.awaited
          ∙ ap (relay_takes_hub e k (relay_of q)) (first_of old m x pass.read (subst (λ t. IsPrefix t x) (sym (wrote all m)) px))
          ∙ ap₂ (λ (n : ℕ) (b : Bool). Some (record { core = (k.take q.1 m).0; from_hub = n; from_leaf = length back }, (passed_on e.write m b, []))) (sym (wrote_length all m)) pass.passed

      count : suc (turns_of q) ≡ length (q.0.out_taken ++ (q.0.out_waiting ++ m ∷ [])) + length q.0.back_taken
      count =
          let a : length (q.0.out_taken ++ (q.0.out_waiting ++ m ∷ [])) ≡ length (all ++ m ∷ []) = ap length (sym (append_assoc q.0.out_taken q.0.out_waiting (m ∷ []))) in
          let b : length (all ++ m ∷ []) ≡ length all + 1 = length-append all (m ∷ []) in
          omega arith

  known_taken : (q : PacketLink L P × R) (m : P) (rest : List P) → IsPassed e k q.1 AwaitsLeaf m → Known q → Known (with_taken q.0 m rest, (k.take q.1 m).0)
  known_taken q m rest pass known = subst (λ c. KnownBy out (written e.write (q.0.back_taken ++ m ∷ [])) next c) count
      (known_more out old out (written e.write (q.0.back_taken ++ m ∷ [])) (relay_of q) next (turns_of q) ([], e.write m) ([], append-nil out) (e.write m, wrote q.0.back_taken m) turn (omega arith) (wrote_length q.0.back_taken m) known)
    where
      out : List ℕ
      out = written e.write (q.0.out_taken ++ q.0.out_waiting)

      old : List ℕ
      old = written e.write q.0.back_taken

      next : RelayEnd R
      next = record { core = (k.take q.1 m).0; from_hub = length out; from_leaf = length (written e.write (q.0.back_taken ++ m ∷ [])) }

      turn : (x y : List ℕ) → IsPrefix out x → IsPrefix (written e.write (q.0.back_taken ++ m ∷ [])) y → relay_turn_by e k (relay_of q) x y (k.outlook q.1) ≡ Some (next, ([], e.write m))
      turn x y px py =
          ap (relay_turn_by e k (relay_of q) x y) pass.awaited
          ∙ ap (relay_takes_leaf e k (relay_of q)) (first_of old m y pass.read (subst (λ t. IsPrefix t y) (sym (wrote q.0.back_taken m)) py))
          ∙ ap₂ (λ (n : ℕ) (b : Bool). Some (record { core = (k.take q.1 m).0; from_hub = length out; from_leaf = n }, ([], passed_on e.write m b))) (sym (wrote_length q.0.back_taken m)) pass.passed

      count : suc (turns_of q) ≡ length (q.0.out_taken ++ q.0.out_waiting) + length (q.0.back_taken ++ m ∷ [])
      count = let b : length (q.0.back_taken ++ m ∷ []) ≡ length q.0.back_taken + 1 = length-append q.0.back_taken (m ∷ []) in omega arith

  -- All relays are known, after each move.
  abbrev AllKnown : List (PacketLink L P × R) → Type 0
  AllKnown links = (p : ℕ) (q : PacketLink L P × R) → slice_get links p ≡ Some q → Known q

  move_known : (f : RelayedWorld H R L P) (m : Move) → MovePasses e k f m → AllKnown f.links → AllKnown (relayed_after e k f m).links
  move_known f HubMoves pass known = hub (e.hub_outlook f.hub) pass
    where
      hub : (v : HubOutlook H P) → HubPasses e k f v → AllKnown (relayed_hub e k f v).links
      hub (HubActs next None) pass = known
      hub (HubActs next (Some m)) pass = go (slice_get f.links m.0) refl
        where
          go : (o : Option (PacketLink L P × R)) → slice_get f.links m.0 ≡ o → AllKnown (relayed_sent k f.links m.0 m.1 o)
          go None s = known
          go (Some q) s = all_set Known f.links m.0 (with_sent q.0 m.1, (k.take q.1 m.1).0) known (known_sent q m.1 (pass q s) (known m.0 q s))
      hub (HubWaits p) pass = go (slice_get f.links p) refl
        where
          takes : (q : PacketLink L P × R) → slice_get f.links p ≡ Some q → (ms : List P) → q.0.back_waiting ≡ ms → AllKnown (relayed_takes e k f p q ms).links
          takes q s [] b = known
          takes q s (m ∷ rest) b = all_set Known f.links p (with_taken q.0 m rest, (k.take q.1 m).0) known (known_taken q m rest (pass q m rest s b) (known p q s))

          go : (o : Option (PacketLink L P × R)) → slice_get f.links p ≡ o → AllKnown (relayed_waits e k f p o).links
          go None s = known
          go (Some q) s = takes q s q.0.back_waiting refl
      hub HubHalts pass = known
  move_known f (LeafMoves p) pass known = go (slice_get f.links p) refl
    where
      gets : (q : PacketLink L P × R) → slice_get f.links p ≡ Some q → (ms : List P) → q.0.out_waiting ≡ ms → AllKnown (relayed_gets e f p q ms).links
      gets q s [] b = known
      gets q s (m ∷ rest) b = all_set Known f.links p (with_leaf q.0 m rest (e.leaf_take q.0.leaf m), q.1) known
          (subst (λ (ms : List P). KnownBy (written e.write ms) (written e.write q.0.back_taken) (record { core = q.1; from_hub = length (written e.write ms); from_leaf = length (written e.write q.0.back_taken) }) (length ms + length q.0.back_taken))
          (ap (λ (ms : List P). q.0.out_taken ++ ms) b ∙ sym (append_assoc q.0.out_taken (m ∷ []) rest)) (known p q s))

      leaf : (q : PacketLink L P × R) → slice_get f.links p ≡ Some q → (v : LeafOutlook L P) → AllKnown (relayed_leaf e f p q v).links
      leaf q s (LeafActs next sends) = all_set Known f.links p (record (q.0) { leaf = next; back_waiting = q.0.back_waiting ++ sends }, q.1) known (known p q s)
      leaf q s LeafWaits = gets q s q.0.out_waiting refl
      leaf q s LeafHalts = known

      go : (o : Option (PacketLink L P × R)) → slice_get f.links p ≡ o → AllKnown (relayed_leaf_at e f p o).links
      go None s = known
      go (Some q) s = leaf q s (e.leaf_outlook q.0.leaf)

  all_known : (f : RelayedWorld H R L P) (ms : List Move) → AllPass e k f ms → AllKnown f.links → AllKnown (relayed_all e k f ms).links
  all_known f [] pass known = known
  all_known f (m ∷ ms) pass known = all_known (relayed_after e k f m) ms pass.1 (move_known f m pass.0 known)

  fresh_known : (ls : List L) → AllKnown (map (λ l. (fresh_link {P = P} l, relay)) ls)
  fresh_known [] p q s = absurd (none-some q s)
  fresh_known (l ∷ ls) zero q s = subst Known (same_Some (fresh_link l, relay) q s) known_start
  fresh_known (l ∷ ls) (suc p) q s = fresh_known ls p q s

  -- At the end of a run each relay is known.
  pub end_known : (hub : H) (leaves : List L) (ms : List Move) → AllPass e k (relayed_start hub relay leaves) ms → (p : ℕ) (q : PacketLink L P × R) → slice_get (relayed_all e k (relayed_start hub relay leaves) ms).links p ≡ Some q → Known q
  end_known hub leaves ms pass = all_known (relayed_start hub relay leaves) ms pass (fresh_known leaves)

  -- A turn takes no more than was received, and takes something.

  hub_side : (s : RelayEnd R) (x : List ℕ) (o : Option (P × ℕ)) → e.first (drop s.from_hub x) ≡ o → (r : RelayEnd R × (List ℕ × List ℕ)) → relay_takes_hub e k s o ≡ Some r → s.from_hub ≤ length x → (r.0.from_hub ≤ length x) × (s.from_hub < r.0.from_hub) × (r.0.from_leaf ≡ s.from_leaf)
  hub_side s x None f r t l = absurd (none-some r t)
  hub_side s x (Some m) f r t l = subst (λ (r : RelayEnd R × (List ℕ × List ℕ)). (r.0.from_hub ≤ length x) × (s.from_hub < r.0.from_hub) × (r.0.from_leaf ≡ s.from_leaf)) (same_Some _ r t)
      (let d = decided (drop s.from_hub x) [] m f in let n = length-drop s.from_hub x in let d0 = d.0 in let d1 = d.1 in ((omega arith), (omega arith), refl))

  leaf_side : (s : RelayEnd R) (y : List ℕ) (o : Option (P × ℕ)) → e.first (drop s.from_leaf y) ≡ o → (r : RelayEnd R × (List ℕ × List ℕ)) → relay_takes_leaf e k s o ≡ Some r → s.from_leaf ≤ length y → (r.0.from_leaf ≤ length y) × (s.from_leaf < r.0.from_leaf) × (r.0.from_hub ≡ s.from_hub)
  leaf_side s y None f r t l = absurd (none-some r t)
  leaf_side s y (Some m) f r t l = subst (λ (r : RelayEnd R × (List ℕ × List ℕ)). (r.0.from_leaf ≤ length y) × (s.from_leaf < r.0.from_leaf) × (r.0.from_hub ≡ s.from_hub)) (same_Some _ r t)
      (let d = decided (drop s.from_leaf y) [] m f in let n = length-drop s.from_leaf y in let d0 = d.0 in let d1 = d.1 in ((omega arith), (omega arith), refl))

  pub relay_turn_takes : (s : RelayEnd R) (x y : List ℕ) (v : RelayOutlook) (r : RelayEnd R × (List ℕ × List ℕ)) → relay_turn_by e k s x y v ≡ Some r → s.from_hub ≤ length x → s.from_leaf ≤ length y → (r.0.from_hub ≤ length x) × (r.0.from_leaf ≤ length y) × (s.from_hub + s.from_leaf < r.0.from_hub + r.0.from_leaf)
  relay_turn_takes s x y AwaitsHub r t lx ly = let h = hub_side s x (e.first (drop s.from_hub x)) refl r t lx in let h1 = h.1 in let h2 = h.2 in (h.0, (omega arith), (omega arith))
  relay_turn_takes s x y AwaitsLeaf r t lx ly = let h = leaf_side s y (e.first (drop s.from_leaf y)) refl r t ly in let h1 = h.1 in let h2 = h.2 in ((omega arith), h.0, (omega arith))
  relay_turn_takes s x y RelayHalts r t lx ly = absurd (none-some r t)

  pub relay_within : (x y : List ℕ) (m : ℕ) (s : RelayEnd R) (a b : List ℕ) → RelayRuns x y m s a b → (s.from_hub ≤ length x) × (s.from_leaf ≤ length y)
  relay_within x y zero s a b run = (
    (let z : s.from_hub ≡ 0 = ap (λ (s : RelayEnd R). s.from_hub) run.0 in omega arith),
    (let z : s.from_leaf ≡ 0 = ap (λ (s : RelayEnd R). s.from_leaf) run.0 in omega arith),
  )
  relay_within x y (suc m) s a b run =
      let w = relay_within x y m run.0 run.1 run.2 run.4 in
      let t = relay_turn_takes run.0 x y (k.outlook run.0.core) (s, run.3) run.5 w.0 w.1 in
      (t.0, t.1)
