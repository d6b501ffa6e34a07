-- What holds along a run, and when one node's end is the end of all.
use Rattle.std.proofs.Common.{◌≡◌, ℕ, zero, suc, ◌<◌, ◌≤◌, ◌⊎◌, ⊎_elim, length, Some, None, sym, ap, ◌∙◌, subst, arith, le_antisymm, eq-or-lt_of_le, le_of_suc-le-suc}
use Rattle.std.proofs.lemmas.Option.{none-some}
use Rattle.std.proofs.lemmas.List.{length-take-le}
use Rattle.process_network.specs.Network.{Streams, Below, Network, IsMonotone, World, received, IsRun, IsSame}
use Rattle.process_network.proofs.Prefixes.{prefix_length, prefix_antisym, le_or_lt}
use Rattle.process_network.proofs.ProcessRuns.{runs_more, runs_same, runs_cut, runs_grow}
use Rattle.process_network.proofs.ReachableWorlds.{IsOnRun, IsFinal, Under, received_under, final_received, on_the_way}

-- A relation that each turn keeps leads from each state of a run to each later one. Take for R: the calls of the one are a
-- prefix of the calls of the other; if the one has a fault, so has the other.
pub runs_lead : {S : Type 0} (net : Network S) (i : ℕ) (x : Streams) (R : S → S → Type 0) → ((s : S) → R s s) → ((s s₀ s₁ : S) (more : Streams) → R s s₀ → net.turn i s₀ x ≡ Some (s₁, more) → R s s₁) → (k n : ℕ) (s s' : S) (o o' : Streams) → k ≤ n → IsRun net i x k s o → IsRun net i x n s' o' → R s s'
runs_lead net i x R same step k zero s s' o o' l h g =
    let e : k ≡ 0 = omega arith in
    subst (λ t. R s t) ((runs_same net i x 0 s s' o o' (subst (λ t. IsRun net i x t s o) e h) g).0) (same s)
runs_lead net i x R same step k (suc n) s s' o o' l h g = ⊎_elim
    (λ e. subst (λ t. R s t) ((runs_same net i x (suc n) s s' o o' (subst (λ t. IsRun net i x t s o) e h) g).0) (same s))
    (λ m. step s g.0 s' g.2 (runs_lead net i x R same step k n s g.0 o g.1 (le_of_suc-le-suc m) h g.3) g.4)
    (eq-or-lt_of_le l)

-- Node i needs all that it receives in f for its last turn.
abbrev pub IsHungry : {S : Type 0} → Network S → World S → (ℕ → ℕ) → ℕ → Type 0
IsHungry {S} net f n i = (x : Streams) → Below x (received f i) → (s : S) (o : Streams) → IsRun net i x (n i) s o → (j : ℕ) → length (f.sent j i) ≤ length (x j)

-- Node j sends to i in its last turn in f, or takes no turn.
abbrev pub EndsBySending : {S : Type 0} → Network S → World S → (ℕ → ℕ) → ℕ → ℕ → Type 0
EndsBySending {S} net f n j i = (n j ≡ 0) ⊎ ((m : ℕ) × (s : S) × (o : Streams) × (n j ≡ suc m) × IsRun net j (received f j) m s o × (length (o i) < length (f.sent j i)))

-- `taken s j` is how much of what j sends a node in state s has taken. No turn takes more than was received.
abbrev pub IsCursor : {S : Type 0} → Network S → (S → ℕ → ℕ) → Type 0
IsCursor {S} net taken =
    ((i j : ℕ) → taken (net.start i) j ≡ 0)
    × ((i : ℕ) (s : S) (x : Streams) (r : S × Streams) → ((j : ℕ) → taken s j ≤ length (x j)) → net.turn i s x ≡ Some r → (j : ℕ) → taken r.0 j ≤ length (x j))

pub cursor_within : {S : Type 0} (net : Network S) (taken : S → ℕ → ℕ) → IsCursor net taken → (i : ℕ) (x : Streams) (k : ℕ) (s : S) (o : Streams) → IsRun net i x k s o → (j : ℕ) → taken s j ≤ length (x j)
cursor_within net taken cursor i x zero s o h j = let e : taken s j ≡ 0 = ap (λ t. taken t j) h.0 ∙ cursor.0 i j in omega arith
cursor_within net taken cursor i x (suc k) s o h j = cursor.1 i h.0 x (s, h.2) (cursor_within net taken cursor i x k h.0 h.1 h.3) h.4 j

-- A node that ends with all taken that was sent to it needs all of it.
pub cursor_hungry : {S : Type 0} (net : Network S) → IsMonotone net → (taken : S → ℕ → ℕ) → IsCursor net taken → (f : World S) (n : ℕ → ℕ) → IsFinal net f n → (i : ℕ) → ((j : ℕ) → taken (f.state i) j ≡ length (f.sent j i)) → IsHungry net f n i
cursor_hungry net monotone taken cursor f n fin i all x b s o h j =
    let e = (runs_same net i (received f i) (n i) s (f.state i) o (f.sent i) (runs_more net monotone i x (received f i) b (n i) s o h) (fin.run.runs i)).0 in
    let t : taken s j ≤ length (x j) = cursor_within net taken cursor i x (n i) s o h j in
    let u : taken s j ≡ length (f.sent j i) = ap (λ c. taken c j) e ∙ all j in
    omega arith

module _ {S : Type 0} (net : Network S) (monotone : IsMonotone net) (w f : World S) (k n : ℕ → ℕ) (h : IsOnRun net w k) (fin : IsFinal net f n) (u : Under w f.sent) where
  -- A node that no more bytes would move has taken all its turns.
  pub halted_complete : (i : ℕ) → ((x : Streams) → net.turn i (w.state i) x ≡ None) → k i ≡ n i
  halted_complete i halted = le_antisymm way.0 (⊎_elim (λ l. l) (λ m. absurd (no m)) (le_or_lt (n i) (k i)))
    where
      way : (k i ≤ n i) × IsRun net i (received f i) (k i) (w.state i) (w.sent i)
      way = on_the_way net monotone w f k n h fin u i

      no : k i < n i → ⊥
      no m =
          let r = runs_cut net i (received f i) (k i) (n i) (f.state i) (f.sent i) m (fin.run.runs i) in
          let e = (runs_same net i (received f i) (k i) r.0 (w.state i) r.1 (w.sent i) r.4 way.1).0 in
          none-some {A = S × Streams} (r.2, r.3) (sym (halted (received f i)) ∙ ap (λ t. net.turn i t (received f i)) (sym e) ∙ r.5)

  -- To a node that has taken all its turns, all was sent and delivered.
  pub complete_fed : (i : ℕ) → k i ≡ n i → IsHungry net f n i → (j : ℕ) → (w.sent j i ≡ f.sent j i) × (w.delivered j i ≡ length (f.sent j i))
  complete_fed i e hungry j =
      let b : Below (received w i) (received f i) = subst (λ x. Below (received w i) x) (sym (final_received net f n fin i)) (received_under w f.sent u i) in
      let all : length (f.sent j i) ≤ length (received w i j) = hungry (received w i) b (w.state i) (w.sent i) (subst (λ c. IsRun net i (received w i) c (w.state i) (w.sent i)) e (h.runs i)) j in
      let some : length (received w i j) ≡ w.delivered j i = length-take-le (w.delivered j i) (w.sent j i) (h.within j i) in
      let in_all : w.delivered j i ≤ length (w.sent j i) = h.within j i in
      let short : length (w.sent j i) ≤ length (f.sent j i) = prefix_length (w.sent j i) (f.sent j i) (u j i) in
      (prefix_antisym (w.sent j i) (f.sent j i) (u j i) (omega arith), omega arith)

  -- A node that has sent all to a node to which it sends last has taken all its turns.
  pub sent_complete : (j i : ℕ) → w.sent j i ≡ f.sent j i → EndsBySending net f n j i → k j ≡ n j
  sent_complete j i e ends =
      let way = on_the_way net monotone w f k n h fin u j in
      le_antisymm way.0 (⊎_elim
      (λ none. omega arith)
      (λ last. ⊎_elim (λ l. l)
      (λ (m : k j < n j).
      let l : k j ≤ last.0 = (let t : n j ≡ suc last.0 = last.3 in omega arith) in
      let g = runs_grow net j (received f j) (k j) last.0 (w.state j) last.1 (w.sent j) last.2 l way.1 last.4 in
      let p : length (w.sent j i) ≤ length (last.2 i) = prefix_length (w.sent j i) (last.2 i) (g i) in
      let q : length (last.2 i) < length (f.sent j i) = last.5 in
      let same : length (w.sent j i) ≡ length (f.sent j i) = ap length e in
      absurd (omega arith))
      (le_or_lt (n j) (k j)))
      ends)

  -- If each node has taken all its turns, the worlds are the same.
  pub complete_same : ((i : ℕ) → k i ≡ n i) → ((i : ℕ) → IsHungry net f n i) → IsSame w f
  complete_same done hungry = record {
    state = λ i. (both i).0;
    sent = λ i j. (both i).1 j;
    delivered = λ i j. (complete_fed j (done j) (hungry j) i).1 ∙ sym (fin.all i j);
  }
    where
      both : (i : ℕ) → (w.state i ≡ f.state i) × ((j : ℕ) → w.sent i j ≡ f.sent i j)
      both i = runs_same net i (received f i) (n i) (w.state i) (f.state i) (w.sent i) (f.sent i)
          (subst (λ c. IsRun net i (received f i) c (w.state i) (w.sent i)) (done i) (on_the_way net monotone w f k n h fin u i).1) (fin.run.runs i)

  -- Where each other node sends last to c, the worlds are the same as soon as no more bytes would move c.
  pub halted_same : (c : ℕ) → ((x : Streams) → net.turn c (w.state c) x ≡ None) → ((i : ℕ) → IsHungry net f n i) → ((j : ℕ) → (j ≡ c) ⊎ EndsBySending net f n j c) → IsSame w f
  halted_same c halted hungry ends = complete_same done hungry
    where
      here : k c ≡ n c
      here = halted_complete c halted

      done : (j : ℕ) → k j ≡ n j
      done j = ⊎_elim (λ e. subst (λ t. k t ≡ n t) (sym e) here) (λ last. sent_complete j c (complete_fed c here (hungry c) j).0 last) (ends j)
