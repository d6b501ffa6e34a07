-- Talk over honest links comes to a fixed point.
use Rattle.std.proofs.Common.{◌≡◌, ℕ, zero, suc, ◌+◌, ◌<◌, ◌≤◌, ⊎_elim, List, [], ◌++◌, length, Option, Some, None, refl, sym, ◌∙◌, subst, arith, eq-or-lt_of_le, le_of_suc-le-suc}
use Rattle.process_network.specs.Network.{IsPrefix, Streams, Below, Network, IsMonotone, IsRun, IsMaximalRun, IsClosed, NodeTalk, only, IsHonest, sum_below}
use Rattle.process_network.proofs.Prefixes.{prefix_trans, prefix_eq, prefix_length, prefix_antisym, prefix_of_nil, update_same, le_or_lt}
use Rattle.process_network.proofs.ProcessRuns.{run_below}
use Rattle.process_network.proofs.Sums.{sum_le}
use Rattle.process_network.proofs.NetworkTalk.{only_below, talk_under}

module _ {S : Type 0} (net : Network S) (monotone : IsMonotone net) (z : ℕ → Streams) (closed : IsClosed net z) where
  -- Over a part of what a closed z says, each node runs out of turns.
  run_out : (i : ℕ) (x : Streams) → Below x (λ j. z j i) → (n : ℕ) × (s : S) × (o : Streams) × IsMaximalRun net i x n s o
  run_out i x b = go (closed i).0 0 (net.start i) (λ j. []) (refl, λ j. refl) (omega arith)
    where
      bound : (k : ℕ) (s : S) (o : Streams) → IsRun net i x k s o → k ≤ (closed i).0
      bound k s o h = (run_below net monotone i x (λ j. z j i) b k (closed i).0 s (closed i).1 o (closed i).2 h (closed i).3.0 (closed i).3.1).0

      more : (k : ℕ) (s : S) (o : Streams) (r : S × Streams) → IsRun net i x k s o → net.turn i s x ≡ Some r → IsRun net i x (suc k) r.0 (λ j. o j ++ r.1 j)
      more k s o r h e = (s, o, r.1, h, e, λ j. refl)

      step : (d k : ℕ) (s : S) (o : Streams) → IsRun net i x k s o → (closed i).0 ≤ k + d → ((r : S × Streams) → net.turn i s x ≡ Some r → (n : ℕ) × (s : S) × (o : Streams) × IsMaximalRun net i x n s o) → (n : ℕ) × (s : S) × (o : Streams) × IsMaximalRun net i x n s o
      step d k s o h l next = at (net.turn i s x) refl
        where
          at : (r : Option (S × Streams)) → net.turn i s x ≡ r → (n : ℕ) × (s : S) × (o : Streams) × IsMaximalRun net i x n s o
          at None e = (k, s, o, (h, e))
          at (Some r) e = next r e

      go : (d k : ℕ) (s : S) (o : Streams) → IsRun net i x k s o → (closed i).0 ≤ k + d → (n : ℕ) × (s : S) × (o : Streams) × IsMaximalRun net i x n s o
      go zero k s o h l = step zero k s o h l (λ r e. absurd (let m : suc k ≤ (closed i).0 = bound (suc k) r.0 (λ j. o j ++ r.1 j) (more k s o r h e) in omega arith))
      go (suc d) k s o h l = step (suc d) k s o h l (λ r e. go d (suc k) r.0 (λ j. o j ++ r.1 j) (more k s o r h e) (omega arith))

  module _ (h : ℕ) (said : ℕ → List ℕ → List ℕ) (honest : IsHonest net h said) where
    -- More sent bytes give more.
    said_grows : (j : ℕ) (y y' : List ℕ) → IsPrefix y y' → IsPrefix (said j y) (said j y')
    said_grows j y y' p = ⊎_elim
        (λ self. prefix_eq (self.1 y ∙ sym (self.1 y')))
        (λ other.
        let a = other.1 y in
        let b = other.1 y' in
        prefix_trans (said j y) (a.2 h) (said j y') (prefix_eq (sym a.4))
        (prefix_trans (a.2 h) (b.2 h) (said j y')
        ((run_below net monotone j (only h y) (only h y') (only_below h y (only h y') (subst (λ t. IsPrefix y t) (sym (update_same (λ i. []) h y')) p)) a.0 b.0 a.1 b.1 a.2 b.2 a.3.0 b.3.0 b.3.1).1 h)
        (prefix_eq b.4)))
        (honest j)

    -- A round: what was given, and what h sends over it.
    record Round : Type 0 where
      rounds : ℕ
      given : Streams
      talk : NodeTalk net h said rounds given
      turns : ℕ
      state : S
      sent : Streams
      run : IsMaximalRun net h given turns state sent

    round_of : (k : ℕ) (x : Streams) → NodeTalk net h said k x → Round
    round_of k x t =
        let r = run_out h x (talk_under net monotone h said honest z closed k x t) in
        record { rounds = k; given = x; talk = t; turns = r.0; state = r.1; sent = r.2; run = r.3 }

    next_given : Round → Streams
    next_given r j = said j (r.sent j)

    next_talk : (r : Round) → NodeTalk net h said (suc r.rounds) (next_given r)
    unfolding next_given
    next_talk r = (r.given, r.turns, r.state, r.sent, r.talk, r.run, λ j. refl)

    -- In the next round as much is given, or more.
    IsGrowing : Round → Type 0
    IsGrowing r = Below r.given (next_given r)

    first_round : Round
    first_round = round_of 0 (λ j. said j []) (λ j. refl)

    first_grows : IsGrowing first_round
    unfolding IsGrowing first_round round_of next_given
    first_grows j = said_grows j [] (first_round.sent j) (first_round.sent j, refl)

    next_round : Round → Round
    next_round r = round_of (suc r.rounds) (next_given r) (next_talk r)

    next_grows : (r : Round) → IsGrowing r → IsGrowing (next_round r)
    unfolding IsGrowing next_round round_of next_given
    next_grows r g j = said_grows j (r.sent j) ((next_round r).sent j)
        ((run_below net monotone h r.given (next_given r) g r.turns (next_round r).turns r.state (next_round r).state r.sent (next_round r).sent r.run.0 (next_round r).run.0 (next_round r).run.1).1 j)

    -- Nothing is sent to h from nodes from n on.
    module _ (n : ℕ) (small : (j : ℕ) → n ≤ j → z j h ≡ []) where
      total : Streams → ℕ
      total x = sum_below n (λ j. length (x j))

      -- Equal totals of growing streams: equal streams.
      sums_same : (m : ℕ) (f g : ℕ → ℕ) → ((j : ℕ) → f j ≤ g j) → sum_below m g ≤ sum_below m f → (j : ℕ) → j < m → g j ≤ f j
      sums_same zero f g l e j i = absurd (omega arith)
      sums_same (suc m) f g l e j i =
          let rest : sum_below m f ≤ sum_below m g = sum_le m f g (λ k _. l k) in
          let last : f m ≤ g m = l m in
          ⊎_elim (λ (s : j ≡ m). subst (λ k. g k ≤ f k) (sym s) (omega arith)) (λ (k : j < m). sums_same m f g l (omega arith) j k) (eq-or-lt_of_le (le_of_suc-le-suc i))

      settled_here : (r : Round) → IsGrowing r → total (next_given r) ≤ total r.given → (j : ℕ) → r.given j ≡ next_given r j
      unfolding IsGrowing total
      settled_here r g e j = ⊎_elim
          (λ (l : n ≤ j).
          let b = talk_under net monotone h said honest z closed (suc r.rounds) (next_given r) (next_talk r) j in
          let none : next_given r j ≡ [] = prefix_of_nil (next_given r j) (z j h) b (small j l) in
          prefix_of_nil (r.given j) (next_given r j) (g j) none ∙ sym none)
          (λ l. prefix_antisym (r.given j) (next_given r j) (g j) (sums_same n (λ j. length (r.given j)) (λ j. length (next_given r j)) (λ k. prefix_length (r.given k) (next_given r k) (g k)) e j l))
          (le_or_lt n j)

      within_total : (r : Round) → total (next_given r) ≤ sum_below n (λ j. length (z j h))
      unfolding total
      within_total r = sum_le n (λ j. length (next_given r j)) (λ j. length (z j h)) (λ j _. prefix_length (next_given r j) (z j h) (talk_under net monotone h said honest z closed (suc r.rounds) (next_given r) (next_talk r) j))

      search : (d : ℕ) (r : Round) → IsGrowing r → sum_below n (λ j. length (z j h)) ≤ total r.given + d → (r : Round) × ((j : ℕ) → r.given j ≡ said j (r.sent j))
      unfolding next_given next_round round_of
      search zero r g l = (r, settled_here r g (let w = within_total r in omega arith))
      search (suc d) r g l = ⊎_elim
          (λ (e : total (next_given r) ≤ total r.given). (r, settled_here r g e))
          (λ (m : total r.given < total (next_given r)). search d (next_round r) (next_grows r g) (omega arith))
          (le_or_lt (total (next_given r)) (total r.given))

      -- Some round gives what the next one gives.
      pub talk_settles : (k : ℕ) × (x : Streams) × (t : ℕ) × (s : S) × (o : Streams) × NodeTalk net h said k x × IsMaximalRun net h x t s o × ((j : ℕ) → x j ≡ said j (o j))
      talk_settles =
          let r = search (sum_below n (λ j. length (z j h))) first_round first_grows (omega arith) in
          (r.0.rounds, r.0.given, r.0.turns, r.0.state, r.0.sent, r.0.talk, r.0.run, r.1)
