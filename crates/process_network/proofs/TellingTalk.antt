-- A process that sends a bounded number of messages comes to a fixed point over links that only tell.
use Rattle.std.proofs.Common.{◌≡◌, ℕ, zero, suc, ◌<◌, ◌≤◌, ◌⊎◌, inl, inr, ⊎_elim, List, [], ◌++◌, length, refl, sym, ap, ◌∙◌, subst, arith, le_antisymm, le_of_eq, eq-or-lt_of_le, le_of_suc-le-suc, append-nil}
use Rattle.process_network.specs.Network.{Streams, Below, Network, IsMonotone, IsRun, IsMaximalRun, NodeTalk, sum_below}
use Rattle.process_network.specs.TellingLinks.{IsTelling, AlwaysEnds, SendsBounded, IsFixed, IsFirstFixed}
use Rattle.process_network.proofs.Prefixes.{prefix_length, prefix_antisym, le_or_lt}
use Rattle.process_network.proofs.ProcessRuns.{runs_more, runs_same, runs_max, run_below}
use Rattle.process_network.proofs.Sums.{sum_le, sum_same}

-- Two runs to the end over the same bytes are the same.
pub maximal_same : {S : Type 0} (net : Network S) (h : ℕ) (x y : Streams) → ((j : ℕ) → x j ≡ y j) → (k n : ℕ) (s t : S) (o u : Streams) → IsMaximalRun net h x k s o → IsMaximalRun net h y n t u → (k ≡ n) × (s ≡ t) × ((j : ℕ) → o j ≡ u j)
maximal_same net h x y e k n s t o u a b =
    let b' = subst (λ v. IsMaximalRun net h v n t u) (sym (λ d j. e j d)) b in
    let same : k ≡ n = le_antisymm (runs_max net h x k n s t o u a.0 b'.0 b'.1) (runs_max net h x n k t s u o b'.0 a.0 a.1) in
    let r = runs_same net h x n s t o u (subst (λ m. IsRun net h x m s o) same a.0) b'.0 in
    (same, r.0, r.1)

-- A round of a talk is one.
pub talk_same_round : {S : Type 0} (net : Network S) (h : ℕ) (said : ℕ → List ℕ → List ℕ) (k : ℕ) (x y : Streams) → NodeTalk net h said k x → NodeTalk net h said k y → (j : ℕ) → x j ≡ y j
talk_same_round net h said zero x y a b j = a j ∙ sym (b j)
talk_same_round net h said (suc k) x y a b j =
    let r = maximal_same net h a.0 b.0 (talk_same_round net h said k a.0 b.0 a.4 b.4) a.1 b.1 a.2 b.2 a.3 b.3 a.5 b.5 in
    a.6 j ∙ ap (said j) (r.2 j) ∙ sym (b.6 j)

module _ {S : Type 0} (net : Network S) (monotone : IsMonotone net) (h : ℕ) (said : ℕ → List ℕ → List ℕ) (telling : IsTelling said) (ends : AlwaysEnds net h) (ports : ℕ) (bounded : SendsBounded net h ports) where
  -- What is left to send after a later moment of a run, with what was sent until then.
  abbrev Falls : S → S → Streams → Streams → Type 0
  Falls s t o u = (bounded.left t < bounded.left s) ⊎ ((bounded.left t ≤ bounded.left s) × ((j : ℕ) → u j ≡ o j))

  same_falls : (x : Streams) (k : ℕ) (s t : S) (o u : Streams) → IsRun net h x k s o → IsRun net h x k t u → Falls s t o u
  same_falls x k s t o u a b = let r = runs_same net h x k s t o u a b in inr (le_of_eq (ap bounded.left (sym r.0)), λ j. sym (r.1 j))

  falls_more : (x : Streams) (s m t : S) (o v u more : Streams) → ((j : ℕ) → u j ≡ v j ++ more j) → Falls s m o v → (bounded.left t < bounded.left m) ⊎ ((bounded.left t ≤ bounded.left m) × ((j : ℕ) → more j ≡ [])) → Falls s t o u
  falls_more x s m t o v u more e (inl p) (inl q) = inl (omega arith)
  falls_more x s m t o v u more e (inl p) (inr q) = inl (let q0 = q.0 in omega arith)
  falls_more x s m t o v u more e (inr p) (inl q) = inl (let p0 = p.0 in omega arith)
  falls_more x s m t o v u more e (inr p) (inr q) = inr ((let p0 = p.0 in let q0 = q.0 in omega arith), λ j. e j ∙ ap (λ y. v j ++ y) (q.1 j) ∙ append-nil (v j) ∙ p.1 j)

  -- What is left to send never grows, and where it stays nothing is sent.
  left_falls : (x : Streams) (k n : ℕ) (s t : S) (o u : Streams) → k ≤ n → IsRun net h x k s o → IsRun net h x n t u → Falls s t o u
  left_falls x k zero s t o u l a b = same_falls x zero s t o u (subst (λ m. IsRun net h x m s o) (le_antisymm l (omega arith)) a) b
  left_falls x k (suc n) s t o u l a b = ⊎_elim
      (λ e. same_falls x (suc n) s t o u (subst (λ m. IsRun net h x m s o) e a) b)
      (λ m. falls_more x s b.0 t o b.1 u b.2 b.5 (left_falls x k n s b.0 o b.1 (le_of_suc-le-suc m) a b.3) (bounded.lowers x n b.0 b.1 b.3 (t, b.2) b.4))
      (eq-or-lt_of_le l)

  -- Nothing is sent past the ports.
  none_past : (x : Streams) (k : ℕ) (s : S) (o : Streams) → IsRun net h x k s o → (j : ℕ) → ports ≤ j → o j ≡ []
  none_past x zero s o r j l = r.1 j
  none_past x (suc k) s o r j l = r.5 j ∙ ap (λ v. v ++ r.2 j) (none_past x k r.0 r.1 r.3 j l) ∙ bounded.few r.0 x (s, r.2) r.4 j l

  -- A round: what was given, and what h sends over it.
  record Round : Type 0 where
    number : ℕ
    given : Streams
    talk : NodeTalk net h said number given
    turns : ℕ
    state : S
    sent : Streams
    run : IsMaximalRun net h given turns state sent

  next_given : Round → Streams
  next_given r j = said j (r.sent j)

  next_talk : (r : Round) → NodeTalk net h said (suc r.number) (next_given r)
  unfolding next_given
  next_talk r = (r.given, r.turns, r.state, r.sent, r.talk, r.run, λ j. refl)

  round_of : (k : ℕ) (x : Streams) → NodeTalk net h said k x → Round
  round_of k x t = let r = ends x in record { number = k; given = x; talk = t; turns = r.0; state = r.1; sent = r.2; run = r.3 }

  next_round : Round → Round
  next_round r = round_of (suc r.number) (next_given r) (next_talk r)

  IsGrowing : Round → Type 0
  IsGrowing r = Below r.given (next_given r)

  first_round : Round
  first_round = round_of 0 (λ j. said j []) (λ j. refl)

  first_grows : IsGrowing first_round
  unfolding IsGrowing first_round round_of next_given
  first_grows j = telling j [] (first_round.sent j) (first_round.sent j, refl)

  next_grows : (r : Round) → IsGrowing r → IsGrowing (next_round r)
  unfolding IsGrowing next_round round_of next_given
  next_grows r g j = telling j (r.sent j) ((next_round r).sent j)
      ((run_below net monotone h r.given (next_given r) g r.turns (next_round r).turns r.state (next_round r).state r.sent (next_round r).sent r.run.0 (next_round r).run.0 (next_round r).run.1).1 j)

  total : Streams → ℕ
  total x = sum_below ports (λ j. length (x j))

  sums_same : (m : ℕ) (f g : ℕ → ℕ) → ((j : ℕ) → f j ≤ g j) → sum_below m g ≤ sum_below m f → (j : ℕ) → j < m → g j ≤ f j
  sums_same zero f g l e j i = absurd (omega arith)
  sums_same (suc m) f g l e j i =
      let rest : sum_below m f ≤ sum_below m g = sum_le m f g (λ k _. l k) in
      let last : f m ≤ g m = l m in
      ⊎_elim (λ (s : j ≡ m). subst (λ k. g k ≤ f k) (sym s) (omega arith)) (λ (k : j < m). sums_same m f g l (omega arith) j k) (eq-or-lt_of_le (le_of_suc-le-suc i))

  -- Past the ports each round gives what the link gives for nothing.
  given_past : (k : ℕ) (x : Streams) → NodeTalk net h said k x → (j : ℕ) → ports ≤ j → x j ≡ said j []
  given_past zero x t j l = t j
  given_past (suc k) x t j l = t.6 j ∙ ap (said j) (none_past t.0 t.1 t.2 t.3 t.5.0 j l)

  -- Where the next round gives no more bytes, it gives the same.
  fixed_here : (r : Round) → IsGrowing r → total (next_given r) ≤ total r.given → IsFixed said r.given r.sent
  unfolding IsGrowing total next_given
  fixed_here r g e j = ⊎_elim
      (λ (l : ports ≤ j). given_past r.number r.given r.talk j l ∙ ap (said j) (sym (none_past r.given r.turns r.state r.sent r.run.0 j l)))
      (λ l. prefix_antisym (r.given j) (next_given r j) (g j) (sums_same ports (λ j. length (r.given j)) (λ j. length (next_given r j)) (λ k. prefix_length (r.given k) (next_given r k) (g k)) e j l))
      (le_or_lt ports j)

  -- No round before this one is fixed.
  IsEarliest : Round → Type 0
  IsEarliest r = (i : ℕ) (y : Streams) (m : ℕ) (t : S) (u : Streams) → i < r.number → NodeTalk net h said i y → IsMaximalRun net h y m t u → IsFixed said y u → ⊥

  -- Where the next round gives more bytes, this one is not fixed either.
  next_earliest : (r : Round) → IsEarliest r → total r.given < total (next_given r) → IsEarliest (next_round r)
  unfolding IsEarliest next_round round_of next_given total
  next_earliest r before more i y m t u l talk run fixed = ⊎_elim here (λ (k : i < r.number). before i y m t u k talk run fixed) (eq-or-lt_of_le (le_of_suc-le-suc l))
    where
      here : i ≡ r.number → ⊥
      here e =
          let same = talk_same_round net h said r.number r.given y r.talk (subst (λ k. NodeTalk net h said k y) e talk) in
          let q = maximal_same net h r.given y same r.turns m r.state t r.sent u r.run run in
          let sums : sum_below ports (λ j. length (said j (r.sent j))) ≡ sum_below ports (λ j. length (r.given j)) =
          sum_same ports (λ j. length (said j (r.sent j))) (λ j. length (r.given j)) (λ j _. ap length (ap (said j) (q.2 j) ∙ sym (fixed j) ∙ sym (same j))) in
          omega arith

  Answer : Type 0
  Answer = (k : ℕ) × (x : Streams) × (n : ℕ) × (s : S) × (o : Streams) × IsFirstFixed net h said k x n s o

  answer : (r : Round) → IsEarliest r → IsFixed said r.given r.sent → Answer
  unfolding Answer IsEarliest
  answer r before fixed = (r.number, r.given, r.turns, r.state, r.sent, record { talk = r.talk; run = r.run; fixed = fixed; first = before })

  -- Where nothing more was sent in the next round, that one is fixed.
  next_fixed : (r : Round) → ((j : ℕ) → (next_round r).sent j ≡ r.sent j) → IsFixed said (next_round r).given (next_round r).sent
  unfolding next_round round_of next_given
  next_fixed r e j = ap (said j) (sym (e j))

  falls : (r : Round) → IsGrowing r → (bounded.left (next_round r).state < bounded.left r.state) ⊎ ((bounded.left (next_round r).state ≤ bounded.left r.state) × ((j : ℕ) → (next_round r).sent j ≡ r.sent j))
  unfolding IsGrowing next_round round_of
  falls r g = left_falls (next_given r) r.turns (next_round r).turns r.state (next_round r).state r.sent (next_round r).sent
      ((run_below net monotone h r.given (next_given r) g r.turns (next_round r).turns r.state (next_round r).state r.sent (next_round r).sent r.run.0 (next_round r).run.0 (next_round r).run.1).0)
      (runs_more net monotone h r.given (next_given r) g r.turns r.state r.sent r.run.0) (next_round r).run.0

  step : (r : Round) → IsGrowing r → IsEarliest r → ((bounded.left (next_round r).state < bounded.left r.state) → IsEarliest (next_round r) → Answer) → Answer
  step r g before go = ⊎_elim
      (λ (l : total (next_given r) ≤ total r.given). answer r before (fixed_here r g l))
      (λ more. ⊎_elim
      (λ less. go less (next_earliest r before more))
      (λ same. answer (next_round r) (next_earliest r before more) (next_fixed r same.1))
      (falls r g))
      (le_or_lt (total (next_given r)) (total r.given))

  search : (d : ℕ) (r : Round) → IsGrowing r → IsEarliest r → bounded.left r.state ≤ d → Answer
  search zero r g before l = step r g before (λ less later. absurd (omega arith))
  search (suc d) r g before l = step r g before (λ less later. search d (next_round r) (next_grows r g) later (omega arith))

  nothing_before : IsEarliest first_round
  unfolding IsEarliest first_round round_of
  nothing_before i y m t u l talk run fixed = absurd (omega arith)

  -- There is a first round that the next one adds nothing to.
  pub telling_talk_ends : (k : ℕ) × (x : Streams) × (n : ℕ) × (s : S) × (o : Streams) × IsFirstFixed net h said k x n s o
  unfolding Answer
  telling_talk_ends = search (bounded.left first_round.state) first_round first_grows nothing_before (omega arith)
