-- Every schedule stays below every state in which nothing is left to do.
use Rattle.std.proofs.Common.{◌≡◌, ℕ, suc, ◌≤◌, List, [], ◌∷◌, ◌++◌, length, take, Option, Some, None, refl, sym, subst, arith, take_all, le_refl, le_trans, le_of_eq}
use Rattle.std.proofs.lemmas.List.{take-append-le}
use Rattle.process_network.specs.Network.{update, IsPrefix, Streams, Below, Network, IsMonotone, World, received, start, Step, after_turn, delivered_after, after, after_all, IsRun, IsClosed, turns_counted, turns_after, turns_all}
use Rattle.process_network.specs.Network.Step.{Turn, Deliver}
use Rattle.process_network.proofs.Prefixes.{prefix_refl, prefix_eq, prefix_trans, prefix_append, prefix_take, prefix_take_le, prefix_length, update_all, update_all3}
use Rattle.process_network.proofs.ProcessRuns.{below_refl, below_trans, runs_more, run_below}

-- Each node of w is where it is after that many turns over what it received.
pub record IsOnRun {S : Type 0} (net : Network S) (w : World S) (k : ℕ → ℕ) : Type 0 where
  pub runs : (i : ℕ) → IsRun net i (received w i) (k i) (w.state i) (w.sent i)
  pub within : (i j : ℕ) → w.delivered i j ≤ length (w.sent i j)

-- Nothing is left to do in w.
pub record IsFinal {S : Type 0} (net : Network S) (w : World S) (k : ℕ → ℕ) : Type 0 where
  pub run : IsOnRun net w k
  pub stop : (i : ℕ) → net.turn i (w.state i) (received w i) ≡ None
  pub all : (i j : ℕ) → w.delivered i j ≡ length (w.sent i j)

pub run_start : {S : Type 0} (net : Network S) → IsOnRun net (start net) (λ i. 0)
run_start net = record { runs = λ i. (refl, λ j. refl); within = λ i j. le_refl 0 }

acted_more : {S : Type 0} (w : World S) (i : ℕ) (r : S × Streams) → ((a b : ℕ) → w.delivered a b ≤ length (w.sent a b)) → (j : ℕ) → Below (received w j) (received (after_turn w i (Some r)) j)
acted_more w i r within j =
    update_all (λ l (row : Streams). IsPrefix (take (w.delivered l j) (w.sent l j)) (take (w.delivered l j) (row j))) w.sent i (λ b. w.sent i b ++ r.1 b)
    (prefix_eq (sym (take-append-le (w.delivered i j) (w.sent i j) (r.1 j) (within i j))))
    (λ l ne. prefix_refl (take (w.delivered l j) (w.sent l j)))

pub acted_run : {S : Type 0} (net : Network S) → IsMonotone net → (w : World S) (k : ℕ → ℕ) (i : ℕ) (r : Option (S × Streams)) → net.turn i (w.state i) (received w i) ≡ r → IsOnRun net w k → IsOnRun net (after_turn w i r) (turns_counted k i r)
acted_run net monotone w k i None e h = h
acted_run {S} net monotone w k i (Some r) e h =
    let more = acted_more w i r h.within in
    record {
      runs =
          update_all3 (λ j c s (o : Streams). IsRun net j (received (after_turn w i (Some r)) j) c s o) k w.state w.sent i (suc (k i)) r.0 (λ b. w.sent i b ++ r.1 b)
          (w.state i, w.sent i, r.1, runs_more net monotone i (received w i) (received (after_turn w i (Some r)) i) (more i) (k i) (w.state i) (w.sent i) (h.runs i), monotone i (w.state i) (received w i) (received (after_turn w i (Some r)) i) r (more i) e, λ j. refl)
          (λ j ne. runs_more net monotone j (received w j) (received (after_turn w i (Some r)) j) (more j) (k j) (w.state j) (w.sent j) (h.runs j));
      within = update_all (λ a (row : Streams). (b : ℕ) → w.delivered a b ≤ length (row b)) w.sent i (λ b. w.sent i b ++ r.1 b)
          (λ b. le_trans (h.within i b) (prefix_length (w.sent i b) (w.sent i b ++ r.1 b) (prefix_append (w.sent i b) (r.1 b))))
          (λ a ne. h.within a);
    }

-- A delivery takes nothing back, and delivers no more than was sent.
pub deliver_grows : {S : Type 0} (net : Network S) (w : World S) (i j n : ℕ) → ((a b : ℕ) → w.delivered a b ≤ length (w.sent a b)) → (a b : ℕ) → (w.delivered a b ≤ (after net w (Deliver i j n)).delivered a b) × ((after net w (Deliver i j n)).delivered a b ≤ length (w.sent a b))
deliver_grows net w i j n within =
    update_all (λ a (row : ℕ → ℕ). (b : ℕ) → (w.delivered a b ≤ row b) × (row b ≤ length (w.sent a b))) w.delivered i (update (w.delivered i) j (delivered_after w i j n))
    (update_all (λ b m. (w.delivered i b ≤ m) × (m ≤ length (w.sent i b))) (w.delivered i) j (delivered_after w i j n)
    (let l : w.delivered i j ≤ length (w.sent i j) = within i j in omega arith)
    (λ b ne. (le_refl (w.delivered i b), within i b)))
    (λ a ne b. (le_refl (w.delivered a b), within a b))

deliver_run : {S : Type 0} (net : Network S) → IsMonotone net → (w : World S) (k : ℕ → ℕ) (i j n : ℕ) → IsOnRun net w k → IsOnRun net (after net w (Deliver i j n)) k
deliver_run net monotone w k i j n h =
    let w' = after net w (Deliver i j n) in
    let grows = deliver_grows net w i j n h.within in
    record {
      runs = λ a. runs_more net monotone a (received w a) (received w' a) (λ b. prefix_take_le (w.delivered b a) (w'.delivered b a) (w.sent b a) (grows b a).0) (k a) (w.state a) (w.sent a) (h.runs a);
      within = λ a b. (grows a b).1;
    }

pub step_run : {S : Type 0} (net : Network S) → IsMonotone net → (w : World S) (k : ℕ → ℕ) (s : Step) → IsOnRun net w k → IsOnRun net (after net w s) (turns_after net w k s)
step_run net monotone w k (Turn i) h = acted_run net monotone w k i (net.turn i (w.state i) (received w i)) refl h
step_run net monotone w k (Deliver i j n) h = deliver_run net monotone w k i j n h

pub all_run : {S : Type 0} (net : Network S) → IsMonotone net → (w : World S) (k : ℕ → ℕ) (ss : List Step) → IsOnRun net w k → IsOnRun net (after_all net w ss) (turns_all net w k ss)
all_run net monotone w k [] h = h
all_run net monotone w k (s ∷ ss) h = all_run net monotone (after net w s) (turns_after net w k s) ss (step_run net monotone w k s h)

-- Each node of w has sent no more than z says.
abbrev pub Under : {S : Type 0} → World S → (ℕ → Streams) → Type 0
Under w z = (i : ℕ) → Below (w.sent i) (z i)

pub received_under : {S : Type 0} (w : World S) (z : ℕ → Streams) → Under w z → (i : ℕ) → Below (received w i) (λ j. z j i)
received_under w z u i j = prefix_trans (take (w.delivered j i) (w.sent j i)) (w.sent j i) (z j i) (prefix_take (w.delivered j i) (w.sent j i)) (u j i)

pub acted_under : {S : Type 0} (net : Network S) → IsMonotone net → (w : World S) (z : ℕ → Streams) (k : ℕ → ℕ) (i : ℕ) (r : Option (S × Streams)) → net.turn i (w.state i) (received w i) ≡ r → IsOnRun net w k → IsClosed net z → Under w z → Under (after_turn w i r) z
acted_under net monotone w z k i None e h closed u = u
acted_under net monotone w z k i (Some r) e h closed u =
    let c = closed i in
    update_all (λ a (row : Streams). Below row (z a)) w.sent i (λ b. w.sent i b ++ r.1 b)
    (below_trans (λ b. w.sent i b ++ r.1 b) c.2 (z i)
    (run_below net monotone i (received w i) (λ j. z j i) (received_under w z u i) (suc (k i)) c.0 r.0 c.1 (λ b. w.sent i b ++ r.1 b) c.2
    (w.state i, w.sent i, r.1, h.runs i, e, λ j. refl) c.3.0 c.3.1).1
    c.4)
    (λ a ne. u a)

pub step_under : {S : Type 0} (net : Network S) → IsMonotone net → (w : World S) (z : ℕ → Streams) (k : ℕ → ℕ) (s : Step) → IsOnRun net w k → IsClosed net z → Under w z → Under (after net w s) z
step_under net monotone w z k (Turn i) h closed u = acted_under net monotone w z k i (net.turn i (w.state i) (received w i)) refl h closed u
step_under net monotone w z k (Deliver i j c) h closed u = u

-- Whatever the steps, no more is sent than a closed z says.
pub all_under : {S : Type 0} (net : Network S) → IsMonotone net → (w : World S) (z : ℕ → Streams) (k : ℕ → ℕ) (ss : List Step) → IsOnRun net w k → IsClosed net z → Under w z → Under (after_all net w ss) z
all_under net monotone w z k [] h closed u = u
all_under net monotone w z k (s ∷ ss) h closed u = all_under net monotone (after net w s) z (turns_after net w k s) ss (step_run net monotone w k s h) closed (step_under net monotone w z k s h closed u)

pub under_start : {S : Type 0} (net : Network S) (z : ℕ → Streams) → Under (start net) z
under_start net z i j = (z i j, refl)

-- What was received in a final world is all that was sent.
pub final_received : {S : Type 0} (net : Network S) (f : World S) (n : ℕ → ℕ) → IsFinal net f n → (i : ℕ) → received f i ≡ (λ j. f.sent j i)
final_received net f n fin i = λ d j. take_all (f.delivered j i) (f.sent j i) (le_of_eq (sym (fin.all j i))) d

pub final_closed : {S : Type 0} (net : Network S) (f : World S) (n : ℕ → ℕ) → IsFinal net f n → IsClosed net f.sent
final_closed net f n fin i =
    let e = final_received net f n fin i in
    (n i, f.state i, f.sent i, (subst (λ x. IsRun net i x (n i) (f.state i) (f.sent i)) e (fin.run.runs i), subst (λ x. net.turn i (f.state i) x ≡ None) e (fin.stop i)), below_refl (f.sent i))

-- Over what f received, each node of w is on the way to that of f.
pub on_the_way : {S : Type 0} (net : Network S) → IsMonotone net → (w f : World S) (k n : ℕ → ℕ) → IsOnRun net w k → IsFinal net f n → Under w f.sent → (i : ℕ) → (k i ≤ n i) × IsRun net i (received f i) (k i) (w.state i) (w.sent i)
on_the_way net monotone w f k n h fin u i =
    let b : Below (received w i) (received f i) = subst (λ x. Below (received w i) x) (sym (final_received net f n fin i)) (received_under w f.sent u i) in (
      (run_below net monotone i (received w i) (received f i) b (k i) (n i) (w.state i) (f.state i) (w.sent i) (f.sent i) (h.runs i) (fin.run.runs i) (fin.stop i)).0,
      runs_more net monotone i (received w i) (received f i) b (k i) (w.state i) (w.sent i) (h.runs i),
    )
