-- A node that talks over honest links ends as in the network.
use Rattle.std.proofs.Common.{◌≡◌, ℕ, zero, suc, ◌≢◌, ⊎_elim, List, [], ◌++◌, None, refl, sym, ap, ◌∙◌, subst, le_antisymm}
use Rattle.process_network.specs.Network.{update, IsPrefix, Streams, Below, Network, IsMonotone, World, start, Step, after_all, IsQuiescent, IsRun, IsMaximalRun, IsClosed, NodeTalk, only, IsHonest, IsStar, turns}
use Rattle.process_network.proofs.Prefixes.{prefix_eq, prefix_trans, prefix_of_nil, prefix_length, prefix_antisym, update_all, update_same}
use Rattle.process_network.proofs.ProcessRuns.{below_refl, below_trans, runs_more, runs_same, run_below}
use Rattle.process_network.proofs.ReachableWorlds.{IsFinal, Under, final_received, final_closed}
use Rattle.process_network.proofs.QuiescentWorlds.{schedule_under, script_final}

same_streams : (x y : Streams) → ((j : ℕ) → x j ≡ y j) → x ≡ y
same_streams x y e = λ d j. e j d

pub only_below : (h : ℕ) (y : List ℕ) (z : Streams) → IsPrefix y (z h) → Below (only h y) z
only_below h y z p = update_all (λ j r. IsPrefix r (z j)) (λ j. []) h y p (λ j ne. (z j, refl))

-- What an honest link gives for a part of what a closed z lets h send is a part of what z lets the node behind it send.
said_under : {S : Type 0} (net : Network S) → IsMonotone net → (h : ℕ) (said : ℕ → List ℕ → List ℕ) → IsHonest net h said → (z : ℕ → Streams) → IsClosed net z → (j : ℕ) (y : List ℕ) → IsPrefix y (z h j) → IsPrefix (said j y) (z j h)
said_under net monotone h said honest z closed j y p = ⊎_elim
    (λ self. (z j h, ap (λ t. t ++ z j h) (self.1 y)))
    (λ other.
    let r = other.1 y in
    let c = closed j in
    prefix_trans (said j y) (r.2 h) (z j h) (prefix_eq (sym r.4))
    (prefix_trans (r.2 h) (c.2 h) (z j h) ((run_below net monotone j (only h y) (λ a. z a j) (only_below h y (λ a. z a j) p) r.0 c.0 r.1 c.1 r.2 c.2 r.3.0 c.3.0 c.3.1).1 h) (c.4 h)))
    (honest j)

-- Each round stays below a closed z.
pub talk_under : {S : Type 0} (net : Network S) → IsMonotone net → (h : ℕ) (said : ℕ → List ℕ → List ℕ) → IsHonest net h said → (z : ℕ → Streams) → IsClosed net z → (k : ℕ) (x : Streams) → NodeTalk net h said k x → Below x (λ j. z j h)
talk_under net monotone h said honest z closed zero x t j = prefix_trans (x j) (said j []) (z j h) (prefix_eq (t j)) (said_under net monotone h said honest z closed j [] (z h j, refl))
talk_under net monotone h said honest z closed (suc k) x t j =
    let b = talk_under net monotone h said honest z closed k t.0 t.4 in
    let c = closed h in
    let out : Below t.3 (z h) = below_trans t.3 c.2 (z h) (run_below net monotone h t.0 (λ a. z a h) b t.1 c.0 t.2 c.1 t.3 c.2 t.5.0 c.3.0 c.3.1).1 c.4 in
    prefix_trans (x j) (said j (t.3 j)) (z j h) (prefix_eq (t.6 j)) (said_under net monotone h said honest z closed j (t.3 j) (out j))

-- What each link gave at the fixed point, and what h sent.
abbrev settled : (h : ℕ) (x o : Streams) → ℕ → Streams
settled h x o = update (λ j. only h (x j)) h o

-- The fixed point is closed.
settled_closed : {S : Type 0} (net : Network S) → IsMonotone net → (h : ℕ) (said : ℕ → List ℕ → List ℕ) → IsHonest net h said → (f : World S) (m : ℕ → ℕ) → IsFinal net f m → IsStar f h → (x : Streams) (n : ℕ) (s : S) (o : Streams) → Below x (λ j. f.sent j h) → IsMaximalRun net h x n s o → ((j : ℕ) → x j ≡ said j (o j)) → IsClosed net (settled h x o)
settled_closed {S} net monotone h said honest f m fin star x n s o b run fixed i = ⊎_elim at_h elsewhere (honest i)
  where
    z : ℕ → Streams
    z = settled h x o

    closed : IsClosed net f.sent
    closed = final_closed net f m fin

    out : Below o (f.sent h)
    out = let c = closed h in below_trans o c.2 (f.sent h) (run_below net monotone h x (λ a. f.sent a h) b n c.0 s c.1 o c.2 run.0 c.3.0 c.3.1).1 c.4

    Closed_at : ℕ → Type 0
    Closed_at a = (n : ℕ) × (s : S) × (o : Streams) × IsMaximalRun net a (λ j. z j a) n s o × Below o (z a)

    at_h : (i ≡ h) × ((y : List ℕ) → said i y ≡ []) → Closed_at i
    at_h self = subst (λ a. Closed_at a) (sym self.0)
        (n, s, o, subst (λ t. IsMaximalRun net h t n s o) (sym (same_streams (λ j. settled h x o j h) x reads)) run, subst (λ t. Below o t) (sym (update_same (λ j. only h (x j)) h o)) (below_refl o))
      where
        nothing : o h ≡ []
        nothing = prefix_of_nil (o h) (f.sent h h) (out h) star.self

        reads : (j : ℕ) → settled h x o j h ≡ x j
        reads = update_all (λ j (row : Streams). row h ≡ x j) (λ j. only h (x j)) h o
            (nothing ∙ sym (fixed h ∙ subst (λ a. said a (o h) ≡ []) self.0 (self.1 (o h))))
            (λ j ne. update_same (λ a. []) h (x j))

    elsewhere : (i ≢ h) × ((y : List ℕ) → (n : ℕ) × (s : S) × (o : Streams) × IsMaximalRun net i (only h y) n s o × (o h ≡ said i y)) → Closed_at i
    elsewhere other =
        (r.0, r.1, r.2, subst (λ t. IsMaximalRun net i t r.0 r.1 r.2) (sym (same_streams (λ j. settled h x o j i) (only h (o i)) reads)) r.3, subst (λ t. Below r.2 t) (sym row) inside)
      where
        r : (n : ℕ) × (s : S) × (o' : Streams) × IsMaximalRun net i (only h (o i)) n s o' × (o' h ≡ said i (o i))
        r = other.1 (o i)

        nil_there : (a : ℕ) → a ≢ h → only h (o i) a ≡ []
        nil_there a ne = update_all (λ j (t : List ℕ). j ≢ h → t ≡ []) (λ j. []) h (o i) (λ bad. absurd (bad refl)) (λ j ok _. refl) a ne

        reads : (j : ℕ) → settled h x o j i ≡ only h (o i) j
        reads = update_all (λ j (row : Streams). row i ≡ only h (o i) j) (λ j. only h (x j)) h o
            (sym (update_same (λ a. []) h (o i)))
            (λ j ne. update_all (λ a (t : List ℕ). a ≢ h → t ≡ []) (λ a. []) h (x j) (λ bad. absurd (bad refl)) (λ a ok _. refl) i other.0 ∙ sym (nil_there j ne))

        row : settled h x o i ≡ only h (x i)
        row = update_all (λ j (t : Streams). j ≢ h → t ≡ only h (x j)) (λ j. only h (x j)) h o (λ bad. absurd (bad refl)) (λ j ok _. refl) i other.0

        sends : Below r.2 (f.sent i)
        sends = let c = closed i in below_trans r.2 c.2 (f.sent i) (run_below net monotone i (only h (o i)) (λ a. f.sent a i) (only_below h (o i) (λ a. f.sent a i) (out i)) r.0 c.0 r.1 c.1 r.2 c.2 r.3.0 c.3.0 c.3.1).1 c.4

        inside : Below r.2 (only h (x i))
        inside = update_all (λ a (t : List ℕ). IsPrefix (r.2 a) t) (λ a. []) h (x i)
            (prefix_eq (r.4 ∙ sym (fixed i)))
            (λ a ne. prefix_eq (prefix_of_nil (r.2 a) (f.sent i a) (sends a) (star.apart i a other.0 ne)))

-- Where a schedule ends in f, with nothing left to do: what h sends over x, where x is what the links give for that, and
-- no more than f has, is what h sends in f.
pub fixed_same : {S : Type 0} (net : Network S) (monotone : IsMonotone net) (script : List Step) → IsQuiescent net (after_all net (start net) script) → (h : ℕ) (said : ℕ → List ℕ → List ℕ) → IsHonest net h said → IsStar (after_all net (start net) script) h → (x : Streams) (n : ℕ) (s : S) (o : Streams) → Below x (λ j. (after_all net (start net) script).sent j h) → IsMaximalRun net h x n s o → ((j : ℕ) → x j ≡ said j (o j)) → (s ≡ (after_all net (start net) script).state h) × ((j : ℕ) → o j ≡ (after_all net (start net) script).sent h j) × ((j : ℕ) → x j ≡ (after_all net (start net) script).sent j h)
fixed_same {S} net monotone script quiescent h said honest star x n s o b run fixed =
    let both = runs_same net h x n s (f.state h) o (f.sent h) run.0 (subst (λ c. IsRun net h x c (f.state h) (f.sent h)) (sym turns_same) there.0) in
    (both.0, both.1, hub_received)
  where
    f : World S
    f = after_all net (start net) script

    m : ℕ → ℕ
    m = turns net script

    fin : IsFinal net f m
    fin = script_final net monotone script quiescent

    reaches : Under f (settled h x o)
    reaches = schedule_under net monotone script (settled h x o) (settled_closed net monotone h said honest f m fin star x n s o b run fixed)

    hub_received : (j : ℕ) → x j ≡ f.sent j h
    hub_received j = ⊎_elim
        (λ self.
        let none : f.sent j h ≡ [] = subst (λ a. f.sent a h ≡ []) (sym self.0) star.self in
        prefix_of_nil (x j) (f.sent j h) (b j) none ∙ sym none)
        (λ other.
        let row : settled h x o j h ≡ x j = ap (λ (t : Streams). t h) (update_all (λ a (t : Streams). a ≢ h → t ≡ only h (x a)) (λ a. only h (x a)) h o (λ bad. absurd (bad refl)) (λ a ok _. refl) j other.0) ∙ update_same (λ a. []) h (x j) in
        prefix_antisym (x j) (f.sent j h) (b j) (prefix_length (f.sent j h) (x j) (subst (λ t. IsPrefix (f.sent j h) t) row (reaches j h))))
        (honest j)

    there : IsMaximalRun net h x (m h) (f.state h) (f.sent h)
    there = subst (λ y. IsMaximalRun net h y (m h) (f.state h) (f.sent h)) (final_received net f m fin h ∙ sym (same_streams x (λ j. f.sent j h) hub_received)) (fin.run.runs h, fin.stop h)

    turns_same : n ≡ m h
    turns_same = le_antisymm
        (run_below net monotone h x x (below_refl x) n (m h) s (f.state h) o (f.sent h) run.0 there.0 there.1).0
        (run_below net monotone h x x (below_refl x) (m h) n (f.state h) s (f.sent h) o there.0 run.0 run.1).0

-- Talk over honest links has its fixed point in f.
pub talk_same : {S : Type 0} (net : Network S) (monotone : IsMonotone net) (script : List Step) → IsQuiescent net (after_all net (start net) script) → (h : ℕ) (said : ℕ → List ℕ → List ℕ) → IsHonest net h said → IsStar (after_all net (start net) script) h → (k : ℕ) (x : Streams) (n : ℕ) (s : S) (o : Streams) → NodeTalk net h said k x → IsMaximalRun net h x n s o → ((j : ℕ) → x j ≡ said j (o j)) → (s ≡ (after_all net (start net) script).state h) × ((j : ℕ) → o j ≡ (after_all net (start net) script).sent h j) × ((j : ℕ) → x j ≡ (after_all net (start net) script).sent j h)
talk_same net monotone script quiescent h said honest star k x n s o t run fixed =
    fixed_same net monotone script quiescent h said honest star x n s o
    (talk_under net monotone h said honest (after_all net (start net) script).sent (final_closed net (after_all net (start net) script) (turns net script) (script_final net monotone script quiescent)) k x t)
    run fixed

-- While h runs over no more than f sends to it, what its links give is no more than that.
pub received_from_under : {S : Type 0} (net : Network S) → IsMonotone net → (h : ℕ) (said : ℕ → List ℕ → List ℕ) → IsHonest net h said → (z : ℕ → Streams) → IsClosed net z → (x : Streams) (n : ℕ) (s : S) (o : Streams) → Below x (λ j. z j h) → IsRun net h x n s o → (j : ℕ) → IsPrefix (said j (o j)) (z j h)
received_from_under net monotone h said honest z closed x n s o b run j =
    let c = closed h in
    said_under net monotone h said honest z closed j (o j) (below_trans o c.2 (z h) (run_below net monotone h x (λ a. z a h) b n c.0 s c.1 o c.2 run c.3.0 c.3.1).1 c.4 j)

-- h over honest links, when it has halted or when the link that it waits for has no more to give, is where it ends in f.
pub drive_same : {S : Type 0} (net : Network S) (monotone : IsMonotone net) (script : List Step) → IsQuiescent net (after_all net (start net) script) → (h : ℕ) (said : ℕ → List ℕ → List ℕ) → IsHonest net h said → IsStar (after_all net (start net) script) h → (x : Streams) (n : ℕ) (s : S) (o : Streams) → Below x (λ j. (after_all net (start net) script).sent j h) → Below x (λ j. said j (o j)) → IsRun net h x n s o → net.turn h s (λ j. said j (o j)) ≡ None → (s ≡ (after_all net (start net) script).state h) × ((j : ℕ) → o j ≡ (after_all net (start net) script).sent h j)
drive_same net monotone script quiescent h said honest star x n s o b hub_received run stop =
    let r = fixed_same net monotone script quiescent h said honest star (λ j. said j (o j)) n s o
    (received_from_under net monotone h said honest (after_all net (start net) script).sent (final_closed net (after_all net (start net) script) (turns net script) (script_final net monotone script quiescent)) x n s o b run)
    (runs_more net monotone h x (λ j. said j (o j)) hub_received n s o run, stop) (λ j. refl) in
    (r.0, r.1)
