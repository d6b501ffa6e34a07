-- A network of processes that are joined by queues of bytes.
-- Nodes have numbers. There is a queue from each node to each node.
pub use Rattle.byte_streams.specs.Prefixes.{IsPrefix}
use Rattle.std.specs.Prelude.{◌≡◌, ℕ, zero, suc, ◌+◌, ◌-◌, ◌≤◌, ◌≢◌, ◌⊎◌, ◌==◌, min, Bool, true, false, List, [], ◌∷◌, ◌++◌, length, take, Option, Some, None, is_some, nat_lt, if◌then◌else◌}

-- A function of the nodes that differs from f at i alone.
abbrev pub update : {A : Type 0} → (ℕ → A) → ℕ → A → ℕ → A
update f i v j = if j == i then v else f j

-- What a node reads or sends, by the other node.
abbrev pub Streams : Type 0
Streams = ℕ → List ℕ

-- Each stream of the first is a prefix of that of the second.
abbrev pub Below : Streams → Streams → Type 0
Below x y = (j : ℕ) → IsPrefix (x j) (y j)

-- `turn i s x` is what node i does in state s when it received x in all: nothing, or one turn, which gives its next
-- state and what it sends to each node.
pub record Network (S : Type 0) : Type 0 where
  pub start : ℕ → S
  pub turn : ℕ → S → Streams → Option (S × Streams)

-- A turn that can be taken is taken in the same way when more was received.
abbrev pub IsMonotone : {S : Type 0} → Network S → Type 0
IsMonotone {S} net =
    (i : ℕ) (s : S) (x y : Streams) (r : S × Streams) → Below x y → net.turn i s x ≡ Some r
    → net.turn i s y ≡ Some r

-- The state of each node, the bytes sent by the one node to the other, and how many of them were delivered.
pub record World (S : Type 0) : Type 0 where
  pub state : ℕ → S
  pub sent : ℕ → ℕ → List ℕ
  pub delivered : ℕ → ℕ → ℕ

-- What node i received.
abbrev pub received : {S : Type 0} → World S → ℕ → Streams
received w i j = take (w.delivered j i) (w.sent j i)

abbrev pub start : {S : Type 0} → Network S → World S
start net = record { state = net.start; sent = λ i j. []; delivered = λ i j. 0 }

pub data Step : Type 0 where
  Turn : (node : ℕ) → Step
  Deliver : (from to count : ℕ) → Step

abbrev pub after_turn : {S : Type 0} → World S → ℕ → Option (S × Streams) → World S
after_turn w i None = w
after_turn w i (Some r) = record w {
  state = update w.state i r.0;
  sent = update w.sent i (λ j. w.sent i j ++ r.1 j);
}

-- When d of the bytes xs were delivered, so many are once k more are, or all that are in flight where k is more.
abbrev pub handed_over : ℕ → List ℕ → ℕ → ℕ
handed_over d xs k = d + min k (length xs - d)

-- How many bytes from i to j are delivered once k more are.
abbrev pub delivered_after : {S : Type 0} → World S → ℕ → ℕ → ℕ → ℕ
delivered_after w i j k = handed_over (w.delivered i j) (w.sent i j) k

abbrev pub after : {S : Type 0} → Network S → World S → Step → World S
after net w (Turn i) = after_turn w i (net.turn i (w.state i) (received w i))
after net w (Deliver i j k) = record w {
  delivered = update w.delivered i (update (w.delivered i) j (delivered_after w i j k));
}

abbrev pub is_effective : {S : Type 0} → Network S → World S → Step → Bool
is_effective net w (Turn i) = is_some (net.turn i (w.state i) (received w i))
is_effective net w (Deliver i j k) = nat_lt (w.delivered i j) (delivered_after w i j k)

abbrev pub after_all : {S : Type 0} → Network S → World S → List Step → World S
after_all net w [] = w
after_all net w (s ∷ ss) = after_all net (after net w s) ss

-- How many of the steps are effective.
abbrev pub effective_steps : {S : Type 0} → Network S → World S → List Step → ℕ
effective_steps net w [] = 0
effective_steps net w (s ∷ ss) =
    (if is_effective net w s then 1 else 0) + effective_steps net (after net w s) ss

-- No step is effective.
abbrev pub IsQuiescent : {S : Type 0} → Network S → World S → Type 0
IsQuiescent net w = (s : Step) → is_effective net w s ≡ false

-- Node i, over received bytes x, is in state s after k turns, and has sent o.
abbrev pub IsRun : {S : Type 0} → Network S → ℕ → Streams → ℕ → S → Streams → Type 0
IsRun net i x zero s o = (s ≡ net.start i) × ((j : ℕ) → o j ≡ [])
IsRun {S} net i x (suc k) s o =
    (s₀ : S) × (o₀ : Streams) × (more : Streams) × IsRun net i x k s₀ o₀ × (net.turn i s₀ x ≡ Some (s, more))
    × ((j : ℕ) → o j ≡ o₀ j ++ more j)

-- The same, and no turn is left.
abbrev pub IsMaximalRun : {S : Type 0} → Network S → ℕ → Streams → ℕ → S → Streams → Type 0
IsMaximalRun net i x k s o = IsRun net i x k s o × (net.turn i s x ≡ None)

abbrev pub sum_below : ℕ → (ℕ → ℕ) → ℕ
sum_below zero f = 0
sum_below (suc n) f = sum_below n f + f n

-- z i j is what node i sends to node j. Each node, over what z sends to it, runs out of turns, and sends no more than z
-- says: z solves the equations of the network, or is more than a solution.
abbrev pub IsClosed : {S : Type 0} → Network S → (ℕ → Streams) → Type 0
IsClosed {S} net z =
    (i : ℕ) → (n : ℕ) × (s : S) × (o : Streams) × IsMaximalRun net i (λ j. z j i) n s o × Below o (z i)

-- Node h talks over links that are functions: `said j y` is all that link j gives for sent bytes y. `NodeTalk k x`: x
-- is what the links gave after k rounds, in each of which the node takes every turn that it can.
abbrev pub NodeTalk : {S : Type 0} → Network S → ℕ → (ℕ → List ℕ → List ℕ) → ℕ → Streams → Type 0
NodeTalk net h said zero x = (j : ℕ) → x j ≡ said j []
NodeTalk {S} net h said (suc k) x =
    (x₀ : Streams) × (n : ℕ) × (s : S) × (o : Streams) × NodeTalk net h said k x₀ × IsMaximalRun net h x₀ n s o
    × ((j : ℕ) → x j ≡ said j (o j))

-- What a node reads to which h alone sends.
abbrev pub only : ℕ → List ℕ → Streams
only h y = update (λ j. []) h y

-- Each link gives what the node behind it would send, and h has no link to itself.
abbrev pub IsHonest : {S : Type 0} → Network S → ℕ → (ℕ → List ℕ → List ℕ) → Type 0
IsHonest {S} net h said =
    (j : ℕ) → ((j ≡ h) × ((y : List ℕ) → said j y ≡ []))
    ⊎ ((j ≢ h)
    × ((y : List ℕ) → (n : ℕ) × (s : S) × (o : Streams) × IsMaximalRun net j (only h y) n s o × (o h ≡ said j y)))

-- Only the queues from and to h have bytes in f.
pub record IsStar {S : Type 0} (f : World S) (h : ℕ) : Type 0 where
  pub apart : (i j : ℕ) → i ≢ h → j ≢ h → f.sent i j ≡ []
  pub self : f.sent h h ≡ []

-- The same states, and the same bytes sent and delivered.
pub record IsSame {S : Type 0} (w f : World S) : Type 0 where
  pub state : (i : ℕ) → w.state i ≡ f.state i
  pub sent : (i j : ℕ) → w.sent i j ≡ f.sent i j
  pub delivered : (i j : ℕ) → w.delivered i j ≡ f.delivered i j

abbrev pub turns_counted : {S : Type 0} → (ℕ → ℕ) → ℕ → Option (S × Streams) → ℕ → ℕ
turns_counted k i None = k
turns_counted k i (Some r) = update k i (suc (k i))

-- The turns of each node after a step.
abbrev pub turns_after : {S : Type 0} → Network S → World S → (ℕ → ℕ) → Step → ℕ → ℕ
turns_after net w k (Turn i) = turns_counted k i (net.turn i (w.state i) (received w i))
turns_after net w k (Deliver i j n) = k

abbrev pub turns_all : {S : Type 0} → Network S → World S → (ℕ → ℕ) → List Step → ℕ → ℕ
turns_all net w k [] = k
turns_all net w k (s ∷ ss) = turns_all net (after net w s) (turns_after net w k s) ss

-- The turns of each node in a schedule from the start.
abbrev pub turns : {S : Type 0} → Network S → List Step → ℕ → ℕ
turns net ss = turns_all net (start net) (λ i. 0) ss

-- Nodes from n on take no turn, and nothing is sent to or from them.
pub record IsSmall {S : Type 0} (n : ℕ) (f : World S) (k : ℕ → ℕ) : Type 0 where
  pub turns : (i : ℕ) → n ≤ i → k i ≡ 0
  pub sent_from : (i j : ℕ) → n ≤ i → f.sent i j ≡ []
  pub sent_to : (i j : ℕ) → n ≤ j → f.sent i j ≡ []

-- The world that a schedule leads to.
abbrev pub outcome : {S : Type 0} → Network S → List Step → World S
outcome net ss = after_all net (start net) ss

-- `script` is a schedule after which nothing is left to do, and in it nodes from `nodes` on take no turn, and nothing
-- is sent to or from them. Then every other schedule is compared with it.
pub record IsOneResult {S : Type 0} (net : Network S) (script : List Step) (nodes : ℕ) : Type 0 where
  -- what was sent is a beginning of what the script sends
  pub prefix : (ss : List Step) (i j : ℕ) → IsPrefix ((outcome net ss).sent i j) ((outcome net script).sent i j)
  -- each node is in a state through which it goes in the script
  pub on_the_way : (ss : List Step) (i : ℕ)
      → (k : ℕ) × (k ≤ turns net script i)
      × IsRun net i (received (outcome net script) i) k ((outcome net ss).state i) ((outcome net ss).sent i)
  -- a schedule after which no step is effective ends as the script
  pub same : (ss : List Step) → IsQuiescent net (outcome net ss) → IsSame (outcome net ss) (outcome net script)
  -- no step is effective, or here is one that is
  pub progress : (ss : List Step)
      → IsQuiescent net (outcome net ss) ⊎ ((s : Step) × (is_effective net (outcome net ss) s ≡ true))
  -- there are no more effective steps than turns and bytes in the script
  pub bound : (ss : List Step)
      → effective_steps net (start net) ss
      ≤ sum_below nodes (turns net script)
      + sum_below nodes (λ i. sum_below nodes (λ j. length ((outcome net script).sent i j)))
