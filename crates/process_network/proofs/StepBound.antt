-- How many steps of a schedule are effective, at most.
use Rattle.std.proofs.Common.{◌≡◌, ℕ, suc, ◌+◌, ◌<◌, ◌≤◌, ◌==◌, ⊎_elim, Bool, true, false, List, [], ◌∷◌, length, Option, Some, None, is_some, nat_lt, if◌then◌else◌, refl, ap, ◌∙◌, arith, le_trans, ltb-true}
use Rattle.process_network.specs.Network.{update, Streams, Network, IsMonotone, World, received, start, Step, after_turn, delivered_after, after, is_effective, after_all, effective_steps, sum_below, IsSmall, turns_counted, turns_after, turns_all}
use Rattle.process_network.specs.Network.Step.{Turn, Deliver}
use Rattle.process_network.proofs.Prefixes.{prefix_length, prefix_of_nil, update_same, le_or_lt}
use Rattle.process_network.proofs.Sums.{sum_le, sum_same, sum_update}
use Rattle.process_network.proofs.ReachableWorlds.{IsOnRun, IsFinal, run_start, deliver_grows, step_run, all_run, Under, step_under, all_under, under_start, final_closed, on_the_way}

-- the turns of all nodes and the bytes delivered between them, of nodes below n
abbrev weight : {S : Type 0} → ℕ → World S → (ℕ → ℕ) → ℕ
weight n w k = sum_below n k + sum_below n (λ i. sum_below n (w.delivered i))

acted_weight : {S : Type 0} (n : ℕ) (w : World S) (k : ℕ → ℕ) (i : ℕ) (r : Option (S × Streams)) → ((x : S × Streams) → r ≡ Some x → i < n) → (if is_some r then 1 else 0) + weight n w k ≤ weight n (after_turn w i r) (turns_counted k i r)
acted_weight n w k i None l = omega arith
acted_weight n w k i (Some r) l = let m = l r refl in let e = sum_update n k i (suc (k i)) m in omega arith

row_weight : (n : ℕ) (delivered : ℕ → ℕ → ℕ) (i j d : ℕ) → (a : ℕ) → sum_below n (update delivered i (update (delivered i) j d) a) ≡ update (λ b. sum_below n (delivered b)) i (sum_below n (update (delivered i) j d)) a
row_weight n delivered i j d a = go (a == i)
  where
    go : (b : Bool) → sum_below n (if b then update (delivered i) j d else delivered a) ≡ (if b then sum_below n (update (delivered i) j d) else sum_below n (delivered a))
    go true = refl
    go false = refl

bit_le : (a b : ℕ) → a ≤ b → (if nat_lt a b then 1 else 0) + a ≤ b
bit_le a b l = go (nat_lt a b) refl
  where
    go : (t : Bool) → nat_lt a b ≡ t → (if t then 1 else 0) + a ≤ b
    go true e = let m = ltb-true a b e in omega arith
    go false e = omega arith

deliver_within : {S : Type 0} (net : Network S) (n : ℕ) (w : World S) (k : ℕ → ℕ) (i j c : ℕ) → w.delivered i j ≤ length (w.sent i j) → i < n → j < n → (if nat_lt (w.delivered i j) (delivered_after w i j c) then 1 else 0) + weight n w k ≤ weight n (after net w (Deliver i j c)) k
deliver_within net n w k i j c fits l m =
    let d : ℕ = delivered_after w i j c in
    let row : ℕ = sum_below n (update (w.delivered i) j d) in
    let inner : row + w.delivered i j ≡ sum_below n (w.delivered i) + d = sum_update n (w.delivered i) j d m in
    let outer : sum_below n (update (λ b. sum_below n (w.delivered b)) i row) + sum_below n (w.delivered i) ≡ sum_below n (λ b. sum_below n (w.delivered b)) + row = sum_update n (λ b. sum_below n (w.delivered b)) i row l in
    let same : sum_below n (λ a. sum_below n (update w.delivered i (update (w.delivered i) j d) a)) ≡ sum_below n (update (λ b. sum_below n (w.delivered b)) i row) = sum_same n (λ a. sum_below n (update w.delivered i (update (w.delivered i) j d) a)) (update (λ b. sum_below n (w.delivered b)) i row) (λ a _. row_weight n w.delivered i j d a) in
    let one : (if nat_lt (w.delivered i j) d then 1 else 0) + w.delivered i j ≤ d = bit_le (w.delivered i j) d (omega arith) in
    omega arith

deliver_nothing : {S : Type 0} (net : Network S) (n : ℕ) (w : World S) (k : ℕ → ℕ) (i j c : ℕ) → ((a b : ℕ) → w.delivered a b ≤ length (w.sent a b)) → length (w.sent i j) ≡ 0 → (if nat_lt (w.delivered i j) (delivered_after w i j c) then 1 else 0) + weight n w k ≤ weight n (after net w (Deliver i j c)) k
deliver_nothing net n w k i j c within none =
    let grows = deliver_grows net w i j c within in
    let rest : sum_below n (λ a. sum_below n (w.delivered a)) ≤ sum_below n (λ a. sum_below n (update w.delivered i (update (w.delivered i) j (delivered_after w i j c)) a)) = sum_le n (λ a. sum_below n (w.delivered a)) (λ a. sum_below n (update w.delivered i (update (w.delivered i) j (delivered_after w i j c)) a)) (λ a _. sum_le n (w.delivered a) (update w.delivered i (update (w.delivered i) j (delivered_after w i j c)) a) (λ b _. (grows a b).0)) in
    let fits : w.delivered i j ≤ length (w.sent i j) = within i j in
    let zero_there : delivered_after w i j c ≡ w.delivered i j = omega arith in
    let one : (if nat_lt (w.delivered i j) (delivered_after w i j c) then 1 else 0) + w.delivered i j ≤ delivered_after w i j c = bit_le (w.delivered i j) (delivered_after w i j c) (omega arith) in
    omega arith

-- A node that can take a turn is below n.
pub only_small_turn : {S : Type 0} (net : Network S) → IsMonotone net → (n : ℕ) (w f : World S) (k m : ℕ → ℕ) → IsSmall n f m → IsOnRun net w k → IsFinal net f m → Under w f.sent → (i : ℕ) (r : S × Streams) → net.turn i (w.state i) (received w i) ≡ Some r → i < n
only_small_turn net monotone n w f k m small h fin u i r e = ⊎_elim
    (λ (l : n ≤ i).
    let h' = step_run net monotone w k (Turn i) h in
    let u' = step_under net monotone w f.sent k (Turn i) h (final_closed net f m fin) u in
    let more : turns_after net w k (Turn i) i ≤ m i = (on_the_way net monotone (after net w (Turn i)) f (turns_after net w k (Turn i)) m h' fin u' i).0 in
    let now : turns_after net w k (Turn i) i ≡ suc (k i) = ap (λ t. turns_counted k i t i) e ∙ update_same k i (suc (k i)) in
    let none : m i ≡ 0 = small.turns i l in
    absurd (omega arith))
    (λ l. l) (le_or_lt n i)

-- An effective step adds at least one to the weight.
step_weight : {S : Type 0} (net : Network S) → IsMonotone net → (n : ℕ) (w f : World S) (k m : ℕ → ℕ) → IsSmall n f m → IsOnRun net w k → IsFinal net f m → Under w f.sent → (s : Step) → (if is_effective net w s then 1 else 0) + weight n w k ≤ weight n (after net w s) (turns_after net w k s)
step_weight net monotone n w f k m small h fin u (Turn i) = acted_weight n w k i (net.turn i (w.state i) (received w i)) (only_small_turn net monotone n w f k m small h fin u i)
step_weight net monotone n w f k m small h fin u (Deliver i j c) = ⊎_elim
    (λ l. deliver_nothing net n w k i j c h.within (ap length (prefix_of_nil (w.sent i j) (f.sent i j) (u i j) (small.sent_from i j l))))
    (λ l. ⊎_elim
    (λ m. deliver_nothing net n w k i j c h.within (ap length (prefix_of_nil (w.sent i j) (f.sent i j) (u i j) (small.sent_to i j m))))
    (λ m. deliver_within net n w k i j c (h.within i j) l m)
    (le_or_lt n j))
    (le_or_lt n i)

steps_weight : {S : Type 0} (net : Network S) → IsMonotone net → (n : ℕ) (w f : World S) (k m : ℕ → ℕ) → IsSmall n f m → IsOnRun net w k → IsFinal net f m → Under w f.sent → (ss : List Step) → effective_steps net w ss + weight n w k ≤ weight n (after_all net w ss) (turns_all net w k ss)
steps_weight net monotone n w f k m small h fin u [] = omega arith
steps_weight net monotone n w f k m small h fin u (s ∷ ss) =
    let one = step_weight net monotone n w f k m small h fin u s in
    let rest = steps_weight net monotone n (after net w s) f (turns_after net w k s) m small (step_run net monotone w k s h) fin (step_under net monotone w f.sent k s h (final_closed net f m fin) u) ss in
    omega arith

-- No schedule has more effective steps than the final world has turns and bytes.
pub effective_bound : {S : Type 0} (net : Network S) → IsMonotone net → (n : ℕ) (f : World S) (m : ℕ → ℕ) → IsSmall n f m → IsFinal net f m → (ss : List Step) → effective_steps net (start net) ss ≤ sum_below n m + sum_below n (λ i. sum_below n (λ j. length (f.sent i j)))
effective_bound net monotone n f m small fin ss =
    let w = after_all net (start net) ss in
    let k = turns_all net (start net) (λ i. 0) ss in
    let closed = final_closed net f m fin in
    let h = run_start net in
    let u = under_start net f.sent in
    let h' = all_run net monotone (start net) (λ i. 0) ss h in
    let u' = all_under net monotone (start net) f.sent (λ i. 0) ss h closed u in
    let all = steps_weight net monotone n (start net) f (λ i. 0) m small h fin u ss in
    let turns : sum_below n k ≤ sum_below n m = sum_le n k m (λ i _. (on_the_way net monotone w f k m h' fin u' i).0) in
    let bytes : sum_below n (λ i. sum_below n (w.delivered i)) ≤ sum_below n (λ i. sum_below n (λ j. length (f.sent i j))) =
    sum_le n (λ i. sum_below n (w.delivered i)) (λ i. sum_below n (λ j. length (f.sent i j))) (λ i _. sum_le n (w.delivered i) (λ j. length (f.sent i j)) (λ j _. le_trans (h'.within i j) (prefix_length (w.sent i j) (f.sent i j) (u' i j)))) in
    omega arith
