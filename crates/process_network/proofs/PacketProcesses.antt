-- Processes that wait for whole messages keep each turn over more bytes, and need what they have taken.
use Rattle.std.proofs.Common.{◌≡◌, ℕ, zero, suc, ◌+◌, ◌≤◌, List, [], ◌-◌, length, drop, Option, Some, None, refl, sym, ap, ◌∙◌, subst, arith, length-drop}
use Rattle.std.proofs.lemmas.Option.{none-some, same_Some}
use Rattle.std.proofs.lemmas.List.{drop-append-le}
use Rattle.process_network.specs.Network.{IsPrefix, Streams, Below, IsMonotone, World, received, IsRun}
use Rattle.process_network.specs.PacketProcesses.{Outlook, Protocol, IsDecided, ProcessState, after_take, turn_by_outlook, network}
use Rattle.process_network.specs.PacketProcesses.Outlook.{Acts, Waits, Halts}
use Rattle.process_network.proofs.Prefixes.{update_all}
use Rattle.process_network.proofs.ProcessRuns.{runs_more, runs_same}
use Rattle.process_network.proofs.ReachableWorlds.{IsFinal}
use Rattle.process_network.proofs.HaltedNode.{IsHungry}

-- a whole message at c stays the first one there
pub still : {M : Type 0} (first : List ℕ → Option (M × ℕ)) → IsDecided first → (c : ℕ) (x y : List ℕ) → IsPrefix x y → (r : M × ℕ) → first (drop c x) ≡ Some r → first (drop c y) ≡ Some r
still first decided c x y p r e =
    let d = decided (drop c x) p.0 r e in
    let inside : c ≤ length x = omega (arith, length-drop c x) in
    subst (λ t. first t ≡ Some r) (sym (drop-append-le c x p.0 inside) ∙ ap (drop c) p.1) d.2

take_same : {C M : Type 0} (proto : Protocol C M) (i : ℕ) (s : ProcessState C) (p : ℕ) (a b : Option (M × ℕ)) (r : ProcessState C × Streams) → ((m : M × ℕ) → a ≡ Some m → b ≡ Some m) → after_take proto i s p a ≡ Some r → after_take proto i s p b ≡ Some r
take_same {C} proto i s p None b r keep e = absurd (none-some {A = ProcessState C × Streams} r e)
take_same {C} proto i s p (Some m) b r keep e = ap (after_take proto i s p) (keep m refl) ∙ e

turn_same : {C M : Type 0} (proto : Protocol C M) → IsDecided proto.first → (i : ℕ) (s : ProcessState C) (x y : Streams) (v : Outlook C) (r : ProcessState C × Streams) → Below x y → turn_by_outlook proto i s x v ≡ Some r → turn_by_outlook proto i s y v ≡ Some r
turn_same proto decided i s x y (Acts next sends) r b e = e
turn_same proto decided i s x y (Waits p) r b e = take_same proto i s p (proto.first (drop (s.taken p) (x p))) (proto.first (drop (s.taken p) (y p))) r (still proto.first decided (s.taken p) (x p) (y p) (b p)) e
turn_same proto decided i s x y Halts r b e = e

pub packets_monotone : {C M : Type 0} (proto : Protocol C M) → IsDecided proto.first → IsMonotone (network proto)
packets_monotone proto decided i s x y r b e = turn_same proto decided i s x y (proto.outlook i s.core) r b e

-- No more is taken than was received.
took_within : {C M : Type 0} (proto : Protocol C M) → IsDecided proto.first → (i : ℕ) (s : ProcessState C) (x : Streams) (p : ℕ) (a : Option (M × ℕ)) (r : ProcessState C × Streams) → proto.first (drop (s.taken p) (x p)) ≡ a → after_take proto i s p a ≡ Some r → ((j : ℕ) → s.taken j ≤ length (x j)) → (j : ℕ) → r.0.taken j ≤ length (x j)
took_within {C} proto decided i s x p None r f e within = absurd (none-some {A = ProcessState C × Streams} r e)
took_within {C} proto decided i s x p (Some m) r f e within =
    let d = decided (drop (s.taken p) (x p)) [] m f in
    let room : m.1 ≤ length (x p) - s.taken p = subst (λ t. m.1 ≤ t) (length-drop (s.taken p) (x p)) d.1 in
    let old : s.taken p ≤ length (x p) = within p in
    subst (λ (t : ProcessState C × Streams). (j : ℕ) → t.0.taken j ≤ length (x j)) (same_Some {A = ProcessState C × Streams} _ _ e)
    (update_all (λ j t. t ≤ length (x j)) s.taken p (s.taken p + m.1) (omega arith) (λ j ne. within j))

turned_within : {C M : Type 0} (proto : Protocol C M) → IsDecided proto.first → (i : ℕ) (s : ProcessState C) (x : Streams) (v : Outlook C) (r : ProcessState C × Streams) → turn_by_outlook proto i s x v ≡ Some r → ((j : ℕ) → s.taken j ≤ length (x j)) → (j : ℕ) → r.0.taken j ≤ length (x j)
turned_within {C} proto decided i s x (Acts next sends) r e within = subst (λ (t : ProcessState C × Streams). (j : ℕ) → t.0.taken j ≤ length (x j)) (same_Some {A = ProcessState C × Streams} _ _ e) within
turned_within {C} proto decided i s x (Waits p) r e within = took_within proto decided i s x p (proto.first (drop (s.taken p) (x p))) r refl e within
turned_within {C} proto decided i s x Halts r e within = absurd (none-some {A = ProcessState C × Streams} r e)

pub taken_within : {C M : Type 0} (proto : Protocol C M) → IsDecided proto.first → (i : ℕ) (x : Streams) (k : ℕ) (s : ProcessState C) (o : Streams) → IsRun (network proto) i x k s o → (j : ℕ) → s.taken j ≤ length (x j)
taken_within {C} proto decided i x zero s o h j = subst (λ (t : ProcessState C). t.taken j ≤ length (x j)) (sym h.0) (omega arith)
taken_within proto decided i x (suc k) s o h j = turned_within proto decided i h.0 x (proto.outlook i h.0.core) (s, h.2) h.4 (taken_within proto decided i x k h.0 h.1 h.3) j

-- A process that ends with all that was sent to it taken needs all of it for its last turn.
pub packets_hungry : {C M : Type 0} (proto : Protocol C M) → IsDecided proto.first → (f : World (ProcessState C)) (n : ℕ → ℕ) → IsFinal (network proto) f n → (i : ℕ) → ((j : ℕ) → (f.state i).taken j ≡ length (f.sent j i)) → IsHungry (network proto) f n i
packets_hungry {C} proto decided f n fin i all x b s o h j =
    let e = (runs_same (network proto) i (received f i) (n i) s (f.state i) o (f.sent i) (runs_more (network proto) (packets_monotone proto decided) i x (received f i) b (n i) s o h) (fin.run.runs i)).0 in
    let t : s.taken j ≤ length (x j) = taken_within proto decided i x (n i) s o h j in
    let u : s.taken j ≡ length (f.sent j i) = ap (λ (c : ProcessState C). c.taken j) e ∙ all j in
    omega arith
