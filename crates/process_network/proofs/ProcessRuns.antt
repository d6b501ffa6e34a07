-- The turns of one node.
use Rattle.std.proofs.Common.{◌≡◌, ℕ, zero, suc, ◌<◌, ◌≤◌, ◌++◌, Some, None, sym, ap, ◌∙◌, subst, arith, le_of_suc-le-suc, eq-or-lt_of_le, ⊎_elim}
use Rattle.std.proofs.lemmas.Option.{same_Some, none-some}
use Rattle.process_network.specs.Network.{Streams, Below, Network, IsMonotone, IsRun}
use Rattle.process_network.proofs.Prefixes.{prefix_refl, prefix_eq, prefix_trans, le_or_lt}

pub below_refl : (x : Streams) → Below x x
below_refl x j = prefix_refl (x j)

pub below_trans : (x y z : Streams) → Below x y → Below y z → Below x z
below_trans x y z h g j = prefix_trans (x j) (y j) (z j) (h j) (g j)

-- A run over received bytes is a run over more of them.
pub runs_more : {S : Type 0} (net : Network S) → IsMonotone net → (i : ℕ) (x y : Streams) → Below x y → (k : ℕ) (s : S) (o : Streams) → IsRun net i x k s o → IsRun net i y k s o
runs_more net monotone i x y b zero s o h = h
runs_more net monotone i x y b (suc k) s o h = (h.0, h.1, h.2, runs_more net monotone i x y b k h.0 h.1 h.3, monotone i h.0 x y (s, h.2) b h.4, h.5)

-- Two runs of as many turns over the same bytes are the same.
pub runs_same : {S : Type 0} (net : Network S) (i : ℕ) (x : Streams) (k : ℕ) (s s' : S) (o o' : Streams) → IsRun net i x k s o → IsRun net i x k s' o' → (s ≡ s') × ((j : ℕ) → o j ≡ o' j)
runs_same net i x zero s s' o o' h g = (h.0 ∙ sym g.0, λ j. h.1 j ∙ sym (g.1 j))
runs_same {S} net i x (suc k) s s' o o' h g =
    let ih = runs_same net i x k h.0 g.0 h.1 g.1 h.3 g.3 in
    let e : (s, h.2) ≡ (s', g.2) = same_Some {A = S × Streams} (s, h.2) (s', g.2) (sym h.4 ∙ ap (λ t. net.turn i t x) ih.0 ∙ g.4) in
    (ap (λ (p : S × Streams). p.0) e, λ j. h.5 j ∙ ap (λ t. t ++ h.2 j) (ih.1 j) ∙ ap (λ (p : S × Streams). g.1 j ++ p.1 j) e ∙ sym (g.5 j))

-- A shorter run is a part of a longer one, which goes on from there.
abbrev Cut : {S : Type 0} → Network S → ℕ → Streams → ℕ → Streams → Type 0
Cut {S} net i x k o = (s₀ : S) × (o₀ : Streams) × (s₁ : S) × (more : Streams) × IsRun net i x k s₀ o₀ × (net.turn i s₀ x ≡ Some (s₁, more)) × Below (λ j. o₀ j ++ more j) o

cut_last : {S : Type 0} (net : Network S) (i : ℕ) (x : Streams) (k n : ℕ) (s : S) (o : Streams) → k ≡ n → IsRun net i x (suc n) s o → Cut net i x k o
cut_last net i x k n s o e h = (h.0, h.1, s, h.2, subst (λ t. IsRun net i x t h.0 h.1) (sym e) h.3, h.4, λ j. prefix_eq (sym (h.5 j)))

cut_more : {S : Type 0} (net : Network S) (i : ℕ) (x : Streams) (k n : ℕ) (s : S) (o : Streams) (h : IsRun net i x (suc n) s o) → Cut net i x k h.1 → Cut net i x k o
cut_more net i x k n s o h r = (r.0, r.1, r.2, r.3, r.4, r.5, λ j. prefix_trans (r.1 j ++ r.3 j) (h.1 j) (o j) (r.6 j) (h.2 j, sym (h.5 j)))

pub runs_cut : {S : Type 0} (net : Network S) (i : ℕ) (x : Streams) (k n : ℕ) (s : S) (o : Streams) → k < n → IsRun net i x n s o → Cut net i x k o
runs_cut net i x k zero s o l h = absurd (omega arith)
runs_cut net i x k (suc n) s o l h = ⊎_elim (λ e. cut_last net i x k n s o e h) (λ m. cut_more net i x k n s o h (runs_cut net i x k n h.0 h.1 m h.3)) (eq-or-lt_of_le (le_of_suc-le-suc l))

-- Of two runs over the same bytes, the one with more turns has sent more.
pub runs_grow : {S : Type 0} (net : Network S) (i : ℕ) (x : Streams) (k n : ℕ) (s s' : S) (o o' : Streams) → k ≤ n → IsRun net i x k s o → IsRun net i x n s' o' → Below o o'
runs_grow {S} net i x k n s s' o o' l h g = ⊎_elim same less (eq-or-lt_of_le l)
  where
    same : k ≡ n → Below o o'
    same e j = prefix_eq ((runs_same net i x n s s' o o' (subst (λ t. IsRun net i x t s o) e h) g).1 j)

    less : k < n → Below o o'
    less m j =
        let r = runs_cut net i x k n s' o' m g in
        prefix_trans (o j) (r.1 j ++ r.3 j) (o' j) (r.3 j, ap (λ t. t ++ r.3 j) ((runs_same net i x k s r.0 o r.1 h r.4).1 j)) (r.6 j)

-- No run has more turns than one that no turn is left to.
pub runs_max : {S : Type 0} (net : Network S) (i : ℕ) (x : Streams) (k n : ℕ) (s s' : S) (o o' : Streams) → IsRun net i x k s o → IsRun net i x n s' o' → net.turn i s' x ≡ None → k ≤ n
runs_max {S} net i x k n s s' o o' h g stop = ⊎_elim (λ l. l) (λ m. absurd (no m)) (le_or_lt k n)
  where
    no : n < k → ⊥
    no m =
        let r = runs_cut net i x n k s o m h in
        let e = (runs_same net i x n r.0 s' r.1 o' r.4 g).0 in
        none-some {A = S × Streams} (r.2, r.3) (sym stop ∙ ap (λ t. net.turn i t x) (sym e) ∙ r.5)

-- A run over fewer bytes is a beginning of one that no turn is left to.
pub run_below : {S : Type 0} (net : Network S) → IsMonotone net → (i : ℕ) (x y : Streams) → Below x y → (k n : ℕ) (s s' : S) (o o' : Streams) → IsRun net i x k s o → IsRun net i y n s' o' → net.turn i s' y ≡ None → (k ≤ n) × Below o o'
run_below net monotone i x y b k n s s' o o' h g stop =
    let m = runs_more net monotone i x y b k s o h in
    let l = runs_max net i y k n s s' o o' m g stop in
    (l, runs_grow net i y k n s s' o o' l m g)
