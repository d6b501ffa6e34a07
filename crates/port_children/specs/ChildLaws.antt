-- Children that were all started run, and once all were waited for the others run that ran before.
use Rattle.std.proofs.Common.{ℕ, ◌≡◌, ◌+◌, ◌==◌, ◌<◌, ◌≤◌, zero, suc, List, [], ◌∷◌, ◌++◌, Bool, true, false, cond, not, length, refl, ap, sym, ◌∙◌, subst, arith, append_assoc}
use Rattle.std.proofs.lemmas.List.{append-nil}
use Rattle.std.proofs.lemmas.List.Sums.{sum_by-cons}
use Rattle.std.proofs.lemmas.Bool.{eqb-true, eq-eqb}
use Rattle.std.specs.declared.result.Result.TheVariants.{Ok, Err}
use Rattle.cos_children.specs.Children.{Children, times, without, starts_of, Runs, AreChildren, with_started, with_stopped}
use Rattle.cos_children.proofs.ChildLaws.{one, one-same, one-other, times-gone, times-left, starts-more}
use Rattle.port_children.specs.Opened.{with_all, pairs}
use Rattle.port_children.specs.Waited.{Given, with_wait, with_waits, statuses_of, AllRun}

-- What starting and waiting leave as it was, and what they add.

pub all-started : (c : Children) (words : List (List (List ℕ))) (numbers : List ℕ)
    → (with_all c words numbers).started ≡ c.started ++ pairs words numbers
all-started c [] ns = sym (append-nil c.started)
all-started c (w ∷ ws) [] = sym (append-nil c.started)
all-started c (w ∷ ws) (n ∷ ns) = all-started (with_started c w n) ws ns ∙ append_assoc c.started ((w, n) ∷ []) (pairs ws ns)

pub all-ended : (c : Children) (words : List (List (List ℕ))) (numbers : List ℕ)
    → (with_all c words numbers).ended ≡ c.ended
all-ended c [] ns = refl
all-ended c (w ∷ ws) [] = refl
all-ended c (w ∷ ws) (n ∷ ns) = all-ended (with_started c w n) ws ns

pub all-running : (c : Children) (words : List (List (List ℕ))) (numbers : List ℕ) → length numbers ≡ length words
    → (with_all c words numbers).running ≡ c.running ++ numbers
all-running c [] [] each = sym (append-nil c.running)
all-running c [] (n ∷ ns) each = absurd (omega (arith, each))
all-running c (w ∷ ws) [] each = absurd (omega (arith, each))
all-running c (w ∷ ws) (n ∷ ns) each =
    all-running (with_started c w n) ws ns (omega (arith, each)) ∙ append_assoc c.running (n ∷ []) ns

pub waits-started : (c : Children) (numbers : List ℕ) (given : List Given)
    → (with_waits c numbers given).started ≡ c.started
waits-started c [] gs = refl
waits-started c (n ∷ ns) [] = refl
waits-started c (n ∷ ns) (Ok status ∷ gs) = waits-started (with_wait c n (Ok status)) ns gs
waits-started c (n ∷ ns) (Err e ∷ gs) = waits-started (with_wait c n (Err e)) ns gs

pub waits-ended : (c : Children) (numbers : List ℕ) (given : List Given)
    → (with_waits c numbers given).ended ≡ c.ended ++ statuses_of numbers given
waits-ended c [] gs = sym (append-nil c.ended)
waits-ended c (n ∷ ns) [] = sym (append-nil c.ended)
waits-ended c (n ∷ ns) (Ok status ∷ gs) =
    waits-ended (with_wait c n (Ok status)) ns gs ∙ append_assoc c.ended ((n, status) ∷ []) (statuses_of ns gs)
waits-ended c (n ∷ ns) (Err e ∷ gs) = waits-ended (with_wait c n (Err e)) ns gs

-- How often a number stands in two lists, and in one that another number was taken out of.

times-both : (n : ℕ) (ms ks : List ℕ) → times n (ms ++ ks) ≡ times n ms + times n ks
times-both n [] ks = omega arith
times-both n (m ∷ ms) ks =
    omega (arith, times-both n ms ks, sum_by-cons (one n) m ms, sum_by-cons (one n) m (ms ++ ks))

one-self : (n : ℕ) → one n n ≡ 1
one-self n = one-same n n (eq-eqb n n refl)

unlike-step : (b : Bool) (n m : ℕ) → (m == n) ≡ b → (n ≡ m → ⊥) → one n m ≡ 0
unlike-step true n m e unlike = absurd (unlike (sym (eqb-true m n e)))
unlike-step false n m e unlike = one-other n m e

one-unlike : (n m : ℕ) → (n ≡ m → ⊥) → one n m ≡ 0
one-unlike n m unlike = unlike-step (m == n) n m refl unlike

other-step : (b : Bool) (n k m : ℕ) (ms : List ℕ) → (m == k) ≡ b → (n ≡ k → ⊥) → times n (without k ms) ≡ times n ms
    → times n (cond (not b) (m ∷ without k ms) (without k ms)) ≡ times n (m ∷ ms)
other-step true n k m ms e other same =
    omega (arith, same, sum_by-cons (one n) m ms, one-unlike n m (λ is. other (is ∙ eqb-true m k e)))
other-step false n k m ms e other same =
    omega (arith, same, sum_by-cons (one n) m ms, sum_by-cons (one n) m (without k ms))

times-others : (n k : ℕ) (ms : List ℕ) → (n ≡ k → ⊥) → times n (without k ms) ≡ times n ms
times-others n k [] other = refl
times-others n k (m ∷ ms) other = other-step (m == k) n k m ms refl other (times-others n k ms other)

-- and how often it was started

starts-all : (n : ℕ) (c : Children) (words : List (List (List ℕ))) (numbers : List ℕ)
    → length numbers ≡ length words → starts_of n (with_all c words numbers) ≡ starts_of n c + times n numbers
starts-all n c [] [] each = omega arith
starts-all n c [] (k ∷ ks) each = absurd (omega (arith, each))
starts-all n c (w ∷ ws) [] each = absurd (omega (arith, each))
starts-all n c (w ∷ ws) (k ∷ ks) each =
    omega (arith, starts-all n (with_started c w k) ws ks (omega (arith, each)), starts-more n c w k, sum_by-cons (one n) k ks)

all-times : (n : ℕ) (c : Children) (words : List (List (List ℕ))) (numbers : List ℕ)
    → length numbers ≡ length words → times n (with_all c words numbers).running ≡ times n c.running + times n numbers
all-times n c words numbers each = ap (times n) (all-running c words numbers each) ∙ times-both n c.running numbers

-- Each runs while the others are waited for before it.

still-runs : (b : Bool) (n k : ℕ) (ks : List ℕ) (c : Children) → (k == n) ≡ b → times n (k ∷ ks) ≤ 1 → 0 < times n ks
    → Runs c n → Runs (with_stopped c k) n
still-runs true n k ks c e once in_rest runs = absurd (omega (arith, once, in_rest, sum_by-cons (one n) k ks, one-same n k e))
still-runs false n k ks c e once in_rest runs =
    let other : n ≡ k → ⊥ = λ is. let zero_is = one-other n k e in
    let one_is = one-same n k (eq-eqb k n (sym is)) in absurd (omega (arith, zero_is, one_is)) in
    omega (arith, runs, times-others n k c.running other)

runs-each : (ns : List ℕ) (c : Children) → ((n : ℕ) → times n ns ≤ 1) → ((n : ℕ) → 0 < times n ns → Runs c n) → AllRun ns c
runs-each [] c once run = tt
runs-each (k ∷ ks) c once run = (
  run k (omega (arith, sum_by-cons (one k) k ks, one-self k)),
  runs-each ks (with_stopped c k) (λ n. omega (arith, once n, sum_by-cons (one n) k ks))
      (λ n in_rest. still-runs (k == n) n k ks c refl (once n) in_rest
      (run n (omega (arith, in_rest, sum_by-cons (one n) k ks)))),
)

-- a number that was started more than once wouldn't be one that runs and was started once
twice-step : (t s r : ℕ) → s ≡ r + t → (0 < t → s ≡ 1) → t ≤ 1
twice-step zero s r sum once = omega arith
twice-step (suc t) s r sum once = omega (arith, sum, once (omega arith))

pub all-run : (words : List (List (List ℕ))) (numbers : List ℕ) (old : Children)
    → AreChildren (with_all old words numbers) → length numbers ≡ length words
    → AllRun numbers (with_all old words numbers)
all-run words numbers old are each =
    let c = with_all old words numbers in
    let runs : (n : ℕ) → 0 < times n numbers → Runs c n = λ n in_all. omega (arith, in_all, all-times n old words numbers each) in
    runs-each numbers c
    (λ n. twice-step (times n numbers) (starts_of n c) (starts_of n old) (starts-all n old words numbers each)
    (λ in_all. are.started_once n (runs n in_all)))
    runs

-- What runs once all were waited for.

abbrev strip : List ℕ → List ℕ → List ℕ
strip [] xs = xs
strip (n ∷ ns) xs = strip ns (without n xs)

waits-running : (c : Children) (numbers : List ℕ) (given : List Given) → length given ≡ length numbers
    → (with_waits c numbers given).running ≡ strip numbers c.running
waits-running c [] gs each = refl
waits-running c (n ∷ ns) [] each = absurd (omega (arith, each))
waits-running c (n ∷ ns) (Ok status ∷ gs) each = waits-running (with_wait c n (Ok status)) ns gs (omega (arith, each))
waits-running c (n ∷ ns) (Err e ∷ gs) each = waits-running (with_wait c n (Err e)) ns gs (omega (arith, each))

both-step : (b : Bool) (x : ℕ) (xs ys : List ℕ) → cond b (x ∷ xs ++ ys) (xs ++ ys) ≡ cond b (x ∷ xs) xs ++ ys
both-step true x xs ys = refl
both-step false x xs ys = refl

without-both : (n : ℕ) (xs ys : List ℕ) → without n (xs ++ ys) ≡ without n xs ++ without n ys
without-both n [] ys = refl
without-both n (x ∷ xs) ys =
    ap (λ l. cond (not (x == n)) (x ∷ l) l) (without-both n xs ys)
    ∙ both-step (not (x == n)) x (without n xs) (without n ys)

strip-both : (ns xs ys : List ℕ) → strip ns (xs ++ ys) ≡ strip ns xs ++ strip ns ys
strip-both [] xs ys = refl
strip-both (n ∷ ns) xs ys = ap (strip ns) (without-both n xs ys) ∙ strip-both ns (without n xs) (without n ys)

in-rest : (b : Bool) (m n : ℕ) (ns xs : List ℕ) → (n == m) ≡ b → 0 < times m (without n xs) → 0 < times m (n ∷ ns)
    → 0 < times m ns
in-rest true m n ns xs e left in_all =
    absurd (omega (arith, left, subst (λ k. times k (without n xs) ≡ 0) (eqb-true n m e) (times-gone n xs)))
in-rest false m n ns xs e left in_all = omega (arith, in_all, sum_by-cons (one m) n ns, one-other m n e)

strip-none : (ns xs : List ℕ) → ((m : ℕ) → 0 < times m xs → 0 < times m ns) → strip ns xs ≡ []
strip-none [] [] each = refl
strip-none [] (x ∷ xs) each =
    absurd (let bad = each x (omega (arith, sum_by-cons (one x) x xs, one-self x)) in omega (arith, bad))
strip-none (n ∷ ns) xs each =
    strip-none ns (without n xs)
    (λ m left. in-rest (n == m) m n ns xs refl left (each m (omega (arith, left, times-left m n xs))))

kept-step : (b : Bool) (n x : ℕ) (xs : List ℕ) → (x == n) ≡ b → times n (x ∷ xs) ≡ 0 → without n xs ≡ xs
    → cond (not b) (x ∷ without n xs) (without n xs) ≡ x ∷ xs
kept-step true n x xs e none same = absurd (omega (arith, none, sum_by-cons (one n) x xs, one-same n x e))
kept-step false n x xs e none same = ap (λ l. x ∷ l) same

without-same : (n : ℕ) (xs : List ℕ) → times n xs ≡ 0 → without n xs ≡ xs
without-same n [] none = refl
without-same n (x ∷ xs) none =
    kept-step (x == n) n x xs refl none (without-same n xs (omega (arith, none, sum_by-cons (one n) x xs)))

strip-same : (ns xs : List ℕ) → ((m : ℕ) → 0 < times m ns → times m xs ≡ 0) → strip ns xs ≡ xs
strip-same [] xs apart = refl
strip-same (n ∷ ns) xs apart =
    ap (strip ns) (without-same n xs (apart n (omega (arith, sum_by-cons (one n) n ns, one-self n))))
    ∙ strip-same ns xs (λ m in_rest. apart m (omega (arith, in_rest, sum_by-cons (one m) n ns)))

apart-step : (r t s before : ℕ) → s ≡ before + t → (0 < r + t → s ≡ 1) → (0 < r → before ≡ 1) → 0 < t → r ≡ 0
apart-step zero t s before sum once old_once in_all = refl
apart-step (suc r) t s before sum once old_once in_all =
    absurd (omega (arith, sum, once (omega arith), old_once (omega arith), in_all))

pub as-before : (words : List (List (List ℕ))) (numbers : List ℕ) (given : List Given) (old : Children)
    → AreChildren old → AreChildren (with_all old words numbers) → length numbers ≡ length words
    → length given ≡ length numbers
    → (with_waits (with_all old words numbers) numbers given).running ≡ old.running
as-before words numbers given old before are each waited =
    let c = with_all old words numbers in
    let apart : (m : ℕ) → 0 < times m numbers → times m old.running ≡ 0 =
    λ m in_all. apart-step (times m old.running) (times m numbers) (starts_of m c) (starts_of m old)
    (starts-all m old words numbers each)
    (λ runs. are.started_once m (omega (arith, runs, all-times m old words numbers each)))
    (before.started_once m) in_all in
    waits-running c numbers given waited ∙ ap (strip numbers) (all-running old words numbers each)
    ∙ strip-both numbers old.running numbers
    ∙ ap (λ l. l ++ strip numbers numbers) (strip-same numbers old.running apart)
    ∙ ap (λ l. old.running ++ l) (strip-none numbers numbers (λ m is. is)) ∙ append-nil old.running
