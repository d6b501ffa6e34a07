-- What starting, stopping and ending a child do to the numbers of children.
use Rattle.std.proofs.Common.{◌≡◌, ◌+◌, ◌==◌, ◌<◌, ◌≤◌, ℕ, List, [], ◌∷◌, Bool, true, false, cond, not, map, refl, sym, ap, ◌∙◌, subst, arith}
use Rattle.std.proofs.lemmas.List.{map-append}
use Rattle.std.proofs.lemmas.List.Sums.{sum_by-cons, sum_by_push}
use Rattle.std.proofs.lemmas.Bool.{eqb-true}
use Rattle.cos_children.specs.Children.{Children, times, without, starts_of, ends_of, Runs, IsNew, AreChildren, with_started, with_stopped, with_ended}

-- whether it is this number, as a count
abbrev pub one : ℕ → ℕ → ℕ
one n m = cond (m == n) 1 0

pub one-same : (n m : ℕ) → (m == n) ≡ true → one n m ≡ 1
one-same n m e = ap (λ b. cond b 1 0) e

pub one-other : (n m : ℕ) → (m == n) ≡ false → one n m ≡ 0
one-other n m e = ap (λ b. cond b 1 0) e

-- what stays of a list when a number is taken out
left-step : (b : Bool) (n m : ℕ) (ms rest : List ℕ) → times n rest ≤ times n ms
    → times n (cond b (m ∷ rest) rest) ≤ times n (m ∷ ms)
left-step true n m ms rest fewer = omega (arith, fewer, sum_by-cons (one n) m ms, sum_by-cons (one n) m rest)
left-step false n m ms rest fewer = omega (arith, fewer, sum_by-cons (one n) m ms)

pub times-left : (n k : ℕ) (ms : List ℕ) → times n (without k ms) ≤ times n ms
times-left n k [] = omega arith
times-left n k (m ∷ ms) = left-step (not (m == k)) n m ms (without k ms) (times-left n k ms)

gone-step : (b : Bool) (n m : ℕ) (rest : List ℕ) → (m == n) ≡ b → times n rest ≡ 0
    → times n (cond (not b) (m ∷ rest) rest) ≡ 0
gone-step true n m rest e gone = gone
gone-step false n m rest e gone = omega (arith, gone, sum_by-cons (one n) m rest, one-other n m e)

pub times-gone : (n : ℕ) (ms : List ℕ) → times n (without n ms) ≡ 0
times-gone n [] = refl
times-gone n (m ∷ ms) = gone-step (m == n) n m (without n ms) refl (times-gone n ms)

-- one more child was started
pub starts-more : (n : ℕ) (c : Children) (words : List (List ℕ)) (k : ℕ)
    → starts_of n (with_started c words k) ≡ starts_of n c + one n k
starts-more n c words k =
    ap (times n) (map-append (λ s. s.1) c.started ((words, k) ∷ [])) ∙ sum_by_push (one n) (map (λ s. s.1) c.started) k

-- one more has ended
pub ends-more : (n : ℕ) (c : Children) (k status : ℕ) → ends_of n (with_ended c k status) ≡ ends_of n c + one n k
ends-more n c k status =
    ap (times n) (map-append (λ e. e.0) c.ended ((k, status) ∷ [])) ∙ sum_by_push (one n) (map (λ e. e.0) c.ended) k

-- a child that runs after a start ran before, or is the one that was started
runs-other : (c : Children) (words : List (List ℕ)) (k n : ℕ) → (k == n) ≡ false → Runs (with_started c words k) n
    → Runs c n
runs-other c words k n e runs = omega (arith, runs, sum_by_push (one n) c.running k, one-other n k e)

once-step : (b : Bool) (c : Children) (words : List (List ℕ)) (k n : ℕ) → (k == n) ≡ b → AreChildren c → IsNew c k
    → Runs (with_started c words k) n → starts_of n (with_started c words k) ≡ 1
once-step true c words k n e are new runs =
    omega (arith, starts-more n c words k, one-same n k e, subst (λ m. starts_of m c ≡ 0) (eqb-true k n e) new.unstarted)
once-step false c words k n e are new runs =
    omega (arith, starts-more n c words k, one-other n k e, are.started_once n (runs-other c words k n e runs))

unended-step : (b : Bool) (c : Children) (words : List (List ℕ)) (k n : ℕ) → (k == n) ≡ b → AreChildren c → IsNew c k
    → Runs (with_started c words k) n → ends_of n c ≡ 0
unended-step true c words k n e are new runs = subst (λ m. ends_of m c ≡ 0) (eqb-true k n e) new.unended
unended-step false c words k n e are new runs = are.unended n (runs-other c words k n e runs)

-- they stay children
pub are-started : (c : Children) (words : List (List ℕ)) (k : ℕ) → AreChildren c → IsNew c k
    → AreChildren (with_started c words k)
are-started c words k are new = record {
  started_once = λ n runs. once-step (k == n) c words k n refl are new runs;
  unended = λ n runs. unended-step (k == n) c words k n refl are new runs;
}

pub are-stopped : (c : Children) (k : ℕ) → AreChildren c → AreChildren (with_stopped c k)
are-stopped c k are = record {
  started_once = λ n runs. are.started_once n (omega (arith, runs, times-left n k c.running));
  unended = λ n runs. are.unended n (omega (arith, runs, times-left n k c.running));
}

gone-ended : (b : Bool) (c : Children) (k status n : ℕ) → (k == n) ≡ b → AreChildren c
    → Runs (with_ended c k status) n → ends_of n (with_ended c k status) ≡ 0
gone-ended true c k status n e are runs =
    absurd (omega (arith, runs, subst (λ m. times n (without m c.running) ≡ 0) (sym (eqb-true k n e)) (times-gone n c.running)))
gone-ended false c k status n e are runs =
    omega (arith, ends-more n c k status, one-other n k e, are.unended n (omega (arith, runs, times-left n k c.running)))

pub are-ended : (c : Children) (k status : ℕ) → AreChildren c → AreChildren (with_ended c k status)
are-ended c k status are = record {
  started_once = λ n runs. are.started_once n (omega (arith, runs, times-left n k c.running));
  unended = λ n runs. gone-ended (k == n) c k status n refl are runs;
}

-- and a number that was new stays so, unless it is the child's
new-step : (b : Bool) (c : Children) (words : List (List ℕ)) (k n : ℕ) → (k == n) ≡ b → k < n → IsNew c n
    → IsNew (with_started c words k) n
new-step true c words k n e less new = absurd (omega (arith, less, eqb-true k n e))
new-step false c words k n e less new = record {
  unstarted = omega (arith, starts-more n c words k, one-other n k e, new.unstarted);
  unended = new.unended;
}

pub new-started : (c : Children) (words : List (List ℕ)) (k n : ℕ) → k < n → IsNew c n
    → IsNew (with_started c words k) n
new-started c words k n less new = new-step (k == n) c words k n refl less new

new-end : (b : Bool) (c : Children) (k status n : ℕ) → (k == n) ≡ b → AreChildren c → Runs c k → IsNew c n
    → ends_of n (with_ended c k status) ≡ 0
new-end true c k status n e are runs new =
    absurd (omega (arith, are.started_once k runs, subst (λ m. starts_of m c ≡ 0) (sym (eqb-true k n e)) new.unstarted))
new-end false c k status n e are runs new = omega (arith, ends-more n c k status, one-other n k e, new.unended)

pub new-ended : (c : Children) (k status n : ℕ) → AreChildren c → Runs c k → IsNew c n
    → IsNew (with_ended c k status) n
new-ended c k status n are runs new = record {
  unstarted = new.unstarted;
  unended = new-end (k == n) c k status n refl are runs new;
}
