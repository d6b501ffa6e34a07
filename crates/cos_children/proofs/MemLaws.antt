-- The lists of a spawner in memory keep what holds of children.
use Rattle.std.proofs.Common.{◌≡◌, ◌==◌, ◌≤◌, ◌||◌, ◌++◌, ℕ, List, [], ◌∷◌, Bool, true, false, length, map, nat_lt, refl, sym, ap, ◌∙◌, subst, arith, string_bytes}
use Rattle.std.specs.List.{list_any, AllZip}
use Rattle.std.proofs.lemmas.List.{map-append, length-append}
use Rattle.std.proofs.lemmas.List.Sums.{sum_by-cons}
use Rattle.std.proofs.lemmas.Bool.{lt-ltb}
use Rattle.cos_children.specs.declared.mem_children.MemChild.{MemChild}
use Rattle.cos_children.specs.declared.mem_children.MemChildren.{MemChildren}
use Rattle.cos_children.specs.Children.{times, without, Runs, IsNew, AreChildren, with_started}
use Rattle.cos_children.specs.MemChildLists.{told_child, told_of}
use Rattle.cos_children.specs.MemChildren.{children_of}
use Rattle.cos_children.proofs.ChildLaws.{one, one-same, one-other, are-started, are-stopped, are-ended, new-started, new-ended}

-- clones have the same texts
pub same-texts : {X Y : Type 0} (f : X → Y) (xs ys : List X) → AllZip (λ x y. f y ≡ f x) xs ys → map f ys ≡ map f xs
same-texts f [] [] each = refl
same-texts f [] (y ∷ ys) each = absurd each
same-texts f (x ∷ xs) [] each = absurd each
same-texts f (x ∷ xs) (y ∷ ys) each = ap (λ t. t ∷ map f ys) each.0 ∙ ap (λ ts. f x ∷ ts) (same-texts f xs ys each.1)

-- a number stands in a list exactly where it stands there more than 0 times
any-step : (b : Bool) (n m : ℕ) (ms : List ℕ) → (m == n) ≡ b → list_any (λ k. k == n) ms ≡ nat_lt 0 (times n ms)
    → (b || list_any (λ k. k == n) ms) ≡ nat_lt 0 (times n (m ∷ ms))
any-step true n m ms e rest = sym (lt-ltb 0 (times n (m ∷ ms)) (omega (arith, sum_by-cons (one n) m ms, one-same n m e)))
any-step false n m ms e rest =
    let same : times n ms ≡ times n (m ∷ ms) = omega (arith, sum_by-cons (one n) m ms, one-other n m e) in
    rest ∙ ap (nat_lt 0) same

pub any-times : (n : ℕ) (ms : List ℕ) → list_any (λ k. k == n) ms ≡ nat_lt 0 (times n ms)
any-times n [] = refl
any-times n (m ∷ ms) = any-step (m == n) n m ms refl (any-times n ms)

-- what the lists keep
pub record AreIn (started : List MemChild) (ended : List (ℕ × ℕ)) (running : List ℕ) : Type 0 where
  pub are_children : AreChildren (told_of started ended running)
  pub are_new : (n : ℕ) → length started ≤ n → IsNew (told_of started ended running) n

pub told-started : (started : List MemChild) (ended : List (ℕ × ℕ)) (running : List ℕ) (m : MemChild)
    → told_of (started ++ m ∷ []) ended (running ++ m.number ∷ [])
    ≡ with_started (told_of started ended running) (map string_bytes m.words.items) m.number
told-started started ended running m =
    ap (λ l. record { started = l; ended = ended; running = running ++ m.number ∷ [] })
    (map-append told_child started (m ∷ []))

pub in-started : (started : List MemChild) (ended : List (ℕ × ℕ)) (running : List ℕ) (m : MemChild)
    → m.number ≡ length started → AreIn started ended running
    → AreIn (started ++ m ∷ []) ended (running ++ m.number ∷ [])
in-started started ended running m place are =
    let c = told_of started ended running in
    let words = map string_bytes m.words.items in
    record {
      are_children = subst AreChildren (sym (told-started started ended running m))
          (are-started c words m.number are.are_children (are.are_new m.number (omega (arith, place))));
      are_new = λ n behind. subst (λ t. IsNew t n) (sym (told-started started ended running m))
          (new-started c words m.number n (omega (arith, place, behind, length-append started (m ∷ [])))
          (are.are_new n (omega (arith, behind, length-append started (m ∷ [])))));
    }

pub in-stopped : (started : List MemChild) (ended : List (ℕ × ℕ)) (running : List ℕ) (k : ℕ)
    → AreIn started ended running → AreIn started ended (without k running)
in-stopped started ended running k are = record {
  are_children = are-stopped (told_of started ended running) k are.are_children;
  are_new = λ n behind. let new = are.are_new n behind in record { unstarted = new.unstarted; unended = new.unended };
}

pub in-ended : (started : List MemChild) (ended : List (ℕ × ℕ)) (running : List ℕ) (k status : ℕ)
    → Runs (told_of started ended running) k → AreIn started ended running
    → AreIn started (ended ++ (k, status) ∷ []) (without k running)
in-ended started ended running k status runs are = record {
  are_children = are-ended (told_of started ended running) k status are.are_children;
  are_new = λ n behind. new-ended (told_of started ended running) k status n are.are_children runs (are.are_new n behind);
}

-- and so do those of the code, by what each call leaves of them
pub kept : (m : MemChildren) (s : List MemChild) (e : List (ℕ × ℕ)) (r : List ℕ) → s ≡ m.started.items
    → e ≡ m.ended.items → r ≡ m.running.items → AreIn s e r
kept m s e r is-s is-e is-r =
    subst (λ l. AreIn l e r) (sym is-s) (subst (λ l. AreIn m.started.items l r) (sym is-e)
    (subst (λ l. AreIn m.started.items m.ended.items l) (sym is-r)
    (record { are_children = m.are_children; are_new = m.are_new })))

pub kept-started : (m : MemChildren) (x : MemChild) (s : List MemChild) (r : List ℕ) → s ≡ m.started.items ++ x ∷ []
    → r ≡ m.running.items ++ x.number ∷ [] → x.number ≡ length m.started.items → AreIn s m.ended.items r
kept-started m x s r is-s is-r place =
    subst (λ l. AreIn l m.ended.items r) (sym is-s)
    (subst (λ l. AreIn (m.started.items ++ x ∷ []) m.ended.items l) (sym is-r)
    (in-started m.started.items m.ended.items m.running.items x place (kept m _ _ _ refl refl refl)))

pub kept-stopped : (m : MemChildren) (k : ℕ) (r : List ℕ) → r ≡ without k m.running.items
    → AreIn m.started.items m.ended.items r
kept-stopped m k r is-r =
    subst (λ l. AreIn m.started.items m.ended.items l) (sym is-r)
    (in-stopped m.started.items m.ended.items m.running.items k (kept m _ _ _ refl refl refl))

pub kept-ended : (m : MemChildren) (k status : ℕ) (e : List (ℕ × ℕ)) (r : List ℕ) → Runs (children_of m) k
    → e ≡ m.ended.items ++ (k, status) ∷ [] → r ≡ without k m.running.items → AreIn m.started.items e r
kept-ended m k status e r runs is-e is-r =
    subst (λ l. AreIn m.started.items l r) (sym is-e)
    (subst (λ l. AreIn m.started.items (m.ended.items ++ (k, status) ∷ []) l) (sym is-r)
    (in-ended m.started.items m.ended.items m.running.items k status runs (kept m _ _ _ refl refl refl)))
