-- What stands first in a merge of boundaries and calls.
use Rattle.std.proofs.Common.{◌≡◌, ℕ, ◌+◌, ◌<◌, ◌≤◌, cond, List, [], ◌∷◌, ◌++◌, length, map, take, drop, nat_lt, refl, ap, ◌∙◌, one-add, lt-ltb, le-ltb}
use Rattle.std.proofs.lemmas.List.Sums.{prefix_len-le-length}
use Rattle.cosim_model.specs.declared.values.Call.{Call}
use Rattle.cosim_model.specs.Direct.Moment.{Called, Boundary}
use Rattle.histories.specs.Histories.{tick_of, calls_before, merged}

-- P holds of each element.

abbrev pub Each : {A : Type 0} → (A → Type 0) → List A → Type 0
Each P [] = Unit {0}
Each P (x ∷ xs) = P x × Each P xs

pub each-append : {A : Type 0} (P : A → Type 0) (xs ys : List A) → Each P xs → Each P ys → Each P (xs ++ ys)
each-append P [] ys a b = b
each-append P (x ∷ xs) ys a b = (a.0, each-append P xs ys a.1 b)

pub each-weaker : {A : Type 0} (P Q : A → Type 0) → ((x : A) → P x → Q x) → (xs : List A) → Each P xs → Each Q xs
each-weaker P Q f [] a = tt
each-weaker P Q f (x ∷ xs) a = (f x a.0, each-weaker P Q f xs a.1)

pub few-before : (t : ℕ) (cs : List Call) → calls_before t cs ≤ length cs
few-before t cs = prefix_len-le-length (λ c. nat_lt (tick_of c) t) cs

-- A boundary stands before the calls of its tick and of later ones.

none-before : (t : ℕ) (cs : List Call) → Each (λ c. t ≤ tick_of c) cs → calls_before t cs ≡ 0
none-before t [] late = refl
none-before t (c ∷ cs) late = ap (λ b. cond b (1 + calls_before t cs) 0) (le-ltb (tick_of c) t late.0)

pub boundary-first : (t : ℕ) (ts : List ℕ) (cs : List Call) → Each (λ c. t ≤ tick_of c) cs → merged (t ∷ ts) cs ≡ Boundary t ∷ merged ts cs
boundary-first t ts cs late = ap (λ n. map Called (take n cs) ++ Boundary t ∷ merged ts (drop n cs)) (none-before t cs late)

-- Calls of earlier ticks stand before it.

call-first : (t : ℕ) (ts : List ℕ) (c : Call) (cs : List Call) → tick_of c < t → merged (t ∷ ts) (c ∷ cs) ≡ Called c ∷ merged (t ∷ ts) cs
call-first t ts c cs early =
    ap (λ n. map Called (take n (c ∷ cs)) ++ Boundary t ∷ merged ts (drop n (c ∷ cs)))
    (ap (λ b. cond b (1 + calls_before t cs) 0) (lt-ltb (tick_of c) t early) ∙ one-add (calls_before t cs))

pub calls-first : (t : ℕ) (ts : List ℕ) (cs ds : List Call) → Each (λ c. tick_of c < t) cs → merged (t ∷ ts) (cs ++ ds) ≡ map Called cs ++ merged (t ∷ ts) ds
calls-first t ts [] ds early = refl
calls-first t ts (c ∷ cs) ds early = call-first t ts c (cs ++ ds) early.0 ∙ ap (λ ms. Called c ∷ ms) (calls-first t ts cs ds early.1)
