use Rattle.std.specs.Prelude.{ℕ, ◌≡◌, ◌+◌, List, [], ◌∷◌, ◌++◌, IfSome}
use Rattle.std.specs.declared.option.Option.{Option}
use Rattle.std.specs.declared.option.Option.TheVariants.{Some, None}
use Rattle.std.specs.declared.result.Result.{Result}
use Rattle.std.specs.declared.result.Result.TheVariants.{Ok, Err}
use Rattle.std.proofs.Common.{refl, ap, sym, ◌∙◌, subst, append_assoc, drop, length, take, get_or, ◌<◌, ◌≤◌, suc, zero, arith}
use Rattle.std.proofs.lemmas.List.{take_more, take-append-drop}
use Rattle.std.specs.Borrow.{Bor}
use Rattle.byte_streams.proofs.Prefixes.{IsPrefix-by, IsPrefix-behind}
use Rattle.statuses.specs.Lines.{texts}
use Rattle.std.proofs.lemmas.List.{append-nil}
use Rattle.cos_base.specs.Counts.{Rises}
use Rattle.cos_base.specs.Sinks.{Puts}
use Rattle.cos_base.specs.Prefixes.{IsPrefix, IsPrefix-trans}
use Rattle.cos_base.specs.declared.sinks.Failed.{Failed}

pub part-both : (x p q : List ℕ) (c : Option (List ℕ)) → IfSome c (λ now. (part : List ℕ) × IsPrefix part q × (now ≡ (x ++ p) ++ part)) → IfSome c (λ now. (part : List ℕ) × IsPrefix part (p ++ q) × (now ≡ x ++ part))
part-both x p q None h = tt
part-both x p q (Some now) (part, fits, is) = (p ++ part, IsPrefix-behind p part q fits, is ∙ append_assoc x p part)

-- all of a text was put
abbrev pub PutsAll : Option (List ℕ) → Option (List ℕ) → List ℕ → Type 0
PutsAll a b p = Puts a b p (Ok tt)

-- one piece, and then another
pub puts-both : (a b c : Option (List ℕ)) (p q : List ℕ) (r : Result Unit Failed) → PutsAll a b p → Puts b c q r → Puts a c (p ++ q) r
puts-both None b c p q r first then = tt
puts-both (Some x) b c p q (Ok u) first then =
    let second : Puts (Some (x ++ p)) c q (Ok u) = subst (λ o. Puts o c q (Ok u)) first then in
    second ∙ ap (λ l. Some l) (append_assoc x p q)
puts-both (Some x) b c p q (Err e) first then =
    let second : Puts (Some (x ++ p)) c q (Err e) = subst (λ o. Puts o c q (Err e)) first then in
    part-both x p q c second

pub puts-nothing : (a : Option (List ℕ)) → PutsAll a a []
puts-nothing None = tt
puts-nothing (Some x) = ap (λ l. Some l) (sym (append-nil x))

pub puts-text : (a b : Option (List ℕ)) (p q : List ℕ) (r : Result Unit Failed) → q ≡ p → Puts a b p r → Puts a b q r
puts-text a b p q r is puts = subst (λ t. Puts a b t r) (sym is) puts

pub texts-one-more : (xs : List (Bor (List ℕ))) (y : Bor (List ℕ)) → texts (xs ++ y ∷ []) ≡ texts xs ++ y.now
texts-one-more [] y = append-nil y.now
texts-one-more (x ∷ xs) y = ap (λ l. x.now ++ l) (texts-one-more xs y) ∙ sym (append_assoc x.now (texts xs) y.now)

pub texts-append : (xs ys : List (Bor (List ℕ))) → texts (xs ++ ys) ≡ texts xs ++ texts ys
texts-append [] ys = refl
texts-append (x ∷ xs) ys = ap (λ l. x.now ++ l) (texts-append xs ys) ∙ sym (append_assoc x.now (texts xs) (texts ys))

-- a part of the pieces was put, and then a part of the next
pub texts-front : (ps : List (Bor (List ℕ))) (i : ℕ) (d : Bor (List ℕ)) → i < length ps → texts (take (i + 1) ps) ≡ texts (take i ps) ++ (get_or ps i d).now
texts-front ps i d small = ap texts (take_more ps i d small) ∙ texts-one-more (take i ps) (get_or ps i d)

-- pieces up to one are a prefix of all
pub texts-prefix : (ps : List (Bor (List ℕ))) (i : ℕ) → IsPrefix (texts (take i ps)) (texts ps)
texts-prefix ps i =
    IsPrefix-by (texts (take i ps)) (texts (drop i ps)) (texts ps)
    (ap texts (sym (take-append-drop i ps)) ∙ texts-append (take i ps) (drop i ps))

-- a failure at a piece is a failure of all
pub puts-longer : (a b : Option (List ℕ)) (p q : List ℕ) (e : Failed) → IsPrefix p q → Puts a b p (Err e) → Puts a b q (Err e)
puts-longer None b p q e pre puts = tt
puts-longer (Some x) None p q e pre puts = tt
puts-longer (Some x) (Some now) p q e pre (part, fits, is) = (part, IsPrefix-trans part p q fits pre, is)

-- a piece that failed, behind pieces that were put, is a beginning of all
pub puts-stops : (a b c : Option (List ℕ)) (p q all : List ℕ) (e : Failed) → PutsAll a b p → Puts b c q (Err e) → IsPrefix (p ++ q) all → Puts a c all (Err e)
puts-stops a b c p q all e first then fits = puts-longer a c (p ++ q) all e fits (puts-both a b c p q (Err e) first then)

-- where the count of faults stood before, it rose in all
pub rises-from : (before mid now : ℕ) → mid ≡ before → Rises mid now → Rises before now
rises-from before mid now same rises = subst (λ n. Rises n now) same rises

pub take-past : (ps : List (Bor (List ℕ))) (n : ℕ) → length ps ≤ n → take n ps ≡ ps
take-past [] zero h = refl
take-past [] (suc n) h = refl
take-past (x ∷ ps) zero h = absurd (omega (arith, h))
take-past (x ∷ ps) (suc n) h = ap (λ l. x ∷ l) (take-past ps n (omega (arith, h)))

-- all pieces were put
pub puts-whole : (a b : Option (List ℕ)) (ps : List (Bor (List ℕ))) (n : ℕ) → PutsAll a b (texts (take n ps)) → length ps ≤ n → PutsAll a b (texts ps)
puts-whole a b ps n puts end = subst (λ l. PutsAll a b (texts l)) (take-past ps n end) puts
