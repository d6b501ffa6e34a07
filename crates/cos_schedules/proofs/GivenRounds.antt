-- The steps that a schedule gives are its rounds.
use Rattle.std.proofs.Common.{◌≡◌, ℕ, zero, suc, ◌+◌, ◌*◌, List, [], ◌∷◌, ◌++◌, length, refl, sym, ap, ◌∙◌, subst}
use Rattle.std.proofs.Common.{append_assoc, arith}
use Rattle.std.proofs.lemmas.List.{append-nil}
use Rattle.cos_schedules.specs.declared.step.Step.{Step}
use Rattle.cos_schedules.specs.Schedules.{base_length, round, after_round, x_at, first_rounds}
use Rattle.cos_schedules.specs.Courses.{Course, fresh_course, begun_at, GivesAll}
use Rattle.cos_schedules.proofs.Courses.{length-round}

-- so many rounds, of which the first begins with x
abbrev rounds_from : ℕ → ℕ → ℕ → ℕ → List Step
rounds_from number ports x zero = []
rounds_from number ports x (suc i) = round number ports x ++ rounds_from number ports (after_round number ports x) i

-- These are the steps left, and so many rounds after them, if they are as many.
abbrev AreNext : ℕ → ℕ → ℕ → List Step → List Step → Type 0
AreNext number ports x left steps =
    (i : ℕ) → length steps ≡ length left + i * base_length ports → steps ≡ left ++ rounds_from number ports x i

abbrev AreNextOf : Course → List Step → Type 0
AreNextOf c steps = AreNext c.number c.ports c.x c.left steps

none-next : (c : Course) (left : List Step) → AreNext c.number c.ports c.x left []
none-next c [] zero e = refl
none-next c [] (suc i) e = absurd (omega arith)
none-next c (s ∷ ss) i e = absurd (omega arith)

next-begun : (c : Course) (s : Step) (ss left : List Step) → AreNextOf (begun_at c left) (s ∷ ss) → left ≡ c.left
    → AreNext c.number c.ports c.x left (s ∷ ss)
next-begun c s ss [] are e zero h = absurd (omega arith)
next-begun c s ss [] are e (suc i) h = are i (omega (arith, length-round c.number c.ports c.x))
next-begun c s ss (t ∷ ts) are e i h = subst (λ l. AreNext c.number c.ports c.x l (s ∷ ss)) (sym e) are i h

next-more : (c : Course) (s : Step) (ss : List Step) → AreNextOf c ss
    → AreNextOf (record c { left = s ∷ c.left }) (s ∷ ss)
next-more c s ss are i e = ap (λ xs. s ∷ xs) (are i (omega arith))

given-next : (c now : Course) (steps : List Step) → GivesAll c steps now → AreNextOf c steps
given-next c now [] all = none-next c c.left
given-next c now (s ∷ ss) all =
    let more = next-more all.0 s ss (given-next all.0 now ss all.2) in
    next-begun c s ss c.left (subst (λ b. AreNextOf b (s ∷ ss)) (sym all.1) more) refl

rounds-first : (number ports k i : ℕ)
    → first_rounds number ports k ++ rounds_from number ports (x_at number ports k) i
    ≡ first_rounds number ports (k + i)
rounds-first number ports k zero =
    let same : k ≡ k + 0 = omega arith in
    append-nil (first_rounds number ports k) ∙ ap (first_rounds number ports) same
rounds-first number ports k (suc i) =
    let same : suc k + i ≡ k + suc i = omega arith in
    let x = x_at number ports k in
    let behind = rounds_from number ports (after_round number ports x) i in
    sym (append_assoc (first_rounds number ports k) (round number ports x) behind)
    ∙ rounds-first number ports (suc k) i ∙ ap (first_rounds number ports) same

pub given-rounds : (number ports i : ℕ) (steps : List Step) (now : Course)
    → GivesAll (fresh_course number ports) steps now → length steps ≡ i * base_length ports
    → steps ≡ first_rounds number ports i
given-rounds number ports i steps now all e =
    let same : 0 + i ≡ i = omega arith in
    given-next (fresh_course number ports) now steps all i (omega arith) ∙ rounds-first number ports 0 i
    ∙ ap (first_rounds number ports) same
