-- Steps of a schedule that are passed over, up to the machine's next one.
use Rattle.std.proofs.Common.{◌≡◌, ℕ, zero, suc, ◌+◌, ◌<◌, ◌≤◌, Bool, true, false, List, [], ◌∷◌, ◌++◌, length, take, drop}
use Rattle.std.proofs.Common.{refl, sym, ap, ap₂, ◌∙◌, subst, arith}
use Rattle.std.specs.Prelude.{◌%◌, if◌then◌else◌}
use Rattle.std.proofs.lemmas.List.{append-nil}
use Rattle.cos_schedules.specs.declared.step.Step.{Step}
use Rattle.cos_schedules.specs.declared.step.Step.TheVariants.{Machine, Device, Deliver}
use Rattle.cos_schedules.specs.Schedules.{base, base_length, counted, drawn, following, from_drawn_place, ports_from, round}
use Rattle.cos_schedules.specs.Schedules.{turned}
use Rattle.cos_schedules.specs.Courses.{AreOthers, Course, Gives, GivesAll, PassesTo, begun, begun_at, is_machine}
use Rattle.cos_schedules.specs.Held.{course_of}
use Rattle.cos_schedules.proofs.Courses.{length-round}

-- What a course gives, and then what the course behind gives.
pub gives-both : (a b c : Course) (xs ys : List Step) → GivesAll a xs b → GivesAll b ys c → GivesAll a (xs ++ ys) c
gives-both a b c [] ys first second = subst (λ x. GivesAll x ys c) (sym first) second
gives-both a b c (x ∷ xs) ys first second = (first.0, first.1, gives-both first.0 b c xs ys first.2 second)

pub others-both : (xs ys : List Step) → AreOthers xs → AreOthers ys → AreOthers (xs ++ ys)
others-both [] ys first second = second
others-both (x ∷ xs) ys first second = (first.0, others-both xs ys first.1 second)

others-drop : (n : ℕ) (xs : List Step) → AreOthers xs → AreOthers (drop n xs)
others-drop zero [] others = tt
others-drop (suc n) [] others = tt
others-drop zero (x ∷ xs) others = others
others-drop (suc n) (x ∷ xs) others = others-drop n xs others.1

others-ports : (p n : ℕ) → AreOthers (ports_from p n)
others-ports p zero = tt
others-ports p (suc n) = (refl, (refl, (refl, others-ports (suc p) n)))

-- Each round has the machine's step.

abbrev has_machine : List Step → Bool
has_machine [] = false
has_machine (s ∷ ss) = if is_machine s then true else has_machine ss

has-counted : (x : ℕ) (ss : List Step) → has_machine (counted x ss) ≡ has_machine ss
has-counted x [] = refl
has-counted x (Machine ∷ ss) = refl
has-counted x (Device p ∷ ss) = has-counted x ss
has-counted x (Deliver p way k ∷ ss) = has-counted (following x) ss

has-behind : (xs ys : List Step) → has_machine (xs ++ Machine ∷ ys) ≡ true
has-behind [] ys = refl
has-behind (Machine ∷ xs) ys = refl
has-behind (Device p ∷ xs) ys = has-behind xs ys
has-behind (Deliver p way k ∷ xs) ys = has-behind xs ys

has-turned : (r : ℕ) (ss : List Step) → has_machine (turned r (Machine ∷ ss)) ≡ true
has-turned zero ss = refl
has-turned (suc r) ss = has-behind (drop r ss) (take r ss)

has-round : (number ports x : ℕ) → has_machine (round number ports x) ≡ true
has-round zero ports x = refl
has-round (suc number) ports x =
    has-counted (following x) (from_drawn_place ports x) ∙ has-turned (drawn x % base_length ports) (ports_from 0 ports)

-- How far the machine's next step is at most.

abbrev farther : Bool → ℕ → ℕ
farther here ports = if here then 0 else 1 + base_length ports

abbrev distance : Course → ℕ
distance c = length c.left + farther (has_machine c.left) c.ports

abbrev pub left_behind : Step → Course → ℕ
left_behind step c = if is_machine step then 0 else suc (distance c)

distance-falls : (c new : Course) (step : Step) → Gives c step new → is_machine step ≡ false → distance new < distance c
distance-falls c new step gives other = by c.left refl
  where
    left-is : (begun c).left ≡ step ∷ new.left
    left-is = ap (λ (y : Course). y.left) gives

    ports-are : (begun c).ports ≡ new.ports
    ports-are = ap (λ (y : Course). y.ports) gives

    has-rest : has_machine (step ∷ new.left) ≡ has_machine new.left
    has-rest = ap (λ b. if b then true else has_machine new.left) other

    by : (left : List Step) → c.left ≡ left → distance new < distance c
    by [] none =
        let at : begun c ≡ begun_at c [] = ap (begun_at c) none in
        let has : has_machine new.left ≡ true =
        sym has-rest ∙ sym (ap has_machine left-is) ∙ ap (λ (y : Course). has_machine y.left) at
        ∙ has-round c.number c.ports c.x in
        let size : suc (length new.left) ≡ base_length c.ports =
        sym (ap length left-is) ∙ ap (λ (y : Course). length y.left) at ∙ length-round c.number c.ports c.x in
        let here : distance new ≡ length new.left + 0 = ap (λ b. length new.left + farther b new.ports) has in
        let there : distance c ≡ 0 + (1 + base_length c.ports) =
        ap (λ l. length l + farther (has_machine l) c.ports) none in
        omega (arith, size, here, there)
    by (s ∷ ss) some =
        let at : begun c ≡ c = ap (begun_at c) some in
        let is : c.left ≡ step ∷ new.left = sym (ap (λ (y : Course). y.left) at) ∙ left-is in
        let ports : c.ports ≡ new.ports = sym (ap (λ (y : Course). y.ports) at) ∙ ports-are in
        let size : length c.left ≡ suc (length new.left) = ap length is in
        let same : farther (has_machine c.left) c.ports ≡ farther (has_machine new.left) new.ports =
        ap₂ farther (ap has_machine is ∙ has-rest) ports in
        omega (arith, size, same)

pub left-falls : (c new : Course) (step next : Step) → Gives c next new → is_machine step ≡ false
    → left_behind next new < left_behind step c
left-falls c new step next gives other = by (is_machine next) refl
  where
    before : left_behind step c ≡ suc (distance c)
    before = ap (λ b. if b then 0 else suc (distance c)) other

    by : (b : Bool) → is_machine next ≡ b → left_behind next new < left_behind step c
    by true is =
        let now : left_behind next new ≡ 0 = ap (λ b. if b then 0 else suc (distance new)) is in
        omega (arith, before, now)
    by false is =
        let now : left_behind next new ≡ suc (distance new) = ap (λ b. if b then 0 else suc (distance new)) is in
        let less = distance-falls c new next gives is in
        omega (arith, before, now, less)

-- In schedule 0 a round begins with the machine's step.

abbrev course : ℕ → List Step → ℕ → Course
course ports left x = record { number = 0; ports = ports; left = left; x = x }

gives-left : (ports x : ℕ) (ss : List Step) → GivesAll (course ports ss x) ss (course ports [] x)
gives-left ports x [] = refl
gives-left ports x (s ∷ ss) = (course ports ss x, refl, gives-left ports x ss)

drop-none : (ss : List Step) → drop 0 ss ≡ ss
drop-none [] = refl
drop-none (s ∷ ss) = refl

whole : (ports x given : ℕ)
    → (passed : List Step) × PassesTo passed (course ports (drop given (base ports)) x) (course ports (drop 1 (base ports)) x)
whole ports x zero =
    let rest = drop-none (ports_from 0 ports) in
    ([], (tt, (course ports (drop 1 (base ports)) x, ap (λ l. course ports (Machine ∷ l) x) (sym rest), refl)))
whole ports x (suc given) =
    let rest = drop-none (ports_from 0 ports) in
    let passed = drop given (ports_from 0 ports) in
    let new = course ports (drop 1 (base ports)) x in (
      passed,
      (
        others-drop given (ports_from 0 ports) (others-ports 0 ports),
        gives-both (course ports passed x) (course ports [] x) new passed (Machine ∷ []) (gives-left ports x passed)
            (new, ap (λ l. course ports (Machine ∷ l) x) (sym rest), refl),
      ),
    )

pub passes-whole : (number ports x first given : ℕ) (old : Course) → number ≡ 0 → first ≡ 0
    → course_of number ports x (drop given (turned first (base ports))) ≡ old
    → (passed : List Step) × PassesTo passed old (course_of number ports x (drop 1 (turned first (base ports))))
passes-whole number ports x first given old none start is =
    let same : ◌≡◌ {A = List Step} (turned first (base ports)) (base ports) =
    ap (λ r. turned r (base ports)) start ∙ append-nil (base ports) in
    let held : (n : ℕ) → course_of number ports x (drop n (turned first (base ports))) ≡ course ports (drop n (base ports)) x =
    λ n. ap₂ (λ m l. course_of m ports x (drop n l)) none same in
    subst (λ c. (passed : List Step) × PassesTo passed old c) (sym (held 1))
    (subst (λ c. (passed : List Step) × PassesTo passed c (course ports (drop 1 (base ports)) x)) (sym (held given) ∙ is)
    (whole ports x given))
