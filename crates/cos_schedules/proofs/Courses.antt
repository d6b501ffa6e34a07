-- Courses of schedules.
use Rattle.std.proofs.Common.{◌≡◌, ℕ, zero, suc, ◌+◌, ◌%◌, ◌<◌, ◌≤◌, List, [], ◌∷◌, length, drop, refl, ap, ap₂}
use Rattle.std.proofs.Common.{◌∙◌, length-drop, arith}
use Rattle.std.proofs.lemmas.List.{append-nil}
use Rattle.cos_schedules.specs.declared.step.Step.{Step}
use Rattle.cos_schedules.specs.declared.step.Step.TheVariants.{Machine, Device, Deliver}
use Rattle.cos_schedules.specs.Schedules.{base, base_length, turned, from_drawn_place, drawn, following, counted, round}
use Rattle.cos_schedules.specs.Schedules.{after_round}
use Rattle.cos_schedules.specs.Courses.{Course, begun_at, begun}
use Rattle.cos_schedules.specs.Held.{counted_in, after_counts_in, course_of, first_place, after_place, IsCounted}
use Rattle.cos_schedules.proofs.Places.{length-base, length-turned}

length-counted : (x : ℕ) (ss : List Step) → length (counted x ss) ≡ length ss
length-counted x [] = refl
length-counted x (Machine ∷ ss) = omega (arith, length-counted x ss)
length-counted x (Device p ∷ ss) = omega (arith, length-counted x ss)
length-counted x (Deliver p way k ∷ ss) = omega (arith, length-counted (following x) ss)

length-counted_in : (number x : ℕ) (ss : List Step) → length (counted_in number x ss) ≡ length ss
length-counted_in zero x ss = refl
length-counted_in (suc number) x ss = length-counted x ss

-- how many steps are left
pub length-left : (number ports x first given : ℕ) (c : Course) → first < base_length ports
    → given ≤ base_length ports → course_of number ports x (drop given (turned first (base ports))) ≡ c
    → length c.left + given ≡ base_length ports
length-left number ports x first given c inside within is =
    omega (
      arith,
      ap (λ d. length d.left) is,
      length-counted_in number x (drop given (turned first (base ports))),
      length-drop given (turned first (base ports)),
      length-turned first (base ports) (omega (arith, length-base ports)),
      length-base ports,
    )

pub length-round : (number ports x : ℕ) → length (round number ports x) ≡ base_length ports
length-round zero ports x = length-base ports
length-round (suc number) ports x =
    omega (
      arith,
      length-counted (following x) (from_drawn_place ports x),
      length-turned (drawn x % base_length ports) (base ports) (omega (arith, length-base ports)),
      length-base ports,
    )

pub begun-left : (c : Course) → 1 ≤ length (begun c).left
begun-left c = by c.left refl
  where
    by : (ss : List Step) → ss ≡ c.left → 1 ≤ length (begun_at c ss).left
    by [] e = omega (arith, length-round c.number c.ports c.x)
    by (s ∷ ss) e = omega (arith, ap length e)

pub begun-same : (c : Course) → 1 ≤ length c.left → c ≡ begun c
begun-same c some = by c.left some
  where
    by : (ss : List Step) → 1 ≤ length ss → c ≡ begun_at c ss
    by [] h = absurd (omega arith)
    by (s ∷ ss) h = refl

-- A round ends, and the next begins.

none-left : {A : Type 0} (xs : List A) (n : ℕ) → n ≡ length xs → drop n xs ≡ []
none-left [] zero e = refl
none-left [] (suc n) e = refl
none-left (x ∷ xs) zero e = absurd (omega arith)
none-left (x ∷ xs) (suc n) e = none-left xs n (omega arith)

abbrev course : ℕ → ℕ → List Step → ℕ → Course
course number ports left x = record { number = number; ports = ports; left = left; x = x }

nothing : (number ports x : ℕ) → course_of number ports x [] ≡ course number ports [] x
nothing zero ports x = refl
nothing (suc number) ports x = refl

pub round-ends : (number ports x first given : ℕ) → first < base_length ports → given ≡ base_length ports
    → course_of number ports x (drop given (turned first (base ports))) ≡ course number ports [] x
round-ends number ports x first given inside all =
    let whole = length-turned first (base ports) (omega (arith, length-base ports)) in
    let none = none-left (turned first (base ports)) given (omega (arith, whole, length-base ports)) in
    ap (course_of number ports x) none ∙ nothing number ports x

pub round-begins : (number ports x : ℕ)
    → course_of number ports (after_place number x) (turned (first_place number ports x) (base ports))
    ≡ course number ports (round number ports x) (after_round number ports x)
round-begins zero ports x = ap (λ ss. course 0 ports ss x) (append-nil (base ports))
round-begins (suc number) ports x = refl

-- A step is given.

pub step-given : (number ports x after : ℕ) (step counted : Step) (left rest : List Step)
    → left ≡ step ∷ rest → IsCounted number step x counted after
    → course_of number ports x left
    ≡ course number ports (counted ∷ counted_in number after rest) (after_counts_in number after rest)
step-given number ports x after step counted left rest e is =
    ap (course_of number ports x) e ∙ ap₂ (λ ss y. course number ports ss y) (is rest).0 (is rest).1
