-- The steps at the places of the base list.
use Rattle.std.proofs.Common.{◌≡◌, ℕ, zero, suc, ◌+◌, ◌*◌, ◌<◌, ◌≤◌, List, [], ◌∷◌, ◌++◌, length, take, drop, Some}
use Rattle.std.proofs.Common.{slice_get, refl, sym, ap, ◌∙◌, length-append, length-drop, arith}
use Rattle.std.proofs.lemmas.List.{length-take-le}
use Rattle.std.proofs.lemmas.Option.{same_Some}
use Rattle.cos_schedules.specs.declared.step.Step.{Step}
use Rattle.cos_schedules.specs.Schedules.{port_steps, ports_from, base, base_length, turned}

length-ports : (p n : ℕ) → length (ports_from p n) ≡ 3 * n
length-ports p zero = refl
length-ports p (suc n) = omega (arith, length-ports (suc p) n)

pub length-base : (n : ℕ) → length (base n) ≡ base_length n
length-base n = omega (arith, length-ports 0 n)

-- step r of port p + q, which is the port at place q from port p on
port-at : (p n q port r i : ℕ) → q < n → r < 3 → port ≡ p + q → i ≡ 3 * q + r
    → slice_get (ports_from p n) i ≡ slice_get (port_steps port) r
port-at p zero q port r i inside three port_is i_is = absurd (omega arith)
port-at p (suc n) zero port zero i inside three port_is i_is =
    let first : i ≡ 0 = omega arith in
    let same : p ≡ port = omega arith in
    ap (slice_get (ports_from p (suc n))) first ∙ ap (λ x. slice_get (port_steps x) 0) same
port-at p (suc n) zero port (suc zero) i inside three port_is i_is =
    let second : i ≡ 1 = omega arith in
    let same : p ≡ port = omega arith in
    ap (slice_get (ports_from p (suc n))) second ∙ ap (λ x. slice_get (port_steps x) 1) same
port-at p (suc n) zero port (suc (suc zero)) i inside three port_is i_is =
    let third : i ≡ 2 = omega arith in
    let same : p ≡ port = omega arith in
    ap (slice_get (ports_from p (suc n))) third ∙ ap (λ x. slice_get (port_steps x) 2) same
port-at p (suc n) zero port (suc (suc (suc r))) i inside three port_is i_is = absurd (omega arith)
port-at p (suc n) (suc q) port r i inside three port_is i_is =
    let more : i ≡ suc (suc (suc (3 * q + r))) = omega arith in
    ap (slice_get (ports_from p (suc n))) more
    ∙ port-at (suc p) n q port r (3 * q + r) (omega arith) three (omega arith) refl

pub base-at : (n place q r : ℕ) → q < n → r < 3 → place ≡ suc (3 * q + r)
    → slice_get (base n) place ≡ slice_get (port_steps q) r
base-at n place q r inside three is =
    ap (slice_get (base n)) is ∙ port-at 0 n q q r (3 * q + r) inside three (omega arith) refl

-- Lists, and what is left behind a place.

get-front : {A : Type 0} (xs ys : List A) (i : ℕ) → i < length xs → slice_get (xs ++ ys) i ≡ slice_get xs i
get-front [] ys i inside = absurd (omega arith)
get-front (x ∷ xs) ys zero inside = refl
get-front (x ∷ xs) ys (suc i) inside = get-front xs ys i (omega arith)

get-behind : {A : Type 0} (xs ys : List A) (i j : ℕ) → i ≡ length xs + j → slice_get (xs ++ ys) i ≡ slice_get ys j
get-behind [] ys i j is = (let e : i ≡ j = omega arith in ap (slice_get ys) e)
get-behind (x ∷ xs) ys zero j is = absurd (omega arith)
get-behind (x ∷ xs) ys (suc i) j is = get-behind xs ys i j (omega arith)

get-drop : {A : Type 0} (xs : List A) (r i k : ℕ) → k ≡ r + i → slice_get (drop r xs) i ≡ slice_get xs k
get-drop [] zero i k is = refl
get-drop [] (suc r) i k is = refl
get-drop (x ∷ xs) zero i k is = (let e : i ≡ k = omega arith in ap (slice_get (x ∷ xs)) e)
get-drop (x ∷ xs) (suc r) i zero is = absurd (omega arith)
get-drop (x ∷ xs) (suc r) i (suc k) is = get-drop xs r i k (omega arith)

get-take : {A : Type 0} (xs : List A) (r i : ℕ) → i < r → slice_get (take r xs) i ≡ slice_get xs i
get-take [] zero i h = absurd (omega arith)
get-take [] (suc r) i h = refl
get-take (x ∷ xs) zero i h = absurd (omega arith)
get-take (x ∷ xs) (suc r) zero h = refl
get-take (x ∷ xs) (suc r) (suc i) h = get-take xs r i (omega arith)

pub left-at : {A : Type 0} (xs : List A) (i j : ℕ) (x : A) → j ≡ suc i → slice_get xs i ≡ Some x
    → drop i xs ≡ x ∷ drop j xs
left-at [] i j x next e = absurd (cc)
left-at (y ∷ ys) i zero x next e = absurd (omega arith)
left-at (y ∷ ys) zero (suc j) x next e =
    let none : j ≡ 0 = omega arith in
    ap (λ z. z ∷ ys) (same_Some y x e) ∙ ap (λ n. x ∷ drop n ys) (sym none)
left-at (y ∷ ys) (suc i) (suc j) x next e = left-at ys i j x (omega arith) e

-- The turned list.

pub turned-front : (r i k : ℕ) (xs : List Step) → k ≡ r + i → k < length xs → slice_get (turned r xs) i ≡ slice_get xs k
turned-front r i k xs is inside =
    get-front (drop r xs) (take r xs) i (omega (arith, length-drop r xs)) ∙ get-drop xs r i k is

pub turned-back : (r i k : ℕ) (xs : List Step) → r ≤ length xs → r + i ≡ length xs + k → k < r
    → slice_get (turned r xs) i ≡ slice_get xs k
turned-back r i k xs inside is before =
    get-behind (drop r xs) (take r xs) i k (omega (arith, length-drop r xs)) ∙ get-take xs r k before

pub length-turned : (r : ℕ) (xs : List Step) → r ≤ length xs → length (turned r xs) ≡ length xs
length-turned r xs inside = omega (
  arith,
  length-append (drop r xs) (take r xs),
  length-drop r xs,
  length-take-le r xs inside,
)
