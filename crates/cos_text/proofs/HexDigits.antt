-- The digits of a number in hexadecimal, made from the last one on.
use Rattle.std.proofs.Common.{ℕ, ◌≡◌, ◌+◌, ◌-◌, ◌/◌, ◌%◌, ◌^◌, ◌<◌, ◌≤◌, zero, suc, Bool, false, cond, List, ◌∷◌, ap, arith, eq-eqb, ◌∙◌, sym, subst, drop, length, set}
use Rattle.std.proofs.lemmas.List.{drop-set}
use Rattle.cos_text.specs.Numbers.{hexadecimal}
use Rattle.std.proofs.lemmas.Bool.{ne_eqb}
use Rattle.std.proofs.Math.Nat.{pow-suc}
use Rattle.std.specs.Fmt.{digits_onto, digit_glyph}

-- A number of at least two hexadecimal digits: its last digit stands before those that are there, and the rest before it.
pub digits_onto-more : (k n : ℕ) (acc : List ℕ) → 16 ≤ n → digits_onto (suc k) 16 false n acc ≡ digits_onto k 16 false (n / 16) (digit_glyph false (n % 16) ∷ acc)
digits_onto-more k n acc large =
    ap (λ (b : Bool). cond b (digit_glyph false (n % 16) ∷ acc) (digits_onto k 16 false (n / 16) (digit_glyph false (n % 16) ∷ acc)))
    (ne_eqb (n / 16) 0 (λ e. omega arith))

-- a number of one hexadecimal digit
pub digits_onto-one : (k n : ℕ) (acc : List ℕ) → n < 16 → digits_onto (suc k) 16 false n acc ≡ digit_glyph false n ∷ acc
digits_onto-one k n acc small =
    let last : n % 16 ≡ n = omega arith in
    let none : n / 16 ≡ 0 = omega arith in
    ap (λ (b : Bool). cond b (digit_glyph false (n % 16) ∷ acc) (digits_onto k 16 false (n / 16) (digit_glyph false (n % 16) ∷ acc)))
    (eq-eqb (n / 16) 0 none) ∙ ap (λ d. digit_glyph false d ∷ acc) last

-- one digit fewer
pub below_power : (k n : ℕ) → n < 16 ^ suc k → n / 16 < 16 ^ k
below_power k n small = let e = pow-suc 16 k in omega (arith, e, small)

pub large_has_digits : (k n : ℕ) → n < 16 ^ (k + 1) → 16 ≤ n → 0 < k
large_has_digits zero n small large = absurd (omega (arith, small))
large_has_digits (suc k) n small large = omega arith

-- what stands of a number's digits, and what is left of the number
abbrev pub Stands : ℕ → ℕ → ℕ → List ℕ → Type 0
Stands number front at ds = hexadecimal number ≡ digits_onto (at + 49) 16 false front (drop (at + 1) ds)

pub written-more : (number front at : ℕ) (ds : List ℕ) (d : ℕ) → length ds ≡ 16 → 16 ≤ front → at ≤ 15 → front < 16 ^ (at + 1) → d ≡ digit_glyph false (front % 16) → Stands number front at ds
    → (at - 1 ≤ 15) × (front / 16 < 16 ^ (at - 1 + 1)) × Stands number (front / 16) (at - 1) (set ds at d)
written-more number front zero ds d long large low small is stands = absurd (omega (arith, small))
written-more number front (suc k) ds d long large low small is stands =
    let one : suc k ≡ k + 1 = omega arith in
    let before : suc k - 1 ≡ k = omega arith in
    let fuel : suc k + 49 ≡ suc (k + 49) = omega arith in
    let power : suc k + 1 ≡ suc (suc k) = omega arith in
    let fewer : front / 16 < 16 ^ (k + 1) = subst (λ n. front / 16 < 16 ^ n) one (below_power (suc k) front (subst (λ n. front < 16 ^ n) power small)) in
    let acc : digit_glyph false (front % 16) ∷ drop (suc k + 1) ds ≡ drop (k + 1) (set ds (suc k) d) =
    ap (λ x. x ∷ drop (suc k + 1) ds) (sym is) ∙ sym (drop-set ds (suc k) d (omega arith)) ∙ ap (λ n. drop n (set ds (suc k) d)) one in
    let more : Stands number (front / 16) k (set ds (suc k) d) =
    stands ∙ ap (λ n. digits_onto n 16 false front (drop (suc k + 1) ds)) fuel
    ∙ digits_onto-more (k + 49) front (drop (suc k + 1) ds) large
    ∙ ap (λ l. digits_onto (k + 49) 16 false (front / 16) l) acc in
    subst (λ n. (n ≤ 15) × (front / 16 < 16 ^ (n + 1)) × Stands number (front / 16) n (set ds (suc k) d)) (sym before) (omega arith, fewer, more)

pub written-all : (number front at : ℕ) (ds : List ℕ) (d : ℕ) → length ds ≡ 16 → front < 16 → at ≤ 15 → d ≡ digit_glyph false front → Stands number front at ds
    → hexadecimal number ≡ drop at (set ds at d)
written-all number front at ds d long small low is stands =
    let some : at + 49 ≡ suc (at + 48) = omega arith in
    stands ∙ ap (λ k. digits_onto k 16 false front (drop (at + 1) ds)) some
    ∙ digits_onto-one (at + 48) front (drop (at + 1) ds) small
    ∙ ap (λ x. x ∷ drop (at + 1) ds) (sym is) ∙ sym (drop-set ds at d (omega arith))
