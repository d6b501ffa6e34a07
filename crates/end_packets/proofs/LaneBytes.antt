-- Lanes as bytes, put one by one.
use Rattle.std.proofs.Common.{◌≡◌, ℕ, zero, suc, ◌+◌, ◌-◌, ◌/◌, ◌%◌, ◌<◌, ◌≤◌, Bool, true, false, nat_eq, if◌then◌else◌, List, [], ◌∷◌, ◌++◌, length, take, map, set, refl, sym, ap, ◌∙◌, arith, append_assoc}
use Rattle.std.proofs.lemmas.List.{take_more_set, length-set, append-nil}
use Rattle.std.proofs.lemmas.Bool.Decides.{nat_tests}
use Rattle.cosim_model.specs.Values.{bits_of}
use Rattle.cosim_model.specs.Packets.{enable_byte}

abbrev pub enables : ℕ → ℕ → List ℕ
enables mask n = map enable_byte (bits_of mask n)

pub enables-start : (mask : ℕ) (out : List ℕ) → take 0 out ++ enables mask (length out - 0) ≡ enables mask (length out)
enables-start mask out = ap (enables mask) (omega arith)

pub enables-more : (whole out : List ℕ) (left at y : ℕ) → at < length out → y ≡ enable_byte (nat_eq (left % 2) 1) → take at out ++ enables left (length out - at) ≡ whole
    → take (at + 1) (set out at y) ++ enables (left / 2) (length (set out at y) - (at + 1)) ≡ whole
enables-more whole out left at y within is e =
    ap (λ xs. xs ++ enables (left / 2) (length (set out at y) - (at + 1))) (take_more_set out at y within)
    ∙ ap (λ n. (take at out ++ y ∷ []) ++ enables (left / 2) (n - (at + 1))) (length-set out at y)
    ∙ append_assoc (take at out) (y ∷ []) (enables (left / 2) (length out - (at + 1)))
    ∙ ap (λ b. take at out ++ b ∷ enables (left / 2) (length out - (at + 1))) is
    ∙ ap (λ n. take at out ++ enables left n) one
    ∙ e
  where
    one : suc (length out - (at + 1)) ≡ length out - at
    one = omega arith

pub enables-all : (whole out : List ℕ) (left n : ℕ) → length out ≤ n → take n out ++ enables left (length out - n) ≡ whole → length out ≡ n → out ≡ whole
enables-all whole out left n all e same =
    sym (append-nil out) ∙ ap (λ xs. xs ++ []) (sym (take-whole out n all)) ∙ ap (λ m. take n out ++ enables left m) (sym none) ∙ e
  where
    none : length out - n ≡ 0
    none = omega arith

    take-whole : (xs : List ℕ) (k : ℕ) → length xs ≤ k → take k xs ≡ xs
    take-whole [] zero h = refl
    take-whole [] (suc k) h = refl
    take-whole (x ∷ xs) zero h = absurd (omega arith)
    take-whole (x ∷ xs) (suc k) h = ap (λ ys. x ∷ ys) (take-whole xs k (omega arith))

pub byte-on : (left y : ℕ) → left % 2 ≡ 1 → y ≡ 255 → y ≡ enable_byte (nat_eq (left % 2) 1)
byte-on left y is e = e ∙ ap (λ n. enable_byte (nat_eq n 1)) (sym is)

pub byte-off : (left y : ℕ) → (left % 2 ≡ 1 → ⊥) → y ≡ 0 → y ≡ enable_byte (nat_eq (left % 2) 1)
byte-off left y is e = go (nat_eq (left % 2) 1) refl
  where
    go : (t : Bool) → nat_eq (left % 2) 1 ≡ t → y ≡ enable_byte (nat_eq (left % 2) 1)
    go true f = absurd (is (grind (arith, nat_tests)))
    go false f = e ∙ ap enable_byte (sym f)
