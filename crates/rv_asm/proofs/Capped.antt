-- A magnitude above every range may be kept as 2 ^ 32.
use Rattle.std.proofs.Common.{◌≡◌, ℕ, ◌+◌, ◌*◌, ◌^◌, ◌≤◌, ◌<◌, Bool, true, false, List, [], ◌∷◌, Option, Some, None, Result, Ok, Err, length, get_or, drop, cond, nat_lt, nat_le, refl, ap, sym, ◌∙◌, arith, ◌⊎◌, inl, inr, lit<}
use Rattle.std.specs.Char.{digit_value}
use Rattle.std.proofs.lemmas.Bool.{cases_lt}
use Rattle.std.proofs.lemmas.List.{at_drop_more}
use Rattle.std.proofs.Math.Nat.{le-mul_of_pos_right}
use Rattle.std.proofs.lemmas.Bool.Decides.{nat_tests}
use Rattle.rv_asm.specs.declared.numbers.Number.{Number}
use Rattle.rv_asm.specs.declared.numbers.Number.TheVariants.{Plus, Minus}
use Rattle.rv_asm.specs.declared.fault.Cause.{Cause}
use Rattle.rv_asm.specs.declared.fault.Cause.TheVariants.{Range}
use Rattle.rv_asm.specs.Numbers.{numeral_after, capped, kept, kept_one, kept_number, number, is_within, ranged, word_of_number, plain_of}
use Rattle.rv_asm.specs.Csrs.{csr_number}
use Rattle.rv_asm.specs.Programs.{Placed}
use Rattle.rv_asm.specs.Readings.{csr, csr_or_number, csr_numbered, is_even, reached, target, target_at}

capped-above : (n : ℕ) → 2 ^ 32 ≤ n → capped n ≡ 2 ^ 32
capped-above n h = omega arith

capped-cases : (n : ℕ) → (capped n ≡ n) ⊎ ((capped n ≡ 2 ^ 32) × (2 ^ 32 ≤ n))
capped-cases n = elim (cases_lt n (2 ^ 32)) [ inl h ↦ inl (omega arith) | inr h ↦ inr (omega arith, omega arith) ]

le-product : (n radix : ℕ) → 1 ≤ radix → n ≤ n * radix
le-product n radix h = le-mul_of_pos_right n (omega arith)

-- the step of a sum of digits, before and after the magnitude is kept
capped-step : (radix n d : ℕ) → 1 ≤ radix → capped (capped n * radix + d) ≡ capped (n * radix + d)
capped-step radix n d h = elim (capped-cases n) [
  | inl e ↦ ap (λ k. capped (k * radix + d)) e
  | inr p ↦ ap (λ k. capped (k * radix + d)) p.0 ∙ capped-above (2 ^ 32 * radix + d) (omega arith) ∙ sym (capped-above (n * radix + d) (omega (arith, le-product n radix h)))
]

kept-cond : (b : Bool) (x y : Option ℕ) → kept x ≡ kept y → kept (cond b x None) ≡ kept (cond b y None)
kept-cond true x y e = e
kept-cond false x y e = refl

-- numbers that are kept alike are read on alike
pub numeral_after-capped : (radix m n : ℕ) (xs : List ℕ) → 1 ≤ radix → capped m ≡ capped n → kept (numeral_after radix m xs) ≡ kept (numeral_after radix n xs)
numeral_after-capped radix m n [] h e = ap Some e
numeral_after-capped radix m n (c ∷ cs) h e =
    let step : capped (m * radix + digit_value c) ≡ capped (n * radix + digit_value c) =
    sym (capped-step radix m (digit_value c) h) ∙ ap (λ k. capped (k * radix + digit_value c)) e ∙ capped-step radix n (digit_value c) h in
    kept-cond (nat_lt (digit_value c) radix) _ _ (numeral_after-capped radix (m * radix + digit_value c) (n * radix + digit_value c) cs h step)

lt-test : (a b : ℕ) → a < b → nat_lt a b ≡ true
lt-test a b h = grind (arith, nat_tests)

le-fails : (a b : ℕ) → b < a → nat_le a b ≡ false
le-fails a b h = grind (arith, nat_tests)

capped-again : (n : ℕ) → capped n ≡ capped (capped n)
capped-again n = omega arith

-- a reader of digits goes on by one digit
pub numeral_after-step : (radix n m : ℕ) (xs : List ℕ) (i : ℕ) → 1 ≤ radix → i < length xs → digit_value (get_or xs i 0) < radix → m ≡ capped (n * radix + digit_value (get_or xs i 0)) → kept (numeral_after radix n (drop i xs)) ≡ kept (numeral_after radix m (drop (i + 1) xs))
numeral_after-step radix n m xs i low within small e =
    let d : ℕ = digit_value (get_or xs i 0) in
    let rest : List ℕ = drop (i + 1) xs in
    at_drop_more (λ ys. kept (numeral_after radix n ys)) xs i 0 within
    ∙ ap (λ b. kept (cond b (numeral_after radix (n * radix + d) rest) None)) (lt-test d radix small)
    ∙ numeral_after-capped radix (n * radix + d) m rest low (capped-again (n * radix + d) ∙ ap capped (sym e))

refused : (low high : ℕ) (n m : Number) → is_within low high n ≡ false → is_within low high m ≡ false → ranged low high n ≡ ranged low high m
refused low high n m a b = ap (λ t. cond t (Ok (word_of_number n)) (Err Range)) a ∙ sym (ap (λ t. cond t (Ok (word_of_number m)) (Err Range)) b)

-- a range says the same of a number and of the number as it is kept
pub plain_of-kept : (low high : ℕ) (o : Option Number) → low < 2 ^ 32 → high < 2 ^ 32 → plain_of low high (kept_number o) ≡ plain_of low high o
plain_of-kept low high None h k = refl
plain_of-kept low high (Some (Plus n)) h k = elim (capped-cases n) [
  | inl e ↦ ap (λ m. ranged low high (Plus m)) e
  | inr p ↦ refused low high (Plus (capped n)) (Plus n) (le-fails (capped n) high (omega (arith, p.0))) (le-fails n high (omega (arith, p.1)))
]
plain_of-kept low high (Some (Minus n)) h k = elim (capped-cases n) [
  | inl e ↦ ap (λ m. ranged low high (Minus m)) e
  | inr p ↦ refused low high (Minus (capped n)) (Minus n) (le-fails (capped n) low (omega (arith, p.0))) (le-fails n low (omega (arith, p.1)))
]

-- so it says of a text what it says of the number that was read
pub plain_of-read : (low high : ℕ) (o : Option Number) (x : Number) → low < 2 ^ 32 → high < 2 ^ 32 → Some x ≡ kept_number o → ranged low high x ≡ plain_of low high o
plain_of-read low high o x h k e = ap (plain_of low high) e ∙ plain_of-kept low high o h k

csr_numbered-kept : (text : List ℕ) (o : Option Number) → csr_numbered text (kept_number o) ≡ csr_numbered text o
csr_numbered-kept text None = refl
csr_numbered-kept text (Some n) = plain_of-kept 0 0xfff (Some n) (lit< tt) (lit< tt)

pub csr-read : (text : List ℕ) (x : Number) → csr_number text ≡ None → Some x ≡ kept_number (number text) → ranged 0 0xfff x ≡ csr text
csr-read text x absent e = ap (csr_numbered text) e ∙ csr_numbered-kept text (number text) ∙ ap (csr_or_number text) (sym absent)

-- evenness and a range together say the same of a number and of the number as it is kept
abbrev out_of_range : Result ℕ Cause
out_of_range = Err Range

unreached-at : (even within : Bool) (word : ℕ) → within ≡ false → cond even (cond within (Ok word) out_of_range) out_of_range ≡ out_of_range
unreached-at true within word h = ap (λ t. cond t (Ok word) out_of_range) h
unreached-at false within word h = refl

unreached : (low high : ℕ) (n : Number) → is_within low high n ≡ false → reached low high n ≡ Err Range
unreached low high n h = unreached-at (is_even n) (is_within low high n) (word_of_number n) h

pub reached-kept : (low high : ℕ) (n : Number) → low < 2 ^ 32 → high < 2 ^ 32 → reached low high (kept_one n) ≡ reached low high n
reached-kept low high (Plus n) h k = elim (capped-cases n) [
  | inl e ↦ ap (λ m. reached low high (Plus m)) e
  | inr p ↦ unreached low high (Plus (capped n)) (le-fails (capped n) high (omega (arith, p.0))) ∙ sym (unreached low high (Plus n) (le-fails n high (omega (arith, p.1))))
]
reached-kept low high (Minus n) h k = elim (capped-cases n) [
  | inl e ↦ ap (λ m. reached low high (Minus m)) e
  | inr p ↦ unreached low high (Minus (capped n)) (le-fails (capped n) low (omega (arith, p.0))) ∙ sym (unreached low high (Minus n) (le-fails n low (omega (arith, p.1))))
]

target_at-kept : (lines : List Placed) (source low high : ℕ) (text : List ℕ) (o : Option Number) → low < 2 ^ 32 → high < 2 ^ 32 → target_at lines source low high text (kept_number o) ≡ target_at lines source low high text o
target_at-kept lines source low high text None h k = refl
target_at-kept lines source low high text (Some n) h k = reached-kept low high n h k

pub target-read : (lines : List Placed) (source low high : ℕ) (text : List ℕ) (o : Option Number) → low < 2 ^ 32 → high < 2 ^ 32 → o ≡ kept_number (number text) → target_at lines source low high text o ≡ target lines source low high text
target-read lines source low high text o h k e = ap (target_at lines source low high text) e ∙ target_at-kept lines source low high text (number text) h k
