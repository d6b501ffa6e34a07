-- Numbers and the digits that they are written with.
use Rattle.std.proofs.Common.{◌≡◌, ℕ, zero, suc, ◌+◌, ◌*◌, ◌^◌, ◌<◌, ◌≤◌, false, List, [], ◌∷◌, length, get_or, take, drop, decimal, sym, ap, ◌∙◌, subst, arith, inl, inr}
use Rattle.std.specs.Char.{digit_value}
use Rattle.std.specs.Fmt.{digits}
use Rattle.std.specs.Str.Parse.{AllDigits, digits_value}
use Rattle.std.proofs.lemmas.Bool.{cases_lt}
use Rattle.std.proofs.lemmas.Fmt.{decimal_is_IsNumeral, decimal-digits_value, decimal_digit, first_decimal, digits_is_IsNumeral}
use Rattle.std.proofs.lemmas.Int.Digits.{digits_value_more}
use Rattle.std.proofs.lemmas.Str.Parse.{IsNumeralModel, numerals_by_value, tells_digits, digits_value-take-le}
use Rattle.cos_text.specs.Numbers.{hex_text}

pub digit-at : (radix : ℕ) (ds : List ℕ) (i : ℕ) → AllDigits radix ds → i < length ds → digit_value (get_or ds i 0) < radix
digit-at radix [] i all inside = absurd (omega arith)
digit-at radix (c ∷ cs) zero all inside = all.0
digit-at radix (c ∷ cs) (suc i) all inside = digit-at radix cs i all.1 (omega arith)

-- a number that one more digit makes too large, belongs to digits of a number that is too large
pub too-large : (radix value : ℕ) (ds : List ℕ) (i : ℕ) → 2 ≤ radix → i < length ds → value ≡ digits_value radix (take i ds) → 2 ^ 64 ≤ value * radix + digit_value (get_or ds i 0) → digits_value radix ds < 2 ^ 64 → ⊥
too-large radix value ds i base inside is large small =
    let more : digits_value radix (take (i + 1) ds) ≡ value * radix + digit_value (get_or ds i 0) =
    digits_value_more radix ds i inside ∙ ap (λ (v : ℕ). v * radix + digit_value (get_or ds i 0)) (sym is) in
    let le = digits_value-take-le radix ds (i + 1) (omega arith) in
    omega arith

pub more-value : (radix value product next sum : ℕ) (ds : List ℕ) (i : ℕ) → i < length ds → value ≡ digits_value radix (take i ds) → product ≡ value * radix → next ≡ digit_value (get_or ds i 0) → sum ≡ product + next → sum ≡ digits_value radix (take (i + 1) ds)
more-value radix value product next sum ds i inside is product_is next_is sum_is =
    sum_is ∙ ap (λ (x : ℕ). x + next) product_is ∙ ap (λ (x : ℕ). value * radix + x) next_is
    ∙ ap (λ (x : ℕ). x * radix + digit_value (get_or ds i 0)) is ∙ sym (digits_value_more radix ds i inside)

own : IsNumeralModel (AllDigits 10) (digits_value 10)
own = numerals_by_value (AllDigits 10) tells_digits

-- digits without a leading zero are those of their number
pub decimal-of : (ds : List ℕ) (n : ℕ) → AllDigits 10 ds → n ≡ digits_value 10 ds → (0 < length ds) × (get_or ds 0 0 ≡ 48 → length ds ≡ 1) → n < 2 ^ 64 → ds ≡ decimal n
decimal-of ds n all is plain small =
    let value_small : digits_value 10 ds < 2 ^ 64 = omega (arith, is) in
    sym (ap decimal is ∙ decimal-digits_value own ds all plain.0 plain.1 value_small)

pub record IsDecimal (word : List ℕ) (n : ℕ) : Type 0 where
  pub plain : (0 < length word) × (get_or word 0 0 ≡ 48 → length word ≡ 1)
  pub all : AllDigits 10 word
  pub value : digits_value 10 word ≡ n

first-digit : (n : ℕ) → n < 2 ^ 64 → get_or (decimal n) 0 0 ≡ 48 → length (decimal n) ≡ 1
first-digit n small zero_first =
    elim (cases_lt 0 n) as (λ _. length (decimal n) ≡ 1) [
      | inl above ↦ let first = first_decimal n above small in absurd (omega arith)
      | inr none ↦ ap length (decimal_digit n (omega arith))
    ]

decimal-facts : (n : ℕ) → n < 2 ^ 64 → IsDecimal (decimal n) n
decimal-facts n small =
    let numeral = decimal_is_IsNumeral n small in
    record { plain = (numeral.0.0, first-digit n small); all = numeral.0.1; value = numeral.1 }

pub is-decimal : (word : List ℕ) (n : ℕ) → n < 2 ^ 64 → word ≡ decimal n → IsDecimal word n
is-decimal word n small is = subst (λ (w : List ℕ). IsDecimal w n) (sym is) (decimal-facts n small)

pub record IsHex (word : List ℕ) (n : ℕ) : Type 0 where
  pub all : AllDigits 16 word
  pub value : digits_value 16 word ≡ n

hex-facts : (n : ℕ) → n < 2 ^ 64 → IsHex (digits 16 false n) n
hex-facts n small =
    let numeral = digits_is_IsNumeral 16 false (omega arith) (omega arith) n (omega arith) in
    record { all = numeral.0.1; value = numeral.1 }

pub is-hex : (word rest : List ℕ) (n : ℕ) → n < 2 ^ 64 → word ≡ hex_text n → rest ≡ drop 2 word → IsHex rest n
is-hex word rest n small is back = subst (λ (w : List ℕ). IsHex w n) (sym (back ∙ ap (drop 2) is)) (hex-facts n small)
