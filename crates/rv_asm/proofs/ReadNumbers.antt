-- Numbers that were listed are read back, and their texts are sound.
use Rattle.std.proofs.Common.{◌≡◌, ℕ, ◌+◌, ◌-◌, ◌*◌, ◌/◌, ◌%◌, ◌^◌, ◌<◌, ◌≤◌, ◌==◌, ◌⊎◌, inl, inr, zero, suc, Bool, true, false, List, [], ◌∷◌, ◌++◌, Option, Some, None, Ok, Err, cond, nat_lt, nat_le, decimal, refl, ap, sym, subst, ◌∙◌, arith}
use Rattle.std.specs.Char.{digit_value}
use Rattle.std.proofs.lemmas.Bool.{and_from, cond-true, cond-false, ne_eqb, lt-ltb, le-ltb, le-leb, cases_lt}
use Rattle.std.proofs.lemmas.Bool.Decides.{nat_tests}
use Rattle.std.proofs.lemmas.Str.{digit_value-digit_char}
use Rattle.std.proofs.lemmas.Fmt.{decimal_by_steps}
use Rattle.rv_asm.specs.declared.fault.Cause.TheVariants.{Range}
use Rattle.rv_asm.specs.declared.numbers.Number.{Number}
use Rattle.rv_asm.specs.declared.numbers.Number.TheVariants.{Plus, Minus}
use Rattle.rv_asm.specs.Numbers.{numeral, numeral_after, decimal_numeral, number, plus, minus, after_zero, word_of_number, ranged, plain, plain_of}
use Rattle.rv_asm.specs.Listings.{signed_text, hex_digit, hex_digits}
use Rattle.rv_asm.proofs.Scans.{all_are, all-append, all-weaken, is_plain, is_solid, plain-solid, starts, starts-append, Sound}

push-at : (b : Bool) (o p : Option ℕ) (k r : ℕ) → (o ≡ Some k → p ≡ Some r) → cond b o None ≡ Some k → cond b p None ≡ Some r
push-at true o p k r f h = f h
push-at false o p k r f h = cc

-- one more digit
numeral-push : (radix m : ℕ) (xs : List ℕ) (c k : ℕ) → numeral_after radix m xs ≡ Some k → digit_value c < radix → numeral_after radix m (xs ++ c ∷ []) ≡ Some (k * radix + digit_value c)
numeral-push radix m [] c k h d =
    let e : m ≡ k = cc in
    cond-true (nat_lt (digit_value c) radix) (Some (m * radix + digit_value c)) None (lt-ltb (digit_value c) radix d) ∙ ap (λ n. Some (n * radix + digit_value c)) e
numeral-push radix m (x ∷ xs) c k h d =
    push-at (nat_lt (digit_value x) radix) (numeral_after radix (m * radix + digit_value x) xs) (numeral_after radix (m * radix + digit_value x) (xs ++ c ∷ [])) k (k * radix + digit_value c) (λ e. numeral-push radix (m * radix + digit_value x) xs c k e d) h

-- the first digit isn't 0, or it is the only one
abbrev pub Leads : ℕ → List ℕ → Type 0
Leads n [] = ⊥
Leads n (c ∷ cs) = ((49 ≤ c) × (c ≤ 57)) ⊎ ((c ≡ 48) × (cs ≡ []) × (n ≡ 0))

-- the digits of a number
pub record Digits (n : ℕ) (ds : List ℕ) : Type 0 where
  pub value : numeral_after 10 0 ds ≡ Some n
  pub plain_bytes : all_are is_plain ds ≡ true
  pub leads : Leads n ds

digit-value : (d : ℕ) → d < 10 → digit_value (48 + d) ≡ d
digit-value d h = ap digit_value (sym (cond-true (nat_lt d 10) (48 + d) (87 + d) (lt-ltb d 10 h))) ∙ digit_value-digit_char d (omega arith)

digit-plain : (d : ℕ) → d < 10 → is_plain (48 + d) ≡ true
digit-plain d h = grind (arith, nat_tests)

digits-one : (n : ℕ) → n < 10 → Digits n ((48 + n) ∷ [])
digits-one n h = record {
  value = numeral-push 10 0 [] (48 + n) 0 refl (omega (arith, digit-value n h)) ∙ ap Some (omega (arith, digit-value n h));
  plain_bytes = and_from (is_plain (48 + n)) true (digit-plain n h) refl;
  leads = elim (cases_lt 0 n) [ inl e ↦ inl (omega arith, omega arith) | inr e ↦ inr (omega arith, refl, omega arith) ];
}

leads-more : (n d : ℕ) (ds : List ℕ) → 10 ≤ n → Leads (n / 10) ds → Leads n (ds ++ d ∷ [])
leads-more n d [] h l = absurd l
leads-more n d (c ∷ cs) h l = elim l [ inl e ↦ inl e | inr e ↦ absurd (omega (arith, e.2)) ]

digits-more : (n : ℕ) (ds : List ℕ) → 10 ≤ n → Digits (n / 10) ds → Digits n (ds ++ (48 + n % 10) ∷ [])
digits-more n ds h s = record {
  value = numeral-push 10 0 ds (48 + n % 10) (n / 10) s.value (omega (arith, digit-value (n % 10) (omega arith))) ∙ ap Some (omega (arith, digit-value (n % 10) (omega arith)));
  plain_bytes = all-append is_plain ds ((48 + n % 10) ∷ []) s.plain_bytes (and_from (is_plain (48 + n % 10)) true (digit-plain (n % 10) (omega arith)) refl);
  leads = leads-more n (48 + n % 10) ds h s.leads;
}

pub decimal-digits : (n : ℕ) → n < 2 ^ 64 → Digits n (decimal n)
decimal-digits n h = decimal_by_steps Digits digits-one digits-more n h

read-decimal : (n : ℕ) (ds : List ℕ) → Digits n ds → decimal_numeral ds ≡ Some n
read-decimal n [] s = absurd s.leads
read-decimal n (c ∷ []) s = s.value
read-decimal n (c ∷ d ∷ ds) s =
    elim s.leads [
      | inl e ↦ cond-false (c == 48) None (numeral 10 (c ∷ d ∷ ds)) (ne_eqb c 48 (λ q. omega arith)) ∙ s.value
      | inr e ↦ let q : d ∷ ds ≡ [] = e.1 in cc
    ]

zero-alone : (n c : ℕ) (cs : List ℕ) → c ≡ 48 → cs ≡ [] → n ≡ 0 → number (c ∷ cs) ≡ Some (Plus n)
zero-alone n c cs e f g =
    ap (λ x. number (x ∷ cs)) e ∙ ap (λ xs. number (48 ∷ xs)) f ∙ ap (λ x. Some (Plus x)) (sym g)

read-number : (n : ℕ) (ds : List ℕ) → Digits n ds → number ds ≡ Some (Plus n)
read-number n [] s = absurd s.leads
read-number n (c ∷ cs) s =
    elim s.leads [
      | inl e ↦
          cond-false (c == 45) (minus (decimal_numeral cs)) (cond (c == 48) (after_zero cs) (plus (decimal_numeral (c ∷ cs)))) (ne_eqb c 45 (λ q. omega arith))
          ∙ cond-false (c == 48) (after_zero cs) (plus (decimal_numeral (c ∷ cs))) (ne_eqb c 48 (λ q. omega arith))
          ∙ ap plus (read-decimal n (c ∷ cs) s)
      | inr e ↦ zero-alone n c cs e.0 e.1 e.2
    ]

digits-start : (n : ℕ) (ds : List ℕ) → Digits n ds → starts ds ≡ true
digits-start n [] s = absurd s.leads
digits-start n (c ∷ cs) s = elim s.leads [ inl e ↦ grind (arith, nat_tests) | inr e ↦ grind (arith, nat_tests) ]

pub decimal-value : (n : ℕ) → n < 2 ^ 64 → decimal_numeral (decimal n) ≡ Some n
decimal-value n h = read-decimal n (decimal n) (decimal-digits n h)

pub decimal-number : (n : ℕ) → n < 2 ^ 64 → number (decimal n) ≡ Some (Plus n)
decimal-number n h = read-number n (decimal n) (decimal-digits n h)

pub decimal-plain_bytes : (n : ℕ) → n < 2 ^ 64 → all_are is_plain (decimal n) ≡ true
decimal-plain_bytes n h = let s = decimal-digits n h in s.plain_bytes

pub decimal-sound : (n : ℕ) → n < 2 ^ 64 → Sound (decimal n)
decimal-sound n h = record {
  solid = all-weaken is_plain is_solid plain-solid (decimal n) (decimal-plain_bytes n h);
  starts_inked = digits-start n (decimal n) (decimal-digits n h);
}

-- a number that is not negative, where one up to a limit stands
pub unsigned-plain : (n low high : ℕ) → n < 2 ^ 64 → n ≤ high → plain low high (decimal n) ≡ Ok n
unsigned-plain n low high h k =
    ap (plain_of low high) (decimal-number n h) ∙ cond-true (nat_le n high) (Ok n) (Err Range) (le-leb n high k)

-- a word in two's complement: its number, and that it is from -low to high
abbrev pub signed_number : ℕ → Number
signed_number word = cond (nat_lt word (2 ^ 31)) (Plus word) (Minus (2 ^ 32 - word))

abbrev pub Spans : ℕ → ℕ → ℕ → Type 0
Spans low high word = ((word < 2 ^ 31) × (word ≤ high)) ⊎ ((2 ^ 31 ≤ word) × (word < 2 ^ 32) × (2 ^ 32 ≤ word + low))

pub signed-small : (word : ℕ) → word < 2 ^ 31 → signed_text word ≡ decimal word
signed-small word h = cond-true (nat_lt word (2 ^ 31)) (decimal word) (45 ∷ decimal (2 ^ 32 - word)) (lt-ltb word (2 ^ 31) h)

pub signed-large : (word : ℕ) → 2 ^ 31 ≤ word → signed_text word ≡ 45 ∷ decimal (2 ^ 32 - word)
signed-large word h = cond-false (nat_lt word (2 ^ 31)) (decimal word) (45 ∷ decimal (2 ^ 32 - word)) (le-ltb word (2 ^ 31) h)

minus-number : (n : ℕ) → n < 2 ^ 64 → number (45 ∷ decimal n) ≡ Some (Minus n)
minus-number n h = ap minus (decimal-value n h)

pub small-number : (word : ℕ) → word < 2 ^ 31 → number (signed_text word) ≡ Some (Plus word)
small-number word h = ap number (signed-small word h) ∙ decimal-number word (omega arith)

pub large-number : (word : ℕ) → 2 ^ 31 ≤ word → number (signed_text word) ≡ Some (Minus (2 ^ 32 - word))
large-number word h = ap number (signed-large word h) ∙ minus-number (2 ^ 32 - word) (omega arith)

pub small-ranged : (low high word : ℕ) → word ≤ high → ranged low high (Plus word) ≡ Ok word
small-ranged low high word h = cond-true (nat_le word high) (Ok word) (Err Range) (le-leb word high h)

pub large-ranged : (low high word : ℕ) → 2 ^ 31 ≤ word → word < 2 ^ 32 → 2 ^ 32 ≤ word + low → ranged low high (Minus (2 ^ 32 - word)) ≡ Ok word
large-ranged low high word h k l =
    cond-true (nat_le (2 ^ 32 - word) low) (Ok (word_of_number (Minus (2 ^ 32 - word)))) (Err Range) (le-leb (2 ^ 32 - word) low (omega arith)) ∙ ap (λ n. Ok n) (omega arith)

pub signed-plain : (low high word : ℕ) → Spans low high word → plain low high (signed_text word) ≡ Ok word
signed-plain low high word s = elim s [
  | inl e ↦ ap (plain_of low high) (small-number word e.0) ∙ small-ranged low high word e.1
  | inr e ↦ ap (plain_of low high) (large-number word e.0) ∙ large-ranged low high word e.0 e.1 e.2
]

pub signed-plain_bytes : (word : ℕ) → word < 2 ^ 32 → all_are is_plain (signed_text word) ≡ true
signed-plain_bytes word h = elim (cases_lt word (2 ^ 31)) [
  | inl e ↦ ap (all_are is_plain) (signed-small word e) ∙ decimal-plain_bytes word (omega arith)
  | inr e ↦ ap (all_are is_plain) (signed-large word e) ∙ decimal-plain_bytes (2 ^ 32 - word) (omega arith)
]

pub signed-starts : (word : ℕ) → word < 2 ^ 32 → starts (signed_text word) ≡ true
signed-starts word h = elim (cases_lt word (2 ^ 31)) [
  | inl e ↦ ap starts (signed-small word e) ∙ digits-start word (decimal word) (decimal-digits word (omega arith))
  | inr e ↦ ap starts (signed-large word e)
]

pub signed-sound : (word : ℕ) → word < 2 ^ 32 → Sound (signed_text word)
signed-sound word h = record {
  solid = all-weaken is_plain is_solid plain-solid (signed_text word) (signed-plain_bytes word h);
  starts_inked = signed-starts word h;
}

-- hexadecimal digits
hex-value : (d : ℕ) → d < 16 → digit_value (hex_digit d) ≡ d
hex-value d h = digit_value-digit_char d (omega arith)

letter-plain : (d : ℕ) → 10 ≤ d → d < 16 → is_plain (87 + d) ≡ true
letter-plain d h k = grind (arith, nat_tests)

hex-plain : (d : ℕ) → d < 16 → is_plain (hex_digit d) ≡ true
hex-plain d h = elim (cases_lt d 10) [
  | inl e ↦ ap is_plain (cond-true (nat_lt d 10) (48 + d) (87 + d) (lt-ltb d 10 e)) ∙ digit-plain d e
  | inr e ↦ ap is_plain (cond-false (nat_lt d 10) (48 + d) (87 + d) (le-ltb d 10 e)) ∙ letter-plain d e h
]

-- hexadecimal digits of a number, at least one
pub record HexDigits (n : ℕ) (ds : List ℕ) : Type 0 where
  pub value : numeral_after 16 0 ds ≡ Some n
  pub plain_bytes : all_are is_plain ds ≡ true
  pub begun : starts ds ≡ true

plain-starts : (c : ℕ) → is_plain c ≡ true → starts (c ∷ []) ≡ true
plain-starts c h = grind (arith, nat_tests)

hex-one : (n : ℕ) → n < 16 → HexDigits n (hex_digit n ∷ [])
hex-one n h = record {
  value = numeral-push 16 0 [] (hex_digit n) 0 refl (omega (arith, hex-value n h)) ∙ ap Some (omega (arith, hex-value n h));
  plain_bytes = and_from (is_plain (hex_digit n)) true (hex-plain n h) refl;
  begun = plain-starts (hex_digit n) (hex-plain n h);
}

hex-more : (n : ℕ) (ds : List ℕ) → HexDigits (n / 16) ds → HexDigits n (ds ++ hex_digit (n % 16) ∷ [])
hex-more n ds s = record {
  value = numeral-push 16 0 ds (hex_digit (n % 16)) (n / 16) s.value (omega (arith, hex-value (n % 16) (omega arith))) ∙ ap Some (omega (arith, hex-value (n % 16) (omega arith)));
  plain_bytes = all-append is_plain ds (hex_digit (n % 16) ∷ []) s.plain_bytes (and_from (is_plain (hex_digit (n % 16))) true (hex-plain (n % 16) (omega arith)) refl);
  begun = starts-append ds (hex_digit (n % 16) ∷ []) s.begun;
}

-- the first number that has more hexadecimal digits
abbrev hex_limit : ℕ → ℕ
hex_limit zero = 1
hex_limit (suc places) = 16 * hex_limit places

hex-short : (places n : ℕ) → n < 16 → HexDigits n (hex_digits (suc places) n)
hex-short places n h =
    subst (HexDigits n) (sym (cond-true (nat_lt n 16) (hex_digit n ∷ []) (hex_digits places (n / 16) ++ hex_digit (n % 16) ∷ []) (lt-ltb n 16 h))) (hex-one n h)

hex-digits : (places n : ℕ) → n < hex_limit (suc places) → HexDigits n (hex_digits (suc places) n)
hex-digits zero n h = hex-short zero n h
hex-digits (suc places) n h = elim (cases_lt n 16) [
  | inl e ↦ hex-short (suc places) n e
  | inr e ↦
      subst (HexDigits n) (sym (cond-false (nat_lt n 16) (hex_digit n ∷ []) (hex_digits (suc places) (n / 16) ++ hex_digit (n % 16) ∷ []) (le-ltb n 16 e))) (hex-more n (hex_digits (suc places) (n / 16)) (hex-digits places (n / 16) (omega arith)))
]

hex-read : (n : ℕ) (ds : List ℕ) → HexDigits n ds → number (48 ∷ 120 ∷ ds) ≡ Some (Plus n)
hex-read n [] s = let e : starts [] ≡ true = s.begun in cc
hex-read n (c ∷ cs) s = ap plus s.value

-- a word, as it is listed behind .word
abbrev pub hex_text : ℕ → List ℕ
hex_text n = 48 ∷ 120 ∷ hex_digits 8 n

pub hex-sound : (n : ℕ) → n < 2 ^ 32 → Sound (hex_text n)
hex-sound n h =
    let s = hex-digits 7 n h in record { solid = all-weaken is_plain is_solid plain-solid (hex_text n) s.plain_bytes; starts_inked = refl }

pub hex-unsigned : (n : ℕ) → n < 2 ^ 32 → plain 0 0xffffffff (hex_text n) ≡ Ok n
hex-unsigned n h =
    ap (plain_of 0 0xffffffff) (hex-read n (hex_digits 8 n) (hex-digits 7 n h)) ∙ small-ranged 0 0xffffffff n (omega arith)
