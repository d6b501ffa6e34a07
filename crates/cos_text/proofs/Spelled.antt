-- The number that a text spells, by what reading it answered.
use Rattle.std.proofs.Common.{◌≡◌, ℕ, ◌^◌, ◌<◌, ◌≤◌, ◌&&◌, Bool, true, false, nat_lt, if◌then◌else◌, List, drop, decimal, Option, Some, None, refl, sym, ap, ◌∙◌, arith}
use Rattle.std.specs.Prelude.{IfSome}
use Rattle.std.specs.Str.{bytes_eq}
use Rattle.std.specs.Str.Parse.{digits_value}
use Rattle.std.proofs.lemmas.Bool.{lt-ltb, ltb-true, and_parts, and_from}
use Rattle.std.proofs.lemmas.Slice.Eq.{bytes_eq-Decides}
use Rattle.cos_text.specs.Numbers.{hex_text, if_text}
use Rattle.cos_text.proofs.Digits.{is-decimal, is-hex}

if-true : (n : ℕ) (b : Bool) → b ≡ true → Some n ≡ (if b then Some n else None)
if-true n true e = refl
if-true n false e = absurd (cc)

if-false : (n : ℕ) (b : Bool) → (b ≡ true → ⊥) → None ≡ (if b then Some n else None)
if-false n true never = absurd (never refl)
if-false n false never = refl

-- A number was read from its text, and where none was read the text is none's.
read-is : (text_of : ℕ → List ℕ) (text : List ℕ) (value : ℕ) (r : Option ℕ) → ((n : ℕ) → n < 2 ^ 64 → text ≡ text_of n → value ≡ n)
    → IfSome r (λ n. (n < 2 ^ 64) × (text ≡ text_of n)) → ((n : ℕ) → n < 2 ^ 64 → text ≡ text_of n → r ≡ Some n) → r ≡ if_text text_of text value
read-is text_of text value (Some n) back some exact =
    if-true n (nat_lt n (2 ^ 64) && bytes_eq (text_of n) text) (and_from (nat_lt n (2 ^ 64)) (bytes_eq (text_of n) text) (lt-ltb n (2 ^ 64) some.0) ((bytes_eq-Decides (text_of n) text).1 (sym some.1)))
    ∙ ap (if_text text_of text) (sym (back n some.0 some.1))
read-is text_of text value None back some exact =
    if-false value (nat_lt value (2 ^ 64) && bytes_eq (text_of value) text) (λ e.
    let both = and_parts (nat_lt value (2 ^ 64)) (bytes_eq (text_of value) text) e in
    let read = exact value (ltb-true value (2 ^ 64) both.0) (sym ((bytes_eq-Decides (text_of value) text).0 both.1)) in cc)

within : (text : List ℕ) (r : Option ℕ) → IfSome r (λ n. (n ≤ 18446744073709551615) × (text ≡ decimal n)) → IfSome r (λ n. (n < 2 ^ 64) × (text ≡ decimal n))
within text (Some n) some = (omega (arith, some.0), some.1)
within text None some = tt

pub decimal-is : (text : List ℕ) (r : Option ℕ) → IfSome r (λ n. (n ≤ 18446744073709551615) × (text ≡ decimal n)) → ((n : ℕ) → n ≤ 18446744073709551615 → text ≡ decimal n → r ≡ Some n) → r ≡ if_text decimal text (digits_value 10 text)
decimal-is text r some exact = read-is decimal text (digits_value 10 text) r (λ n small e. (is-decimal text n small e).value) (within text r some) (λ n small e. exact n (omega arith) e)

pub hexadecimal-is : (text : List ℕ) (r : Option ℕ) → IfSome r (λ n. (n < 2 ^ 64) × (text ≡ hex_text n)) → ((n : ℕ) → n < 2 ^ 64 → text ≡ hex_text n → r ≡ Some n) → r ≡ if_text hex_text text (digits_value 16 (drop 2 text))
hexadecimal-is text r some exact = read-is hex_text text (digits_value 16 (drop 2 text)) r (λ n small e. (is-hex text (drop 2 text) n small e refl).value) some exact
