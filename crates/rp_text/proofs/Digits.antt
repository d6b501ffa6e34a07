-- No blank stands in the text of a number.
use Rattle.std.proofs.Common.{◌≡◌, ℕ, ◌^◌, ◌<◌, ◌≤◌, true, List, [], ◌∷◌, decimal, refl, ap, arith}
use Rattle.std.specs.Char.{digit_value}
use Rattle.std.specs.Str.Parse.{AllDigits}
use Rattle.std.proofs.lemmas.Bool.Decides.{nat_tests}
use Rattle.cos_text.specs.Numbers.{hexadecimal, hex_text}
use Rattle.cos_text.proofs.Digits.{is-decimal, is-hex}
use Rattle.rp_text.specs.Words.{no_blank}

-- no digit is a blank
pub no_blank-cons : (c : ℕ) (cs : List ℕ) → (c ≡ 32 → ⊥) → no_blank cs ≡ true → no_blank (c ∷ cs) ≡ true
no_blank-cons c cs other rest = grind (arith, nat_tests)

no_blank-digits : (radix : ℕ) (ds : List ℕ) → radix ≤ 16 → AllDigits radix ds → no_blank ds ≡ true
no_blank-digits radix [] base all = refl
no_blank-digits radix (c ∷ cs) base all =
    let digit = all.0 in
    no_blank-cons c cs (λ e. let value : digit_value c ≡ 36 = ap digit_value e in omega (arith, value, digit)) (no_blank-digits radix cs base all.1)

pub no_blank-decimal : (n : ℕ) → n < 2 ^ 64 → no_blank (decimal n) ≡ true
no_blank-decimal n small = no_blank-digits 10 (decimal n) (omega arith) (is-decimal (decimal n) n small refl).all

pub no_blank-hex : (n : ℕ) → n < 2 ^ 64 → no_blank (hex_text n) ≡ true
no_blank-hex n small = no_blank-digits 16 (hexadecimal n) (omega arith) (is-hex (hex_text n) (hexadecimal n) n small refl refl).all
