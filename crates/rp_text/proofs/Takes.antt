-- What was taken of a line.
use Rattle.std.proofs.Common.{◌≡◌, ℕ, ◌^◌, ◌<◌, ◌≤◌, List, [], ◌∷◌, ◌++◌, drop, decimal, Option, Some, None, sym, ap, ◌∙◌, arith}
use Rattle.std.specs.Prelude.{unwrap_or}
use Rattle.cos_text.specs.Numbers.{hex_text}
use Rattle.rp_text.specs.Texts.{bytes_text, spaced}
use Rattle.rp_text.specs.Words.{first_word, rest_of_words}
use Rattle.rp_text.specs.Reading.{TakesWord, TakesNumber, TakesHex, TakesBytes}
use Rattle.rp_header.specs.Numbers.{AreBytes}
use Rattle.rp_text.proofs.Decoded.{no_blank-bytes, bytes-first}
use Rattle.rp_text.proofs.Cuts.{whole, cut-of}
use Rattle.rp_text.proofs.Digits.{no_blank-decimal, no_blank-hex}

abbrev inside-of : Option (List ℕ) → List ℕ
inside-of o = unwrap_or o []

pub some-same : (xs ys : List ℕ) → let P : Option (List ℕ) → Option (List ℕ) → Type 0 = λ a b. a ≡ b in P (Some xs) (Some ys) → xs ≡ ys
some-same xs ys e = ap inside-of e

pub takes-word : (old : Option (List ℕ)) (after front back : List ℕ) → old ≡ Some (32 ∷ after) → front ≡ first_word after → back ≡ rest_of_words after → TakesWord old (Some front) (Some back)
takes-word old after front back old_is front_is back_is = (
  λ more e. old_is ∙ ap (λ (x : List ℕ). Some (32 ∷ x)) (sym (whole after)) ∙ ap (λ (x : List ℕ). Some (32 ∷ (x ++ rest_of_words after))) (sym front_is)
      ∙ ap (λ (x : List ℕ). Some (32 ∷ (front ++ x))) (sym back_is ∙ some-same back more e),
  λ w ws none is.
      let same : after ≡ w ++ spaced ws = ap (drop 1) (some-same (32 ∷ after) (32 ∷ (w ++ spaced ws)) (sym old_is ∙ is)) in
      let cut = cut-of after w ws none same in
      (front_is ∙ cut.0, ap Some (back_is ∙ cut.1)),
)

pub takes-number : (most : ℕ) (old new : Option (List ℕ)) (word : List ℕ) (number : ℕ) → most < 2 ^ 64 → TakesWord old (Some word) new → number ≤ most → word ≡ decimal number → ((n : ℕ) → n ≤ most → word ≡ decimal n → number ≡ n) → TakesNumber most old new number
takes-number most old new word number limit takes small is only = record {
  small = small;
  read = λ more e. takes.0 more e ∙ ap (λ (x : List ℕ). Some (32 ∷ (x ++ more))) is;
  exact = λ n ws le e.
      let took = takes.1 (decimal n) ws (no_blank-decimal n (omega arith)) e in
      (only n le took.0, took.1);
}

pub refused-number : (most : ℕ) (old mid : Option (List ℕ)) (word : List ℕ) → most < 2 ^ 64 → TakesWord old (Some word) mid → ((n : ℕ) → n ≤ most → word ≡ decimal n → ⊥) → TakesNumber most old None 0
refused-number most old mid word limit takes never = record {
  small = omega arith;
  read = λ more e. absurd (cc (e));
  exact = λ n ws le e. absurd (never n le (takes.1 (decimal n) ws (no_blank-decimal n (omega arith)) e).0);
}

pub absent-number : (most : ℕ) (old new : Option (List ℕ)) → most < 2 ^ 64 → TakesWord old None new → TakesNumber most old new 0
absent-number most old new limit takes = record {
  small = omega arith;
  read = λ more e. absurd (cc (takes.0, e));
  exact = λ n ws le e. absurd (takes.1 (decimal n) ws (no_blank-decimal n (omega arith)) e);
}

pub takes-hex : (old new : Option (List ℕ)) (word : List ℕ) (number : ℕ) → TakesWord old (Some word) new → number < 2 ^ 64 → word ≡ hex_text number → ((n : ℕ) → n < 2 ^ 64 → word ≡ hex_text n → number ≡ n) → TakesHex old new number
takes-hex old new word number takes small is only = record {
  small = small;
  read = λ more e. takes.0 more e ∙ ap (λ (x : List ℕ). Some (32 ∷ (x ++ more))) is;
  exact = λ n ws fits e.
      let took = takes.1 (hex_text n) ws (no_blank-hex n fits) e in
      (only n fits took.0, took.1);
}

pub refused-hex : (old mid : Option (List ℕ)) (word : List ℕ) → TakesWord old (Some word) mid → ((n : ℕ) → n < 2 ^ 64 → word ≡ hex_text n → ⊥) → TakesHex old None 0
refused-hex old mid word takes never = record {
  small = omega arith;
  read = λ more e. absurd (cc (e));
  exact = λ n ws small e. absurd (never n small (takes.1 (hex_text n) ws (no_blank-hex n small) e).0);
}

pub absent-hex : (old new : Option (List ℕ)) → TakesWord old None new → TakesHex old new 0
absent-hex old new takes = record {
  small = omega arith;
  read = λ more e. absurd (cc (takes.0, e));
  exact = λ n ws small e. absurd (takes.1 (hex_text n) ws (no_blank-hex n small) e);
}

pub number-same : (m n : ℕ) → let P : Option ℕ → Option ℕ → Type 0 = λ a b. a ≡ b in P (Some m) (Some n) → m ≡ n
number-same m n e = cc (e)

pub takes-bytes : (old new : Option (List ℕ)) (word bytes : List ℕ) → TakesWord old (Some word) new → AreBytes bytes → word ≡ bytes_text bytes → ((bs : List ℕ) → AreBytes bs → word ≡ bytes_text bs → bytes ≡ bs) → TakesBytes old new bytes
takes-bytes old new word bytes takes each is only = record {
  each = each;
  read = λ more e. takes.0 more e ∙ ap (λ (x : List ℕ). Some (32 ∷ (x ++ more))) is;
  exact = λ bs ws all e.
      let took = takes.1 (bytes_text bs) ws (no_blank-bytes bs all) e in
      (only bs all took.0, took.1);
}

pub refused-bytes : (old mid : Option (List ℕ)) (word bytes : List ℕ) → bytes ≡ [] → TakesWord old (Some word) mid → ((bs : List ℕ) → AreBytes bs → word ≡ bytes_text bs → ⊥) → TakesBytes old None bytes
refused-bytes old mid word bytes none takes never = record {
  each = bytes-first bytes none;
  read = λ more e. absurd (cc (e));
  exact = λ bs ws all e. absurd (never bs all (takes.1 (bytes_text bs) ws (no_blank-bytes bs all) e).0);
}

pub absent-bytes : (old new : Option (List ℕ)) (bytes : List ℕ) → bytes ≡ [] → TakesWord old None new → TakesBytes old new bytes
absent-bytes old new bytes none takes = record {
  each = bytes-first bytes none;
  read = λ more e. absurd (cc (takes.0, e));
  exact = λ bs ws all e. absurd (takes.1 (bytes_text bs) ws (no_blank-bytes bs all) e);
}
