-- Texts all of whose bytes pass a test, and what is cut from them.
use Rattle.std.proofs.Common.{◌≡◌, ℕ, ◌≤◌, ◌==◌, ◌&&◌, Bool, true, false, List, [], ◌∷◌, ◌++◌, Some, None, nat_le, not, length, refl, ap, ◌∙◌, arith}
use Rattle.std.proofs.lemmas.Bool.{and_parts, and_from, not-true, cond-true, cond-false, eq-eqb}
use Rattle.std.proofs.lemmas.Bool.Decides.{nat_tests}
use Rattle.cos_text.specs.Lines.{lines, before, after}
use Rattle.rv_asm.specs.Texts.{is_blank, first_word, rest_of_words, trim, trim_start, trim_end, onto_trimmed}
use Rattle.cos_text.proofs.LineSteps.{lines-with}

abbrev pub all_are : (ℕ → Bool) → List ℕ → Bool
all_are p [] = true
all_are p (c ∷ cs) = p c && all_are p cs

pub all-append : (p : ℕ → Bool) (xs ys : List ℕ) → all_are p xs ≡ true → all_are p ys ≡ true → all_are p (xs ++ ys) ≡ true
all-append p [] ys h k = k
all-append p (c ∷ cs) ys h k =
    let both = and_parts (p c) (all_are p cs) h in and_from (p c) (all_are p (cs ++ ys)) both.0 (all-append p cs ys both.1 k)

pub all-weaken : (p q : ℕ → Bool) → ((c : ℕ) → p c ≡ true → q c ≡ true) → (xs : List ℕ) → all_are p xs ≡ true → all_are q xs ≡ true
all-weaken p q w [] h = refl
all-weaken p q w (c ∷ cs) h =
    let both = and_parts (p c) (all_are p cs) h in and_from (q c) (all_are q cs) (w c both.0) (all-weaken p q w cs both.1)

-- another byte than this value
abbrev pub differs : ℕ → ℕ → Bool
differs value c = not (c == value)

pub before-none : (v : ℕ) (xs : List ℕ) → all_are (differs v) xs ≡ true → before v xs ≡ xs
before-none v [] h = refl
before-none v (c ∷ cs) h =
    let both = and_parts (differs v c) (all_are (differs v) cs) h in
    cond-false (c == v) [] (c ∷ before v cs) (not-true (c == v) both.0) ∙ ap (λ xs. c ∷ xs) (before-none v cs both.1)

pub after-none : (v : ℕ) (xs : List ℕ) → all_are (differs v) xs ≡ true → after v xs ≡ None
after-none v [] h = refl
after-none v (c ∷ cs) h =
    let both = and_parts (differs v c) (all_are (differs v) cs) h in
    cond-false (c == v) (Some cs) (after v cs) (not-true (c == v) both.0) ∙ after-none v cs both.1

pub before-first : (v : ℕ) (xs ys : List ℕ) → all_are (differs v) xs ≡ true → before v (xs ++ v ∷ ys) ≡ xs
before-first v [] ys h = cond-true (v == v) [] (v ∷ before v ys) (eq-eqb v v refl)
before-first v (c ∷ cs) ys h =
    let both = and_parts (differs v c) (all_are (differs v) cs) h in
    cond-false (c == v) [] (c ∷ before v (cs ++ v ∷ ys)) (not-true (c == v) both.0) ∙ ap (λ xs. c ∷ xs) (before-first v cs ys both.1)

pub after-first : (v : ℕ) (xs ys : List ℕ) → all_are (differs v) xs ≡ true → after v (xs ++ v ∷ ys) ≡ Some ys
after-first v [] ys h = cond-true (v == v) (Some ys) (after v ys) (eq-eqb v v refl)
after-first v (c ∷ cs) ys h =
    let both = and_parts (differs v c) (all_are (differs v) cs) h in
    cond-false (c == v) (Some (cs ++ v ∷ ys)) (after v (cs ++ v ∷ ys)) (not-true (c == v) both.0) ∙ after-first v cs ys both.1

length-push : (xs : List ℕ) → 1 ≤ length (xs ++ 10 ∷ [])
length-push [] = omega arith
length-push (c ∷ cs) = omega arith

-- a text with no line feed in it, behind which one stands
pub lines-one : (xs : List ℕ) → all_are (differs 10) xs ≡ true → lines (xs ++ 10 ∷ []) ≡ xs ∷ []
lines-one xs h =
    lines-with (xs ++ 10 ∷ []) [] (length-push xs) (after-first 10 xs [] h) ∙ ap (λ x. x ∷ []) (before-first 10 xs [] h)

-- no blank
abbrev pub is_inked : ℕ → Bool
is_inked c = not (is_blank c)

pub first_word-all : (xs : List ℕ) → all_are is_inked xs ≡ true → first_word xs ≡ xs
first_word-all [] h = refl
first_word-all (c ∷ cs) h =
    let both = and_parts (is_inked c) (all_are is_inked cs) h in
    cond-false (is_blank c) [] (c ∷ first_word cs) (not-true (is_blank c) both.0) ∙ ap (λ xs. c ∷ xs) (first_word-all cs both.1)

pub rest_of_words-none : (xs : List ℕ) → all_are is_inked xs ≡ true → rest_of_words xs ≡ []
rest_of_words-none [] h = refl
rest_of_words-none (c ∷ cs) h =
    let both = and_parts (is_inked c) (all_are is_inked cs) h in
    cond-false (is_blank c) (c ∷ cs) (rest_of_words cs) (not-true (is_blank c) both.0) ∙ rest_of_words-none cs both.1

pub first_word-blank : (xs ys : List ℕ) → all_are is_inked xs ≡ true → first_word (xs ++ 32 ∷ ys) ≡ xs
first_word-blank [] ys h = refl
first_word-blank (c ∷ cs) ys h =
    let both = and_parts (is_inked c) (all_are is_inked cs) h in
    cond-false (is_blank c) [] (c ∷ first_word (cs ++ 32 ∷ ys)) (not-true (is_blank c) both.0) ∙ ap (λ xs. c ∷ xs) (first_word-blank cs ys both.1)

pub rest_of_words-blank : (xs ys : List ℕ) → all_are is_inked xs ≡ true → rest_of_words (xs ++ 32 ∷ ys) ≡ 32 ∷ ys
rest_of_words-blank [] ys h = refl
rest_of_words-blank (c ∷ cs) ys h =
    let both = and_parts (is_inked c) (all_are is_inked cs) h in
    cond-false (is_blank c) (c ∷ cs ++ 32 ∷ ys) (rest_of_words (cs ++ 32 ∷ ys)) (not-true (is_blank c) both.0) ∙ rest_of_words-blank cs ys both.1

-- the first byte is no blank, and the last one is none
abbrev pub starts : List ℕ → Bool
starts [] = false
starts (c ∷ cs) = is_inked c

abbrev pub ends : List ℕ → Bool
ends [] = false
ends (c ∷ []) = is_inked c
ends (c ∷ d ∷ ds) = ends (d ∷ ds)

pub starts-append : (xs ys : List ℕ) → starts xs ≡ true → starts (xs ++ ys) ≡ true
starts-append [] ys h = cc
starts-append (c ∷ cs) ys h = h

pub ends-cons : (c : ℕ) (xs : List ℕ) → ends xs ≡ true → ends (c ∷ xs) ≡ true
ends-cons c [] h = cc
ends-cons c (d ∷ ds) h = h

pub ends-append : (xs ys : List ℕ) → ends ys ≡ true → ends (xs ++ ys) ≡ true
ends-append [] ys h = h
ends-append (c ∷ cs) ys h = ends-cons c (cs ++ ys) (ends-append cs ys h)

trim_start-same : (xs : List ℕ) → starts xs ≡ true → trim_start xs ≡ xs
trim_start-same [] h = cc
trim_start-same (c ∷ cs) h = cond-false (is_blank c) (trim_start cs) (c ∷ cs) (not-true (is_blank c) h)

trim_end-same : (xs : List ℕ) → ends xs ≡ true → trim_end xs ≡ xs
trim_end-same [] h = cc
trim_end-same (c ∷ []) h = cond-false (is_blank c) [] (c ∷ []) (not-true (is_blank c) h)
trim_end-same (c ∷ d ∷ ds) h = ap (onto_trimmed c) (trim_end-same (d ∷ ds) h)

pub trim-same : (xs : List ℕ) → starts xs ≡ true → ends xs ≡ true → trim xs ≡ xs
trim-same xs h k = ap trim_end (trim_start-same xs h) ∙ trim_end-same xs k

-- a byte that stands in operands: from the opening parenthesis on, but no comma and no colon
abbrev pub is_solid : ℕ → Bool
is_solid c = nat_le 40 c && not (c == 44) && not (c == 58)

-- a byte that stands in names and numbers: from the minus sign on, but no colon
abbrev pub is_plain : ℕ → Bool
is_plain c = nat_le 45 c && not (c == 58)

-- a byte that ends neither a line nor what comes before a comment or a colon
abbrev pub is_inner : ℕ → Bool
is_inner c = not (c == 10) && not (c == 35) && not (c == 58)

pub solid-inked : (c : ℕ) → is_solid c ≡ true → is_inked c ≡ true
solid-inked c h = grind (arith, nat_tests)

pub solid-inner : (c : ℕ) → is_solid c ≡ true → is_inner c ≡ true
solid-inner c h = grind (arith, nat_tests)

pub solid-comma : (c : ℕ) → is_solid c ≡ true → differs 44 c ≡ true
solid-comma c h = grind (arith, nat_tests)

pub plain-solid : (c : ℕ) → is_plain c ≡ true → is_solid c ≡ true
plain-solid c h = grind (arith, nat_tests)

pub plain-opening : (c : ℕ) → is_plain c ≡ true → differs 40 c ≡ true
plain-opening c h = grind (arith, nat_tests)

pub plain-closing : (c : ℕ) → is_plain c ≡ true → differs 41 c ≡ true
plain-closing c h = grind (arith, nat_tests)

pub inner-feed : (c : ℕ) → is_inner c ≡ true → differs 10 c ≡ true
inner-feed c h = grind (arith, nat_tests)

pub inner-comment : (c : ℕ) → is_inner c ≡ true → differs 35 c ≡ true
inner-comment c h = grind (arith, nat_tests)

pub inner-colon : (c : ℕ) → is_inner c ≡ true → differs 58 c ≡ true
inner-colon c h = grind (arith, nat_tests)

-- a text of such bytes that isn't empty
pub record Sound (text : List ℕ) : Type 0 where
  pub solid : all_are is_solid text ≡ true
  pub starts_inked : starts text ≡ true

ends-inked : (xs : List ℕ) → starts xs ≡ true → all_are is_inked xs ≡ true → ends xs ≡ true
ends-inked [] h k = h
ends-inked (c ∷ []) h k = h
ends-inked (c ∷ d ∷ ds) h k =
    let both = and_parts (is_inked c) (all_are is_inked (d ∷ ds)) k in
    ends-inked (d ∷ ds) (and_parts (is_inked d) (all_are is_inked ds) both.1).0 both.1

pub inked : (text : List ℕ) → Sound text → all_are is_inked text ≡ true
inked text s = all-weaken is_solid is_inked solid-inked text s.solid

pub sound-ends : (text : List ℕ) → Sound text → ends text ≡ true
sound-ends text s = ends-inked text s.starts_inked (inked text s)

pub sound-trim : (text : List ℕ) → Sound text → trim text ≡ text
sound-trim text s = trim-same text s.starts_inked (sound-ends text s)
