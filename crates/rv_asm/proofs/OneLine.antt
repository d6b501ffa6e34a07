-- A text of one line that is a mnemonic and operands: its word is the word of these parts.
use Rattle.std.proofs.Common.{◌≡◌, ℕ, true, List, [], ◌∷◌, ◌++◌, map, Option, Some, None, Result, Ok, refl, ap, sym, subst, ◌∙◌}
use Rattle.std.proofs.lemmas.List.{append-nil}
use Rattle.rv_asm.specs.declared.fault.Cause.{Cause}
use Rattle.cos_text.specs.Lines.{before, after}
use Rattle.rv_asm.specs.Texts.{trim, between_commas, operands_in, rest_of_words}
use Rattle.rv_asm.specs.Programs.{Placed, placed, placed_from, program, content, label_before, statement_after}
use Rattle.rv_asm.specs.Readings.{◌>>=◌}
use Rattle.rv_asm.specs.Statements.{Assembled, Assembles, word_of_parts, word_of_statement, word_of_line}
use Rattle.rv_asm.proofs.Commas.{between_commas-step, others}
use Rattle.rv_asm.proofs.Scans.{all_are, all-append, all-weaken, differs, before-none, after-none, before-first, after-first, lines-one, first_word-all, rest_of_words-none, first_word-blank, rest_of_words-blank, starts, ends, starts-append, ends-cons, ends-append, trim-same, is_solid, is_inner, solid-inner, solid-comma, inner-feed, inner-comment, inner-colon, Sound, inked, sound-ends, sound-trim}

-- operands, each behind a comma and a blank
abbrev pub spaced : List (List ℕ) → List ℕ
spaced [] = []
spaced (t ∷ ts) = 44 ∷ 32 ∷ t ++ spaced ts

-- operands behind a mnemonic
abbrev pub behind : List (List ℕ) → List ℕ
behind [] = []
behind (t ∷ ts) = 32 ∷ t ++ spaced ts

abbrev pub AllSound : List (List ℕ) → Type 0
AllSound [] = Unit
AllSound (t ∷ ts) = Sound t × AllSound ts

inner : (t : List ℕ) → Sound t → all_are is_inner t ≡ true
inner t s = all-weaken is_solid is_inner solid-inner t s.solid

spaced-inner : (ts : List (List ℕ)) → AllSound ts → all_are is_inner (spaced ts) ≡ true
spaced-inner [] s = refl
spaced-inner (t ∷ ts) s = all-append is_inner t (spaced ts) (inner t s.0) (spaced-inner ts s.1)

behind-inner : (ts : List (List ℕ)) → AllSound ts → all_are is_inner (behind ts) ≡ true
behind-inner [] s = refl
behind-inner (t ∷ ts) s = all-append is_inner t (spaced ts) (inner t s.0) (spaced-inner ts s.1)

spaced-ends : (t : List ℕ) (ts : List (List ℕ)) → Sound t → AllSound ts → ends (t ++ spaced ts) ≡ true
spaced-ends t [] s more = ap ends (append-nil t) ∙ sound-ends t s
spaced-ends t (u ∷ us) s more =
    ends-append t (44 ∷ 32 ∷ u ++ spaced us) (ends-cons 44 (32 ∷ u ++ spaced us) (ends-cons 32 (u ++ spaced us) (spaced-ends u us more.0 more.1)))

behind-ends : (m : List ℕ) (ts : List (List ℕ)) → Sound m → AllSound ts → ends (m ++ behind ts) ≡ true
behind-ends m [] s more = ap ends (append-nil m) ∙ sound-ends m s
behind-ends m (t ∷ ts) s more =
    ends-append m (32 ∷ t ++ spaced ts) (ends-cons 32 (t ++ spaced ts) (spaced-ends t ts more.0 more.1))

-- the pieces between commas, and the operands that they are
pieces : (x : List ℕ) (ts : List (List ℕ)) → all_are (differs 44) x ≡ true → AllSound ts → between_commas (x ++ spaced ts) ≡ x ∷ map (λ t. 32 ∷ t) ts
pieces x [] h s =
    ap between_commas (append-nil x) ∙ between_commas-step x ∙ ap (λ b. b ∷ others (after 44 x)) (before-none 44 x h) ∙ ap (λ o. x ∷ others o) (after-none 44 x h)
pieces x (t ∷ ts) h s =
    let rest : List ℕ = 32 ∷ t ++ spaced ts in
    let all : List ℕ = x ++ 44 ∷ rest in
    between_commas-step all
    ∙ ap (λ b. b ∷ others (after 44 all)) (before-first 44 x rest h)
    ∙ ap (λ o. x ∷ others o) (after-first 44 x rest h)
    ∙ ap (λ ps. x ∷ ps) (pieces (32 ∷ t) ts (all-weaken is_solid (differs 44) solid-comma t s.0.solid) s.1)

trims : (ts : List (List ℕ)) → AllSound ts → map trim (map (λ t. 32 ∷ t) ts) ≡ ts
trims [] s = refl
trims (t ∷ ts) s = ap (λ x. x ∷ map trim (map (λ t. 32 ∷ t) ts)) (sound-trim t s.0) ∙ ap (λ xs. t ∷ xs) (trims ts s.1)

operands-at : (c : ℕ) (cs : List ℕ) (ts : List (List ℕ)) → Sound (c ∷ cs) → AllSound ts → operands_in (c ∷ cs ++ spaced ts) ≡ (c ∷ cs) ∷ ts
operands-at c cs ts s more =
    ap (map trim) (pieces (c ∷ cs) ts (all-weaken is_solid (differs 44) solid-comma (c ∷ cs) s.solid) more)
    ∙ ap (λ x. x ∷ map trim (map (λ t. 32 ∷ t) ts)) (sound-trim (c ∷ cs) s)
    ∙ ap (λ xs. (c ∷ cs) ∷ xs) (trims ts more)

operands-spaced : (t : List ℕ) (ts : List (List ℕ)) → Sound t → AllSound ts → operands_in (trim (32 ∷ t ++ spaced ts)) ≡ t ∷ ts
operands-spaced [] ts s more = let e : starts [] ≡ true = s.starts_inked in cc
operands-spaced (c ∷ cs) ts s more =
    ap operands_in (trim-same (c ∷ cs ++ spaced ts) s.starts_inked (spaced-ends (c ∷ cs) ts s more)) ∙ operands-at c cs ts s more

-- the words of the statement
statement-word : (m : List ℕ) (ts : List (List ℕ)) → Sound m → AllSound ts → (all : List Placed) (source : ℕ) → word_of_statement all source (m ++ behind ts) ≡ word_of_parts all source m ts
statement-word m [] s more all source =
    ap (word_of_statement all source) (append-nil m)
    ∙ ap (λ w. word_of_parts all source w (operands_in (trim (rest_of_words m)))) (first_word-all m (inked m s))
    ∙ ap (λ r. word_of_parts all source m (operands_in (trim r))) (rest_of_words-none m (inked m s))
statement-word m (t ∷ ts) s more all source =
    let rest : List ℕ = t ++ spaced ts in
    let text : List ℕ = m ++ 32 ∷ rest in
    ap (λ w. word_of_parts all source w (operands_in (trim (rest_of_words text)))) (first_word-blank m rest (inked m s))
    ∙ ap (λ r. word_of_parts all source m (operands_in (trim r))) (rest_of_words-blank m rest (inked m s))
    ∙ ap (word_of_parts all source m) (operands-spaced t ts more.0 more.1)

-- the line of the text
abbrev only : ℕ → List ℕ → Placed
only origin statement = record { number = 1; address = origin; label = None; statement = statement }

placed-only : (origin : ℕ) (text : List ℕ) → all_are (differs 58) text ≡ true → placed 1 origin text ≡ only origin text
placed-only origin text h =
    ap (λ o. record { number = 1; address = origin; label = label_before (before 58 text) o; statement = statement_after text (before 58 text) o }) (after-none 58 text h)

content-same : (text : List ℕ) → all_are is_inner text ≡ true → starts text ≡ true → ends text ≡ true → content text ≡ text
content-same text h begin end =
    ap trim (before-none 35 text (all-weaken is_inner (differs 35) inner-comment text h)) ∙ trim-same text begin end

program-only : (origin : ℕ) (text : List ℕ) → all_are is_inner text ≡ true → starts text ≡ true → ends text ≡ true → program origin (text ++ 10 ∷ []) ≡ only origin text ∷ []
unfolding program
program-only origin text h begin end =
    ap (placed_from 1 origin) (lines-one text (all-weaken is_inner (differs 10) inner-feed text h))
    ∙ ap (λ t. placed 1 origin t ∷ []) (content-same text h begin end)
    ∙ ap (λ p. p ∷ []) (placed-only origin text (all-weaken is_inner (differs 58) inner-colon text h))

abbrev found : ℕ → Result (Option ℕ) Cause
found word = Ok (Some word)

line-word : (m : List ℕ) (ts : List (List ℕ)) (word origin : ℕ) (all : List Placed) → Sound m → AllSound ts → word_of_parts all origin m ts ≡ Ok word → word_of_line all (only origin (m ++ behind ts)) ≡ Ok (Some word)
line-word [] ts word origin all s more e = let f : starts [] ≡ true = s.starts_inked in cc
line-word (c ∷ cs) ts word origin all s more e =
    ap (λ (r : Result ℕ Cause). r >>= found) (statement-word (c ∷ cs) ts s more all origin ∙ e)

pub one-line : (m : List ℕ) (ts : List (List ℕ)) (word origin : ℕ) → Sound m → AllSound ts → ((all : List Placed) → word_of_parts all origin m ts ≡ Ok word) → Assembled (program origin (m ++ behind ts ++ 10 ∷ [])) (Ok (word ∷ []))
one-line m ts word origin s more e =
    let text : List ℕ = m ++ behind ts in
    let all : List Placed = only origin text ∷ [] in
    let same : program origin (text ++ 10 ∷ []) ≡ all = program-only origin text (all-append is_inner m (behind ts) (inner m s) (behind-inner ts more)) (starts-append m (behind ts) s.starts_inked) (behind-ends m ts s more) in
    let P : List Placed → Type 0 = λ ps. Assembles ps ps (word ∷ []) in
    subst P (sym same) (Some word ∷ [], ap (λ r. r ∷ []) (line-word m ts word origin all s more (e all)), refl)
