-- The parts of a text round a byte.
use Rattle.std.proofs.Common.{◌≡◌, ◌==◌, ℕ, zero, suc, ◌+◌, ◌<◌, Bool, true, false, List, [], ◌∷◌, length, get_or, take, drop, Option, Some, None, cond, if◌then◌else◌, refl, ap, ◌∙◌, arith}
use Rattle.std.specs.List.{onto_first}
use Rattle.std.proofs.lemmas.List.Splits.{slice_split-cons_yes, slice_split-cons_no}
use Rattle.std.proofs.lemmas.Bool.{ne_eqb, eq-eqb}
use Rattle.std.specs.Str.{bytes_eq}
use Rattle.std.specs.Prelude.{codes}
use Rattle.cos_text.specs.Numbers.{number}
use Rattle.cos_script.specs.Scripts.{parts, words, both, numbers, read_step, write_step, wait_step, named_step}

-- up to a place none is the byte, which stands there
pub parts-at : (value : ℕ) (text : List ℕ) (i : ℕ) → i < length text → ((k : ℕ) → k < i → get_or text k 0 ≡ value → ⊥) → get_or text i 0 ≡ value → parts value text ≡ take i text ∷ parts value (drop (i + 1) text)
parts-at value [] i within none is = absurd (omega arith)
parts-at value (c ∷ cs) zero within none is = slice_split-cons_yes (λ x. x == value) c cs (eq-eqb c value is)
parts-at value (c ∷ cs) (suc i) within none is =
    slice_split-cons_no (λ x. x == value) c cs (ne_eqb c value (none 0 (omega arith)))
    ∙ ap (onto_first c) (parts-at value cs i (omega arith) (λ k h. none (suc k) (omega arith)) is)
    ∙ ap (λ n. (c ∷ take i cs) ∷ parts value (drop n (c ∷ cs))) one
  where
    one : suc (i + 1) ≡ suc i + 1
    one = omega arith

pub parts-none : (value : ℕ) (text : List ℕ) → ((k : ℕ) → k < length text → get_or text k 0 ≡ value → ⊥) → parts value text ≡ text ∷ []
parts-none value [] none = refl
parts-none value (c ∷ cs) none = slice_split-cons_no (λ x. x == value) c cs (ne_eqb c value (none 0 (omega arith))) ∙ ap (onto_first c) (parts-none value cs (λ k h. none (suc k) (omega arith)))

-- The numbers of words, word by word.

pub parts-some : (value : ℕ) (text : List ℕ) → (first : List ℕ) × (rest : List (List ℕ)) × (parts value text ≡ first ∷ rest)
parts-some value [] = ([], [], refl)
parts-some value (c ∷ cs) = by (c == value) (parts-some value cs)
  where
    by : (b : Bool) → ((first : List ℕ) × (rest : List (List ℕ)) × (parts value cs ≡ first ∷ rest)) → (first : List ℕ) × (rest : List (List ℕ)) × (cond b ([] ∷ parts value cs) (onto_first c (parts value cs)) ≡ first ∷ rest)
    by true more = ([], parts value cs, refl)
    by false more = (c ∷ more.0, more.1, ap (onto_first c) more.2)

pub numbers-none : (text : List ℕ) → numbers 0 (words text) ≡ None
numbers-none text = (let some = parts-some 32 text in ap (numbers 0) some.2)

both-none : (o : Option ℕ) → both o None ≡ None
both-none None = refl
both-none (Some n) = refl

-- one word, and no other
pub one-more : (text rest : List ℕ) (word : List ℕ) → words text ≡ word ∷ words rest → numbers 1 (words text) ≡ None
one-more text rest word e = ap (numbers 1) e ∙ ap (both (number word)) (numbers-none rest) ∙ both-none (number word)

-- a name without words has no step
pub named-none : (ports : ℕ) (name : List ℕ) → named_step ports name [] ≡ None
named-none ports name = by (bytes_eq name (codes "read")) (bytes_eq name (codes "write")) (bytes_eq name (codes "post")) (bytes_eq name (codes "wait"))
  where
    by : (a b c d : Bool) → (if a then read_step ports (numbers 3 []) else if b then write_step ports false (numbers 4 []) else if c then write_step ports true (numbers 4 []) else if d then wait_step (numbers 1 []) else None) ≡ None
    by true b c d = refl
    by false true c d = refl
    by false false true d = refl
    by false false false true = refl
    by false false false false = refl
