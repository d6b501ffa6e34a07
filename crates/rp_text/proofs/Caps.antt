-- The capabilities of a hello, taken one by one.
use Rattle.std.proofs.Common.{◌≡◌, ℕ, suc, ◌^◌, ◌<◌, List, [], ◌∷◌, ◌++◌, map, decimal, Option, Some, None, refl, sym, ap, ◌∙◌, subst, arith, append_assoc, length-append, zero, Bool, true, false}
use Rattle.std.specs.Prelude.{slice_index}
use Rattle.std.proofs.lemmas.List.{append-nil}
use Rattle.rp_control.specs.Controls.{AreWords}
use Rattle.rp_text.specs.Texts.{spaced}
use Rattle.rp_text.specs.Words.{left}
use Rattle.rp_text.specs.Reading.{TakesNumber, TakesCaps}

-- Numbers that are left behind others: where all stood there, these do.
pub record CapsLeft (all done : List ℕ) (rest : Option (List ℕ)) : Type 0 where
  pub left : List ℕ
  pub front : all ≡ done ++ left
  pub text : rest ≡ Some (spaced (map decimal left))
  pub words : AreWords left

words-nil : AreWords []
words-nil = record { each = λ i. omega arith }

words-cons : (n : ℕ) (ns : List ℕ) → n < 2 ^ 32 → AreWords ns → AreWords (n ∷ ns)
words-cons n ns small rest = record { each = each-cons n ns small rest.each }
  where
    each-cons : (n : ℕ) (ns : List ℕ) → n < 2 ^ 32 → ((i : ℕ) → slice_index ns i < 2 ^ 32) → (i : ℕ) → slice_index (n ∷ ns) i < 2 ^ 32
    each-cons n ns small rest zero = small
    each-cons n ns small rest (suc i) = rest i

pub words-tail : (n : ℕ) (ns : List ℕ) → AreWords (n ∷ ns) → AreWords ns
words-tail n ns words = record { each = λ i. words.each (suc i) }

words-append : (ms ns : List ℕ) → AreWords ms → AreWords ns → AreWords (ms ++ ns)
words-append [] ns left right = right
words-append (m ∷ ms) ns left right = words-cons m (ms ++ ns) (left.each 0) (words-append ms ns (words-tail m ms left) right)

spaced-snoc : (ns : List ℕ) (n : ℕ) (more : List ℕ) → spaced (map decimal ns) ++ (32 ∷ (decimal n ++ more)) ≡ spaced (map decimal (ns ++ n ∷ [])) ++ more
spaced-snoc [] n more = ap (λ (x : List ℕ). 32 ∷ (x ++ more)) (sym (append-nil (decimal n)))
spaced-snoc (m ∷ ms) n more =
    ap (λ (x : List ℕ). 32 ∷ x) (append_assoc (decimal m) (spaced (map decimal ms)) (32 ∷ (decimal n ++ more)))
    ∙ ap (λ (x : List ℕ). 32 ∷ (decimal m ++ x)) (spaced-snoc ms n more)
    ∙ ap (λ (x : List ℕ). 32 ∷ x) (sym (append_assoc (decimal m) (spaced (map decimal (ms ++ n ∷ []))) more))

pub caps-first : (caps : List ℕ) → caps ≡ [] → AreWords caps
caps-first caps none = subst (λ (x : List ℕ). AreWords x) (sym none) words-nil

pub caps-read-first : (start : Option (List ℕ)) (caps : List ℕ) → caps ≡ [] → (more : List ℕ) → start ≡ Some more → start ≡ Some (spaced (map decimal caps) ++ more)
caps-read-first start caps none more is = is ∙ ap (λ (x : List ℕ). Some (spaced (map decimal x) ++ more)) (sym none)

pub caps-left-first : (start : Option (List ℕ)) (caps ns : List ℕ) → caps ≡ [] → AreWords ns → start ≡ Some (spaced (map decimal ns)) → CapsLeft ns caps start
caps-left-first start caps ns none words is = record { left = ns; front = ap (λ (x : List ℕ). x ++ ns) (sym none); text = is; words = words }

pub caps-more : (old new : Option (List ℕ)) (caps next : List ℕ) (cap : ℕ) → TakesNumber 4294967295 old new cap → next ≡ caps ++ cap ∷ [] → AreWords caps → AreWords next
caps-more old new caps next cap takes is words =
    let small = takes.small in
    subst (λ (x : List ℕ). AreWords x) (sym is) (words-append caps (cap ∷ []) words (words-cons cap [] (omega arith) words-nil))

pub caps-read-more : (start old new : Option (List ℕ)) (caps next : List ℕ) (cap : ℕ) → TakesNumber 4294967295 old new cap → next ≡ caps ++ cap ∷ []
    → ((more : List ℕ) → old ≡ Some more → start ≡ Some (spaced (map decimal caps) ++ more)) → (more : List ℕ) → new ≡ Some more → start ≡ Some (spaced (map decimal next) ++ more)
caps-read-more start old new caps next cap takes is read more e =
    read (32 ∷ (decimal cap ++ more)) (takes.read more e) ∙ ap (λ (x : List ℕ). Some x) (spaced-snoc caps cap more)
    ∙ ap (λ (x : List ℕ). Some (spaced (map decimal x) ++ more)) (sym is)

left-at : (all caps next ns : List ℕ) (old new : Option (List ℕ)) (cap : ℕ) → TakesNumber 4294967295 old new cap → next ≡ caps ++ cap ∷ [] → 0 < left old
    → all ≡ caps ++ ns → old ≡ Some (spaced (map decimal ns)) → AreWords ns → CapsLeft all next new
left-at all caps next [] old new cap takes is some front text words = let none = ap left text in absurd (omega (arith, none))
left-at all caps next (n ∷ ns) old new cap takes is some front text words =
    let small = words.each 0 in
    let took = takes.exact n (map decimal ns) (omega arith) text in
    record {
      left = ns;
      front = front ∙ sym (append_assoc caps (n ∷ []) ns) ∙ ap (λ (x : ℕ). (caps ++ x ∷ []) ++ ns) (sym took.0) ∙ ap (λ (x : List ℕ). x ++ ns) (sym is);
      text = took.1;
      words = words-tail n ns words;
    }

pub caps-left-more : (all caps next : List ℕ) (old new : Option (List ℕ)) (cap : ℕ) → TakesNumber 4294967295 old new cap → next ≡ caps ++ cap ∷ [] → 0 < left old → CapsLeft all caps old → CapsLeft all next new
caps-left-more all caps next old new cap takes is some before =
    left-at all caps next before.left old new cap takes is some before.front before.text before.words

smaller-at : (old new : Option (List ℕ)) (number : ℕ) → ((more : List ℕ) → new ≡ Some more → old ≡ Some (32 ∷ (decimal number ++ more))) → 0 < left old → left new < left old
smaller-at old None number read some = some
smaller-at old (Some more) number read some =
    let size = ap left (read more refl) in omega (arith, size, length-append (decimal number) more)

pub caps-smaller : (old new : Option (List ℕ)) (most number : ℕ) → TakesNumber most old new number → 0 < left old → left new < left old
caps-smaller old new most number takes some = smaller-at old new number takes.read some

nothing-left : (ns : List ℕ) → left (Some (spaced (map decimal ns))) ≡ 0 → ns ≡ []
nothing-left [] none = refl
nothing-left (n ∷ ns) none = absurd (omega (arith, none))

pub caps-all : (start end : Option (List ℕ)) (caps : List ℕ) → AreWords caps → ((more : List ℕ) → end ≡ Some more → start ≡ Some (spaced (map decimal caps) ++ more))
    → ((ns : List ℕ) → AreWords ns → start ≡ Some (spaced (map decimal ns)) → CapsLeft ns caps end) → left end ≡ 0 → TakesCaps start end caps
caps-all start end caps each read all none = record {
  each = each;
  read = λ e. read [] e ∙ ap (λ (x : List ℕ). Some x) (append-nil (spaced (map decimal caps)));
  exact = λ ns words is.
      let rest = all ns words is in
      let empty = nothing-left rest.left (sym (ap left rest.text) ∙ none) in
      (sym (rest.front ∙ ap (λ (x : List ℕ). caps ++ x) empty ∙ append-nil caps), rest.text ∙ ap (λ (x : List ℕ). Some (spaced (map decimal x))) empty);
}

pub none-left : (n : ℕ) (b : Bool) → (0 < n → b ≡ true) → b ≡ false → n ≡ 0
none-left zero b some none = refl
none-left (suc n) b some none = absurd (cc (none, some (omega arith)))
