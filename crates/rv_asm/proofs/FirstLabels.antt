-- What the first line with a label is, as lines are added.
use Rattle.std.proofs.Common.{◌≡◌, ℕ, Bool, true, false, List, [], ◌∷◌, ◌++◌, Option, Some, None, is_some, cond, refl, ap, sym, ◌∙◌, append_assoc, Bor, option_copied}
use Rattle.std.proofs.lemmas.Slice.Eq.{bytes_eq-Decides}
use Rattle.std.specs.Str.{bytes_eq}
use Rattle.rv_asm.specs.declared.labels.Place.{Place}
use Rattle.rv_asm.specs.Programs.{Placed, chosen, first_with}
use Rattle.rv_asm.specs.Places.{place_of}

abbrev later : Option Placed → Option Placed → Option Placed
later None other = other
later (Some line) other = Some line

later-none : (o : Option Placed) → later o None ≡ o
later-none None = refl
later-none (Some line) = refl

chosen-later-at : (b : Bool) (line : Placed) (one other : Option Placed) → cond b (Some line) (later one other) ≡ later (cond b (Some line) one) other
chosen-later-at true line one other = refl
chosen-later-at false line one other = refl

chosen-later : (name : List ℕ) (label : Option (List ℕ)) (line : Placed) (one other : Option Placed) → chosen name label line (later one other) ≡ later (chosen name label line one) other
chosen-later name None line one other = refl
chosen-later name (Some l) line one other = chosen-later-at (bytes_eq l name) line one other

first_with-push : (name : List ℕ) (passed : List Placed) (line : Placed) → first_with name (passed ++ line ∷ []) ≡ later (first_with name passed) (chosen name line.label line None)
first_with-push name [] line = refl
first_with-push name (x ∷ xs) line = ap (chosen name x.label x) (first_with-push name xs line) ∙ chosen-later name x.label x (first_with name xs) (chosen name line.label line None)

-- a line without a label
pub first_with-unlabelled : (name : List ℕ) (passed : List Placed) (line : Placed) → line.label ≡ None → first_with name (passed ++ line ∷ []) ≡ first_with name passed
first_with-unlabelled name passed line e =
    first_with-push name passed line ∙ ap (λ o. later (first_with name passed) (chosen name o line None)) e ∙ later-none (first_with name passed)

first_with-labelled : (name key : List ℕ) (passed : List Placed) (line : Placed) → line.label ≡ Some key → first_with name (passed ++ line ∷ []) ≡ later (first_with name passed) (cond (bytes_eq key name) (Some line) None)
first_with-labelled name key passed line e =
    first_with-push name passed line ∙ ap (λ o. later (first_with name passed) (chosen name o line None)) e

same_bytes : (a b : List ℕ) → bytes_eq a b ≡ true → a ≡ b
same_bytes a b h = (bytes_eq-Decides a b).0 h

none-from_place : (o : Option Placed) → place_of o ≡ None → o ≡ None
none-from_place None e = refl
none-from_place (Some line) e = cc

stays-at : (b : Bool) (o : Option Placed) (line : Placed) → (b ≡ true → is_some (place_of o) ≡ true) → later o (cond b (Some line) None) ≡ o
stays-at b (Some x) line h = refl
stays-at false None line h = refl
stays-at true None line h = let e : is_some (place_of None) ≡ true = h refl in cc

-- a line whose label was given before
pub first_with-again : (name key : List ℕ) (passed : List Placed) (line : Placed) → line.label ≡ Some key → is_some (place_of (first_with key passed)) ≡ true → first_with name (passed ++ line ∷ []) ≡ first_with name passed
first_with-again name key passed line e given =
    first_with-labelled name key passed line e ∙ stays-at (bytes_eq key name) (first_with name passed) line (λ h. ap (λ n. is_some (place_of (first_with n passed))) (sym (same_bytes key name h)) ∙ given)

enters-at : (b : Bool) (o : Option Placed) (line : Placed) → (b ≡ true → o ≡ None) → cond b (place_of (Some line)) (place_of o) ≡ place_of (later o (cond b (Some line) None))
enters-at true o line h = ap (λ x. place_of (later x (Some line))) (sym (h refl))
enters-at false o line h = ap place_of (sym (later-none o))

-- a line whose label is new
pub first_with-entered : (name key : List ℕ) (passed : List Placed) (line : Placed) → line.label ≡ Some key → place_of (first_with key passed) ≡ None → cond (bytes_eq key name) (place_of (Some line)) (place_of (first_with name passed)) ≡ place_of (first_with name (passed ++ line ∷ []))
first_with-entered name key passed line e absent =
    enters-at (bytes_eq key name) (first_with name passed) line (λ h. ap (λ n. first_with n passed) (sym (same_bytes key name h)) ∙ none-from_place (first_with key passed) absent)
    ∙ ap place_of (sym (first_with-labelled name key passed line e))

pub moved : (all passed : List Placed) (line : Placed) (before after : List Placed) → all ≡ passed ++ before → before ≡ line ∷ after → all ≡ (passed ++ line ∷ []) ++ after
moved all passed line before after e f = e ∙ ap (λ x. passed ++ x) f ∙ sym (append_assoc passed (line ∷ []) after)

-- a look-up that found something, and one that found nothing
pub found-copied : (o : Option (Bor Place)) (p : Option Place) → option_copied o ≡ p → is_some o ≡ true → is_some p ≡ true
found-copied None p e h = cc
found-copied (Some x) p e h = ap is_some (sym e)

pub absent-copied : (o : Option (Bor Place)) (p : Option Place) → option_copied o ≡ p → is_some o ≡ false → p ≡ None
absent-copied None p e h = sym e
absent-copied (Some x) p e h = cc
