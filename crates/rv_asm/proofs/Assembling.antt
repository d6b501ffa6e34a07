-- Lines that are sound, and one more.
use Rattle.std.proofs.Common.{◌≡◌, ℕ, List, [], ◌∷◌, ◌++◌, map, Option, Some, None, option_to_list, Result, Ok, refl, ap, sym, ◌∙◌}
use Rattle.std.specs.List.{flat_map}
use Rattle.std.proofs.lemmas.List.{map-append}
use Rattle.std.proofs.lemmas.Grind.{flat_map-append}
use Rattle.rv_asm.specs.declared.fault.Cause.{Cause}
use Rattle.rv_asm.specs.Programs.{Placed}
use Rattle.rv_asm.specs.Statements.{Assembles, word_of_line}

abbrev sound : Option ℕ → Result (Option ℕ) Cause
sound o = Ok o

one-word : (o : Option ℕ) → option_to_list o ≡ flat_map option_to_list (o ∷ [])
one-word None = refl
one-word (Some word) = refl

pub without-word : (words : List ℕ) → words ≡ words ++ option_to_list None
without-word [] = refl
without-word (w ∷ ws) = ap (λ xs. w ∷ xs) (without-word ws)

pub assembles-push : (lines some : List Placed) (line : Placed) (words more : List ℕ) (o : Option ℕ) → Assembles lines some words → word_of_line lines line ≡ Ok o → more ≡ words ++ option_to_list o → Assembles lines (some ++ line ∷ []) more
assembles-push lines some line words more o h e f = (
  h.0 ++ o ∷ [],
  map-append (word_of_line lines) some (line ∷ []) ∙ ap (λ a. a ++ word_of_line lines line ∷ []) h.1 ∙ ap (λ r. map sound h.0 ++ r ∷ []) e ∙ sym (map-append sound h.0 (o ∷ [])),
  f ∙ ap (λ w. w ++ option_to_list o) h.2 ∙ ap (λ w. flat_map option_to_list h.0 ++ w) (one-word o) ∙ sym (flat_map-append option_to_list h.0 (o ∷ [])),
)
