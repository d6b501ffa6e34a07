-- Texts that differ.
use Rattle.std.proofs.Common.{◌≡◌, ℕ, false, ◌||◌, List, [], ◌∷◌, map, Bor, refl, ap}
use Rattle.std.specs.List.{list_any}
use Rattle.std.specs.Str.{bytes_eq}
use Rattle.std.proofs.lemmas.Bool.{false_from_ne_true}
use Rattle.std.proofs.lemmas.Slice.Eq.{bytes_eq-Decides}

pub differs : (s word : List ℕ) → (s ≡ word → ⊥) → bytes_eq s word ≡ false
differs s word other = false_from_ne_true (bytes_eq s word) (λ same. other ((bytes_eq-Decides s word).0 same))

-- a text is among others, seen through references
pub any-text : (name : List ℕ) (names : List (Bor (List ℕ))) → list_any (λ y. bytes_eq y.now name) names ≡ list_any (λ known. bytes_eq known name) (map (λ s. s.now) names)
any-text name [] = refl
any-text name (x ∷ xs) = ap (λ b. bytes_eq x.now name || b) (any-text name xs)
