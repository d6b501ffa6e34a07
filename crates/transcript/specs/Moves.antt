-- What becomes of a text that goes to a sink through a piece: what was put of it, and what of it the piece holds.
use Rattle.std.specs.Prelude.{◌≡◌, ℕ, ◌+◌, ◌<◌, ◌≤◌, List, ◌++◌, length, MatchResult, Option, Some, None, Result, Ok, Err}
use Rattle.cos_base.specs.Counts.{Counts}
use Rattle.cos_base.specs.Octets.{Held}
use Rattle.cos_base.specs.Sinks.{Puts, written}
use Rattle.cos_base.specs.declared.sinks.Failed.{Failed}

-- A piece has at most 512 bytes, and room for as many.
pub record IsPiece (piece : Held) : Type 0 where
  pub short : length piece.bytes ≤ 512
  pub room : 512 ≤ length piece.bytes + piece.spare

-- Of what the piece held and a text behind it a part was put, and the piece holds the rest.
abbrev pub Passes : Option (List ℕ) → Option (List ℕ) → List ℕ → List ℕ → List ℕ → Type 0
Passes None new held now text = Unit {0}
Passes (Some old) new held now text = (part : List ℕ) × (held ++ text ≡ part ++ now) × (new ≡ Some (old ++ part))

-- the same, or a put failed, and a beginning of all that was put
abbrev pub Moves : Option (List ℕ) → Option (List ℕ) → List ℕ → List ℕ → List ℕ → Result Unit Failed → Type 0
Moves old new held now text (Ok done) = Passes old new held now text
Moves old new held now text (Err e) = Puts old new (held ++ text) (Err e)

-- Over a sound sink a put fails only where all has no room, and the room is lowered by what was put.
pub record MovesSoundly (old new : Option (List ℕ)) (before now : ℕ) (whole : List ℕ) (result : Result Unit Failed)
    : Type 0 where
  pub cause : MatchResult result (λ _. Unit {0}) (λ _. before < length whole)
  pub lowers : now + length (written new) ≡ before + length (written old)

-- A text went to a sink through a piece: `held` is what the piece had before, and `now` what it has then.
pub record Moved {S : Type 0} (told : S → Option (List ℕ)) (count room : S → ℕ) (sound : S → Type 0) (old new : S)
    (held now text : List ℕ) (result : Result Unit Failed) : Type 0 where
  pub counts : Counts (count old) (count new) result
  pub tells : Moves (told old) (told new) held now text result
  pub is_sound : sound old → sound new × MovesSoundly (told old) (told new) (room old) (room new) (held ++ text) result
