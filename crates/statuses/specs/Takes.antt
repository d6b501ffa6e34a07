-- What a sink takes of a text.
use Rattle.std.specs.Prelude.{ℕ, ◌≤◌, List, length}
use Rattle.std.specs.declared.option.Option.{Option}
use Rattle.std.specs.declared.result.Result.{Result}
use Rattle.cos_base.specs.Counts.{Counts}
use Rattle.cos_base.specs.Sinks.{Puts, PutsSoundly}
use Rattle.cos_base.specs.declared.sinks.Failed.{Failed}
use Rattle.outcomes.specs.Seen.{Seen, seen}
use Rattle.outcomes.specs.Outcomes.{IsPut, PrintsAll}

-- A sound sink takes all of a text that it has room for.
abbrev pub TakesAll : Type 0 → ℕ → Seen (List ℕ) → List ℕ → Type 0
TakesAll sound room k text = sound → length text ≤ room → PrintsAll k text

-- A text was put to a sink, and a sound one took all that it has room for.
pub record Takes {S : Type 0} (told : S → Option (List ℕ)) (count room : S → ℕ) (sound : S → Type 0) (old new : S)
    (text : List ℕ) : Type 0 where
  pub put : IsPut (seen count told old new) text
  pub takes : TakesAll (sound old) (room old) (seen count told old new) text

-- Pieces were put to a sink, as one put of their text.
pub record PutsPieces {S : Type 0} (told : S → Option (List ℕ)) (count room : S → ℕ) (sound : S → Type 0) (old new : S)
    (text : List ℕ) (result : Result Unit Failed) : Type 0 where
  pub counts : Counts (count old) (count new) result
  pub tells : Puts (told old) (told new) text result
  pub is_sound : sound old → sound new × PutsSoundly (told old) (told new) (room old) (room new) text result
