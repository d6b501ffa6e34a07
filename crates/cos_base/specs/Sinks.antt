-- What a put does to the bytes of a sink, and when it fails at a sound one.
use Rattle.std.specs.Prelude.{◌≡◌, ℕ, ◌+◌, ◌<◌, ◌≤◌, List, [], ◌++◌, length, IfSome, MatchResult}
use Rattle.std.specs.declared.option.Option.{Option}
use Rattle.std.specs.declared.option.Option.TheVariants.{Some, None}
use Rattle.std.specs.declared.result.Result.{Result}
use Rattle.cos_base.specs.declared.sinks.Failed.{Failed}
use Rattle.cos_base.specs.Prefixes.{IsPrefix}

-- What a put did to the bytes written, where they are told: all of the piece stands behind them, or after a failure a
-- prefix of it.
abbrev pub Puts : Option (List ℕ) → Option (List ℕ) → List ℕ → Result Unit Failed → Type 0
Puts None new piece result = Unit {0}
Puts (Some old) new piece result =
    MatchResult result
    (λ _. new ≡ Some (old ++ piece))
    (λ _. IfSome new (λ now. (part : List ℕ) × IsPrefix part piece × (now ≡ old ++ part)))

-- the bytes written, as far as they are told
abbrev pub written : Option (List ℕ) → List ℕ
written None = []
written (Some bytes) = bytes

-- A put at a sound sink fails exactly where the piece is longer than its room, and lowers the room by what was
-- appended.
pub record PutsSoundly (old new : Option (List ℕ)) (before now : ℕ) (piece : List ℕ) (result : Result Unit Failed)
    : Type 0 where
  pub cause : MatchResult result (λ _. length piece ≤ before) (λ _. before < length piece)
  pub lowers : now + length (written new) ≡ before + length (written old)
