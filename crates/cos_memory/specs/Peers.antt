-- What the peer of a link in memory tells: the bytes that it heard, and what it says for any bytes heard.
use Rattle.std.specs.Prelude.{List, ℕ, ◌++◌, Bool, true, false}
use Rattle.std.specs.declared.option.Option.{Option}
use Rattle.std.specs.declared.option.Option.TheVariants.{Some, None}

pub record Spoken : Type 0 where
  pub heard : List ℕ
  pub says : List ℕ → List ℕ

-- what was said
abbrev pub said_of : Spoken → List ℕ
said_of s = s.says s.heard

-- what is told once these bytes were heard too
abbrev pub hears : List ℕ → Option Spoken → Option Spoken
hears bytes None = None
hears bytes (Some s) = Some (record s { heard = s.heard ++ bytes })

-- what is told as long as it is
abbrev pub told_while : Bool → Spoken → Option Spoken
told_while true s = Some s
told_while false s = None

-- these bytes, whatever was heard
abbrev pub always : List ℕ → List ℕ → List ℕ
always bytes heard = bytes
