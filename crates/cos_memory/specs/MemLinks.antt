-- What a link in memory tells, by what its peer tells.
use Rattle.std.specs.Prelude.{◌≡◌, ℕ, List, length, take}
use Rattle.std.specs.declared.option.Option.{Option}
use Rattle.std.specs.declared.option.Option.TheVariants.{Some, None}
use Rattle.cos_base.specs.Links.{Wire}
use Rattle.cos_memory.specs.Peers.{Spoken}

-- A beginning, as an equation: a ghost field must be a proposition.
abbrev pub IsFront : List ℕ → List ℕ → Type 0
IsFront xs ys = take (length xs) ys ≡ xs

-- What was sent is what the peer heard.
abbrev pub wire_of : Option Spoken → List ℕ → Option Wire
wire_of None received = None
wire_of (Some s) received = Some (record { sent = s.heard; received = received; said = s.says })
