-- Where labels stand, as the assembler keeps them.
use Rattle.std.specs.Prelude.{Option, Some, None}
use Rattle.rv_asm.specs.declared.labels.Place.{Place}
use Rattle.rv_asm.specs.Programs.{Placed}

abbrev pub place_of : Option Placed → Option Place
place_of None = None
place_of (Some line) = Some (record { number = line.number; address = line.address })
