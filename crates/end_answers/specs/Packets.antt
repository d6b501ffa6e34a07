-- What both ends know of a packet that they take.
use Rattle.std.specs.Prelude.{ℕ, List}
use Rattle.cosim_model.specs.Packets.{Packet}
use Rattle.rp_packet.specs.Spelling.{Spells}

-- a packet that was read from bytes
abbrev pub IsRead : Packet → Type 0
IsRead p = (b : List ℕ) × Spells p b
