-- The line of a packet: the name of its command and the words of its fields, separated by one blank each.
use Rattle.std.specs.Prelude.{ℕ, Bool, List, [], ◌∷◌, ◌++◌, map, codes, decimal, if◌then◌else◌}
use Rattle.hex.specs.Hex.{encode_lower}
use Rattle.cos_text.specs.Numbers.{hex_text}
use Rattle.cosim_model.specs.Packets.{Packet, Body, BusFields, command_of}
use Rattle.cosim_model.specs.Packets.Body.{Nop, Hello, Cfg, Read, Write, Interrupt, Sync}
use Rattle.cosim_model.specs.declared.session.Command.{Command}
use Rattle.cosim_model.specs.declared.session.Command.TheVariants as command
use Rattle.rp_header.specs.Numbers.{AreBytes}
use Rattle.rp_packet.specs.Spelling.{Fits, Writable}

-- bytes: two digits each, or a minus sign where there are none
abbrev pub bytes_text : List ℕ → List ℕ
bytes_text [] = codes "-"
bytes_text (b ∷ bs) = encode_lower (b ∷ bs)

abbrev pub name_of : Command → List ℕ
name_of command.Nop = codes "nop"
name_of command.Hello = codes "hello"
name_of command.Cfg = codes "cfg"
name_of command.Read = codes "read"
name_of command.Write = codes "write"
name_of command.Interrupt = codes "interrupt"
name_of command.Sync = codes "sync"

abbrev pub bus_words : BusFields → List (List ℕ)
bus_words f =
    decimal f.time ∷ hex_text f.attributes ∷ hex_text f.addr ∷ decimal f.len ∷ decimal f.width ∷ decimal f.stream_width
    ∷ decimal f.master ∷ bytes_text f.payload ∷ bytes_text f.enables ∷ []

abbrev pub body_words : Body → List (List ℕ)
body_words Nop = []
body_words (Hello major minor caps) = decimal major ∷ decimal minor ∷ map decimal caps
body_words (Cfg opt set) = decimal opt ∷ decimal set ∷ []
body_words (Read f) = bus_words f
body_words (Write f) = bus_words f
body_words (Interrupt time vector line val) = decimal time ∷ decimal vector ∷ decimal line ∷ decimal val ∷ []
body_words (Sync time) = decimal time ∷ []

-- words, each behind a blank
abbrev pub spaced : List (List ℕ) → List ℕ
spaced [] = []
spaced (w ∷ ws) = 32 ∷ w ++ spaced ws

-- the text of a packet: the name, and behind it id, flags, dev and the words of the body
abbrev pub packet_text : Packet → List ℕ
packet_text v = name_of (command_of v.body)
    ++ spaced (decimal v.id ∷ decimal v.flags ∷ decimal v.dev ∷ body_words v.body)

-- its line; the Boolean says that the packet was spelled loosely
abbrev pub line_of : Packet → Bool → List ℕ
line_of v loose = packet_text v ++ (if loose then codes " loose" else []) ++ 10 ∷ []

-- data and enables are bytes
abbrev pub HoldsBytes : Body → Type 0
HoldsBytes (Read f) = AreBytes f.payload × AreBytes f.enables
HoldsBytes (Write f) = AreBytes f.payload × AreBytes f.enables
HoldsBytes _ = Unit {0}

-- A packet that can be written: its numbers fit their fields, its lists are bytes, and no fault of writing applies.
pub record IsPackable (v : Packet) : Type 0 where
  pub fits : Fits v
  pub bytes : HoldsBytes v.body
  pub writable : Writable v
