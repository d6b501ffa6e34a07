-- What reading and judging a packet answer.
use Rattle.std.specs.Prelude.{◌≡◌, ◌↔◌, ℕ, ◌+◌, ◌≤◌, Bool, IsTrue, List, length, Option, Some, Result, Ok, Err}
use Rattle.cosim_model.specs.Packets.{Packet}
use Rattle.rp_packet.specs.declared.fault.Cause.{Cause}
use Rattle.rp_packet.specs.declared.fault.PacketFault.{PacketFault}
use Rattle.rp_packet.specs.declared.fault.ReadFault.{ReadFault}
use Rattle.rp_packet.specs.declared.fault.ReadFault.TheVariants.{Malformed, NoMemory}
use Rattle.rp_packet.specs.Spelling.{Spells, Canonical}
use Rattle.rp_packet.specs.Refusals.{len_at, place_of}
use Rattle.rp_packet.specs.Streams.{Bad}

-- one whole packet, by its header
abbrev pub IsOnePacket : List ℕ → Type 0
IsOnePacket b = (20 ≤ length b) × (length b ≡ 20 + len_at b)

-- a fault at the place of its cause
abbrev pub fault_at : ℕ → Cause → PacketFault
fault_at start cause = record { start = start; place = place_of cause; cause = cause }

-- a fault other than want of memory is that of the first row that applies
abbrev pub IsReadFault : List ℕ → ReadFault → Type 0
IsReadFault b (Malformed f) = (f.start ≡ 0) × Bad b f.place f.cause
IsReadFault b NoMemory = Unit {0}

abbrev pub IsBodyFault : Option Cause → ReadFault → Type 0
IsBodyFault first (Malformed f) = (f ≡ fault_at 0 f.cause) × (first ≡ Some f.cause)
IsBodyFault first NoMemory = Unit {0}

-- a fault of a header, which is judged without memory
abbrev pub IsEarlyFault : Option Cause → ReadFault → Type 0
IsEarlyFault first (Malformed f) = (f ≡ fault_at 0 f.cause) × (first ≡ Some f.cause)
IsEarlyFault first NoMemory = ⊥

-- Judging tells whether the value that the bytes spell is spelled canonically, or the first row that applies. It takes
-- no memory.
abbrev pub Judges : List ℕ → Result Bool ReadFault → Type 0
Judges b (Ok canonical) = (v : Packet) × Spells v b × (IsTrue canonical ↔ Canonical v b)
Judges b (Err (Malformed f)) = (f.start ≡ 0) × Bad b f.place f.cause
Judges b (Err NoMemory) = ⊥
