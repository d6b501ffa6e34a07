-- What `pack` comes to by the bytes of a file: the canonical spellings of the packets whose lines they are, or the
-- first line that is refused.
use Rattle.std.specs.Prelude.{◌≡◌, ℕ, ◌+◌, List, [], ◌∷◌, ◌++◌, length}
use Rattle.std.specs.Str.{IsUtf8}
use Rattle.cosim_model.specs.Packets.{Packet}
use Rattle.rp_packet.specs.Spelling.{packet_bytes}
use Rattle.rp_text.specs.Texts.{packet_text, IsPackable}
use Rattle.cos_text.specs.Lines.{lines}
use Rattle.outcomes.specs.Outcomes.{Outcome, Refuses, Works}
use Rattle.cosim_packets.specs.declared.refusals.PackRefusal.{PackRefusal}
use Rattle.cosim_packets.specs.declared.refusals.PackRefusal.TheVariants.{Line}

-- Each line is that of a packet that can be written, and the bytes are the packets' canonical spellings, one behind the
-- other.
pub data Packs : List (List ℕ) → List ℕ → Type 0 where
  Packs_none : Packs [] []
  Packs_one : (v : Packet) {ls : List (List ℕ)} {bytes : List ℕ} → IsPackable v → Packs ls bytes
      → Packs (packet_text v ∷ ls) (packet_bytes v ++ bytes)

-- a line of no packet that can be written
pub record IsNoPacket (line : List ℕ) : Type 0 where
  pub never : (v : Packet) → IsPackable v → line ≡ packet_text v → ⊥

-- The line of this number, counted from 1, is that of no packet, and each line before it is that of one.
pub record IsFirstRefused (ls : List (List ℕ)) (number : ℕ) : Type 0 where
  pub front : List (List ℕ)
  pub line : List ℕ
  pub back : List (List ℕ)
  pub bytes : List ℕ
  pub whole : ls ≡ front ++ (line ∷ back)
  pub packs : Packs front bytes
  pub refused : IsNoPacket line
  pub place : number ≡ length front + 1

pub data Packed (b : List ℕ) : Outcome PackRefusal → Type 0 where
  AllLines : {bytes : List ℕ} → IsUtf8 b → Packs (lines b) bytes → Packed b (Works [] bytes)
  FirstRefused : {number : ℕ} → IsUtf8 b → IsFirstRefused (lines b) number → Packed b (Refuses (Line number) [])
  NoText : (IsUtf8 b → ⊥) → Packed b (Refuses (Line 1) [])
