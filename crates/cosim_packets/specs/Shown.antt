-- What `show` comes to by the bytes of a file: the lines of all packets, or a refusal and the lines of the packets
-- before it.
use Rattle.std.specs.Prelude.{◌≡◌, ℕ, ◌≤◌, Bool, true, false, List, [], ◌∷◌, ◌++◌, length}
use Rattle.cosim_model.specs.Packets.{Packet}
use Rattle.rp_packet.specs.declared.fault.PacketFault.{PacketFault}
use Rattle.rp_packet.specs.Spelling.{Spells, Canonical}
use Rattle.rp_packet.specs.Streams.{Stream, Faulty}
use Rattle.rp_text.specs.Texts.{line_of}
use Rattle.outcomes.specs.Outcomes.{Outcome, Refuses, Works}
use Rattle.cosim_packets.specs.declared.refusals.ShowRefusal.{ShowRefusal}
use Rattle.cosim_packets.specs.declared.refusals.ShowRefusal.TheVariants.{Malformed, Truncated}

-- The Boolean says that bytes aren't the canonical spelling of a value.
abbrev pub IsLoose : Packet → List ℕ → Bool → Type 0
IsLoose v b true = Canonical v b → ⊥
IsLoose v b false = Canonical v b

-- The bytes are one spelling of each value in order, and the text is their lines, each with the word loose exactly
-- where its spelling isn't the canonical one.
pub data Listed : List Packet → List ℕ → List ℕ → Type 0 where
  Listed_none : Listed [] [] []
  Listed_one : (v : Packet) (loose : Bool) {b : List ℕ} {vs : List Packet} {more text : List ℕ} → Spells v b
      → IsLoose v b loose → Listed vs more text → Listed (v ∷ vs) (b ++ more) (line_of v loose ++ text)

-- The bytes are a stream that ends with a packet, and these are its lines.
pub record IsWhole (b text : List ℕ) : Type 0 where
  pub values : List Packet
  pub stream : Stream values b []
  pub lines : Listed values stream.front text

-- The bytes are a stream that ends within a packet, which begins at a place and of which so many bytes are there; and
-- these are the lines of the packets before it.
pub record IsCutOff (b : List ℕ) (start held : ℕ) (text : List ℕ) : Type 0 where
  pub values : List Packet
  pub rest : List ℕ
  pub stream : Stream values b rest
  pub lines : Listed values stream.front text
  pub some : 1 ≤ length rest
  pub at : start ≡ length stream.front
  pub there : held ≡ length rest

-- The bytes are faulty, and these are the lines of the packets before the fault.
pub record IsRefused (b : List ℕ) (fault : PacketFault) (text : List ℕ) : Type 0 where
  pub values : List Packet
  pub faulty : Faulty values b fault.start fault.place fault.cause
  pub lines : Listed values faulty.front text

pub data Shown (b : List ℕ) : Outcome ShowRefusal → Type 0 where
  Whole : {text : List ℕ} → IsWhole b text → Shown b (Works [] text)
  CutOff : {start held : ℕ} {text : List ℕ} → IsCutOff b start held text → Shown b (Refuses (Truncated start held) text)
  Refused : {fault : PacketFault} {text : List ℕ} → IsRefused b fault text → Shown b (Refuses (Malformed fault) text)
