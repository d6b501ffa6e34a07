-- Lists of bytes as streams of packets: what isn't whole yet, what is refused, and what a whole list is.
use Rattle.std.specs.Prelude.{◌≡◌, ◌⊎◌, ℕ, ◌+◌, ◌<◌, ◌≤◌, List, [], ◌∷◌, ◌++◌, length, Some, None}
use Rattle.cosim_model.specs.Packets.{Packet, Codec}
use Rattle.rp_packet.specs.Spelling.{Spells, packet_bytes}
use Rattle.rp_packet.specs.Refusals.{place_of, early_refusal, late_refusal, len_at, first}
use Rattle.rp_packet.specs.declared.fault.Cause.{Cause}

-- How the theorems on whole runs see packets.
abbrev pub packet_codec : Codec Cause
packet_codec = record { write = packet_bytes; first = first }

-- Bytes are unfinished where fewer are there than a header has, or than a header that isn't refused says.
abbrev pub Unfinished : List ℕ → Type 0
Unfinished b = (length b < 20) ⊎ ((20 ≤ length b) × (early_refusal b ≡ None) × (length b < 20 + len_at b))

-- Bytes are refused where a header is there that is refused, or a whole packet that is.
abbrev pub Refuses : List ℕ → Cause → Type 0
Refuses b cause = (early_refusal b ≡ Some cause)
    ⊎ ((early_refusal b ≡ None) × (20 + len_at b ≤ length b) × (late_refusal b ≡ Some cause))

pub record Bad (b : List ℕ) (place : ℕ) (cause : Cause) : Type 0 where
  pub long : 20 ≤ length b
  pub at : place ≡ place_of cause
  pub refused : Refuses b cause

-- spellings of these values in order
pub data Spelled : List Packet → List ℕ → Type 0 where
  Spelled_none : Spelled [] []
  Spelled_one : {v : Packet} {vs : List Packet} {b more : List ℕ} → Spells v b → Spelled vs more
      → Spelled (v ∷ vs) (b ++ more)

pub record Stream (vs : List Packet) (b rest : List ℕ) : Type 0 where
  pub front : List ℕ
  pub spelled : Spelled vs front
  pub whole : b ≡ front ++ rest
  pub unfinished : Unfinished rest

pub record Faulty (vs : List Packet) (b : List ℕ) (start place : ℕ) (cause : Cause) : Type 0 where
  pub front : List ℕ
  pub rest : List ℕ
  pub spelled : Spelled vs front
  pub whole : b ≡ front ++ rest
  pub size : length front ≡ start
  pub bad : Bad rest place cause

-- a list that is a stream, and one that is faulty
pub record IsStream (b : List ℕ) : Type 0 where
  pub values : List Packet
  pub rest : List ℕ
  pub is : Stream values b rest

pub record IsFaulty (b : List ℕ) : Type 0 where
  pub values : List Packet
  pub start : ℕ
  pub place : ℕ
  pub cause : Cause
  pub is : Faulty values b start place cause
