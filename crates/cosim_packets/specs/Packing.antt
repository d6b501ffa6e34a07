-- What packing the lines of a text does, one after the other.
use Rattle.std.specs.Prelude.{◌≡◌, ℕ, List, [], ◌++◌, Result, Ok, Err}
use Rattle.cosim_model.specs.Packets.{Packet}
use Rattle.rp_packet.specs.Spelling.{packet_bytes}
use Rattle.rp_text.specs.Texts.{packet_text, IsPackable}
use Rattle.rp_text.specs.declared.fault.LineFault.{LineFault}
use Rattle.rp_text.specs.declared.fault.LineFault.TheVariants as line_fault
use Rattle.outcomes.specs.declared.failures.JudgeFault.{JudgeFault}
use Rattle.outcomes.specs.declared.failures.JudgeFault.TheVariants.{Refused, NoMemory}
use Rattle.outcomes.specs.Outcomes.{Works}
use Rattle.outcomes.specs.Steps.{ComesRefused}
use Rattle.cosim_packets.specs.declared.refusals.PackRefusal.{PackRefusal}
use Rattle.cosim_packets.specs.declared.refusals.PackRefusal.TheVariants.{Line}
use Rattle.cosim_packets.specs.Packed.{Packs, IsNoPacket, IsFirstRefused, Packed}

-- the packet of this line is appended
pub record AddsPacket (line old new : List ℕ) : Type 0 where
  pub value : Packet
  pub packable : IsPackable value
  pub text : line ≡ packet_text value
  pub bytes : new ≡ old ++ packet_bytes value

-- what packing a line answers
abbrev pub PacksLine : List ℕ → List ℕ → List ℕ → Result Unit LineFault → Type 0
PacksLine line old new (Ok u) = AddsPacket line old new
PacksLine line old new (Err line_fault.Line) = IsNoPacket line
PacksLine line old new (Err line_fault.NoMemory) = Unit {0}

-- what packing all lines answers
abbrev pub PacksLines : List (List ℕ) → List ℕ → Result Unit (JudgeFault PackRefusal) → Type 0
PacksLines ls new (Ok u) = Packs ls new
PacksLines ls new (Err (Refused (Line number))) = IsFirstRefused ls number
PacksLines ls new (Err NoMemory) = Unit {0}

-- what packing a file answers
abbrev pub PacksText : List ℕ → List ℕ → Result Unit (JudgeFault PackRefusal) → Type 0
PacksText text new (Ok u) = Packed text (Works [] new)
PacksText text new (Err fault) = ComesRefused (Packed text) fault
