-- What listing the packets of a stream does, one after the other.
use Rattle.std.specs.Prelude.{◌≡◌, ℕ, ◌≤◌, Bool, List, ◌++◌, length, take, Result, Ok, Err}
use Rattle.cosim_model.specs.Packets.{Packet}
use Rattle.rp_packet.specs.Spelling.{Spells}
use Rattle.rp_packet.specs.Streams.{Unfinished, Bad}
use Rattle.rp_text.specs.Texts.{line_of}
use Rattle.outcomes.specs.declared.failures.JudgeFault.{JudgeFault}
use Rattle.outcomes.specs.declared.failures.JudgeFault.TheVariants.{Refused, NoMemory}
use Rattle.cosim_packets.specs.declared.refusals.ShowRefusal.{ShowRefusal}
use Rattle.cosim_packets.specs.declared.refusals.ShowRefusal.TheVariants.{Malformed, Truncated}
use Rattle.cosim_packets.specs.Shown.{IsLoose, IsWhole, IsCutOff, IsRefused}

-- the line of one packet is appended, which these bytes spell
pub record AddsLine (v : Packet) (b old new : List ℕ) : Type 0 where
  pub loose : Bool
  pub marked : IsLoose v b loose
  pub text : new ≡ old ++ line_of v loose

-- the line of the packet at the front is appended
pub record Adds (rest : List ℕ) (size : ℕ) (old new : List ℕ) : Type 0 where
  pub value : Packet
  pub within : size ≤ length rest
  pub spelled : Spells value (take size rest)
  pub line : AddsLine value (take size rest) old new

-- nothing is appended, since what stands at the front isn't whole or is refused
abbrev pub Stops : List ℕ → ℕ → List ℕ → List ℕ → ShowRefusal → Type 0
Stops rest at old new (Truncated start held) = (new ≡ old) × (start ≡ at) × (held ≡ length rest) × Unfinished rest
Stops rest at old new (Malformed fault) = (new ≡ old) × (fault.start ≡ at) × Bad rest fault.place fault.cause

-- what listing the packet at the front answers, which begins at this place
abbrev pub ListsOne : List ℕ → ℕ → List ℕ → List ℕ → Result ℕ (JudgeFault ShowRefusal) → Type 0
ListsOne rest at old new (Ok size) = Adds rest size old new
ListsOne rest at old new (Err (Refused fault)) = Stops rest at old new fault
ListsOne rest at old new (Err NoMemory) = Unit {0}

-- the text before a refusal of a whole file
abbrev pub EndsAt : List ℕ → List ℕ → ShowRefusal → Type 0
EndsAt b text (Truncated start held) = IsCutOff b start held text
EndsAt b text (Malformed fault) = IsRefused b fault text

-- what listing all answers
abbrev pub Lists : List ℕ → List ℕ → Result Unit (JudgeFault ShowRefusal) → Type 0
Lists b text (Ok u) = IsWhole b text
Lists b text (Err (Refused fault)) = EndsAt b text fault
Lists b text (Err NoMemory) = Unit {0}
