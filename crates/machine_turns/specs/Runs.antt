-- A machine end alone: its turns over the same received bytes by port, until it can take no more.
use Rattle.std.specs.Prelude.{◌≡◌, ℕ, List, [], ◌++◌, nat_eq, if◌then◌else◌, None}
use Rattle.process_network.specs.Network.{Streams}
use Rattle.process_network.specs.PacketStar.{Ends, HubEnd, fresh_hub, star_of}
use Rattle.process_network.specs.PacketStar.LeafOutlook.{LeafHalts}
use Rattle.process_network.specs.StarTalk.{IsHubRun}
use Rattle.cosim_model.specs.Packets.{Decoded, Codec, spell}
use Rattle.cosim_model.specs.Parts.{MasterModel}
use Rattle.ends_model.specs.MachineTurn.{MachineEnd, machine_outlook, machine_takes}
use Rattle.rp_packet.specs.declared.fault.Cause.{Cause}
use Rattle.rp_packet.specs.Streams.{packet_codec}

-- a machine end with no device ends
abbrev pub machine_alone :
    {M F : Type 0} → MasterModel M → Codec F → Ends (MachineEnd M F) (Unit {0}) (Decoded F)
machine_alone k codec = record {
  hub_outlook = machine_outlook k;
  hub_take = machine_takes k;
  leaf_outlook = λ l. LeafHalts;
  leaf_take = λ l m. (l, []);
  first = codec.first;
  write = spell codec;
}

-- a machine end with the number of bytes that it has taken, by port
abbrev pub Taking : Type 0 → Type 0
Taking M = HubEnd (MachineEnd M Cause)

-- After so many turns over the received bytes, each of which could be taken, the end is h and has sent this by port.
abbrev pub IsRun :
    {M : Type 0} → MasterModel M → MachineEnd M Cause → ℕ → Streams → ℕ → Taking M → Streams → Type 0
IsRun k start ports received turns h sent =
    IsHubRun (star_of (machine_alone k packet_codec)) ports (fresh_hub start ports) received turns h sent

-- it can take no turn over these bytes
abbrev pub Rests : {M : Type 0} → MasterModel M → Taking M → Streams → Type 0
Rests k h received = (star_of (machine_alone k packet_codec)).hub_turn h received ≡ None

-- Then it can take no more.
pub record IsWholeRun {M : Type 0} (k : MasterModel M) (start : MachineEnd M Cause) (ports : ℕ) (received : Streams)
    (h : Taking M) (sent : Streams) : Type 0 where
  pub turns : ℕ
  pub run : IsRun k start ports received turns h sent
  pub rests : Rests k h received

-- the bytes of port p where port q is asked for
abbrev pub only_at : ℕ → List ℕ → ℕ → List ℕ
only_at p bytes q = if nat_eq q p then bytes else []

-- these bytes came behind those of port p, and none elsewhere
abbrev pub Grown : ℕ → List ℕ → Streams → Streams → Type 0
Grown p bytes before after = (q : ℕ) → after q ≡ before q ++ only_at p bytes q
