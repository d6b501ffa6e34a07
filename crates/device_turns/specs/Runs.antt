-- A device end alone: its turns over the same received bytes, until it can take no more.
use Rattle.std.specs.Prelude.{◌≡◌, ℕ, List, None}
use Rattle.process_network.specs.PacketStar.{LeafEnd, star_of, fresh_leaf}
use Rattle.process_network.specs.StarTalk.{IsLeafRun}
use Rattle.cosim_model.specs.Parts.{DeviceModel}
use Rattle.ends_model.specs.DeviceTurn.{DeviceEnd}
use Rattle.ends_model.specs.Traffic as traffic
use Rattle.rp_packet.specs.declared.fault.Cause.{Cause}
use Rattle.rp_packet.specs.Streams.{packet_codec}

-- a device end with the number of bytes that it has taken
abbrev pub Taking : Type 0 → Type 0
Taking S = LeafEnd (DeviceEnd S Cause)

-- After so many turns over the received bytes, each of which could be taken, the end is l and has sent this.
abbrev pub IsRun : {S : Type 0} → DeviceModel S → DeviceEnd S Cause → List ℕ → ℕ → Taking S → List ℕ → Type 0
IsRun d start received turns l sent =
    IsLeafRun (star_of (traffic.device_alone d packet_codec)) (fresh_leaf start) received turns l sent

-- Then it can take no more.
pub record IsWholeRun {S : Type 0} (d : DeviceModel S) (start : DeviceEnd S Cause) (received : List ℕ) (l : Taking S)
    (sent : List ℕ) : Type 0 where
  pub turns : ℕ
  pub run : IsRun d start received turns l sent
  pub rests : traffic.device_turn d packet_codec l received ≡ None

-- All that an end sends that takes every turn that it can.
abbrev pub out_device : {S : Type 0} → DeviceModel S → DeviceEnd S Cause → List ℕ → List ℕ
out_device d start received = traffic.out_device d packet_codec start received
