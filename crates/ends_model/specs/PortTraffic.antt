-- What crosses one port in bytes, by the history of a run, whatever its order of service.
use Rattle.std.specs.Prelude.{ℕ, List}
use Rattle.process_network.specs.PacketStar.{written}
use Rattle.cosim_model.specs.Parts.{DeviceModel}
use Rattle.cosim_model.specs.Packets.{Codec}
use Rattle.cosim_model.specs.Direct.{Moment}
use Rattle.ends_model.specs.Traffic.{wire_out, out_device}
use Rattle.ends_model.specs.World.{Side, device_start}

-- Of port p, which has that side and a device in that state as the run begins: the bytes to its device end, and those
-- that it sends.
module _ {S F : Type 0} (d : DeviceModel S) (codec : Codec F) (history : List Moment) where
  abbrev pub traffic_out : ℕ → Side × S → List ℕ
  traffic_out p x = written codec.write (wire_out x.0 p history)

  abbrev pub traffic_back : ℕ → Side × S → List ℕ
  traffic_back p x = out_device d codec (device_start F x.0 x.1) (traffic_out p x)
