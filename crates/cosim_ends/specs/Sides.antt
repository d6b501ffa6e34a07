-- What the ends of a configuration's ports are made with, and these ends.
use Rattle.std.specs.Prelude.{List, map, zip}
use Rattle.cos_config.specs.declared.config.PortConfig.{PortConfig}
use Rattle.cos_parts.specs.declared.any_device.AnyDevice.{AnyDevice}
use Rattle.cos_parts.specs.AnyDevices.{any_needs}
use Rattle.device_turns.specs.Ends.{End, fresh}
use Rattle.ends_model.specs.World.{Side, device_start}
use Rattle.rp_packet.specs.declared.fault.Cause.{Cause}

-- A port's end offers what its settings say, and needs what its device needs.
abbrev pub port_side : PortConfig × AnyDevice → Side × AnyDevice
port_side x = (
  record { offer = x.0.caps; needs = any_needs x.1; answered_lines = x.0.answered_lines },
  x.1,
)

-- port by port, with its device
abbrev pub sides_of : List PortConfig → List AnyDevice → List (Side × AnyDevice)
sides_of ports devices = map port_side (zip ports devices)

-- the end before its first turn
abbrev pub end_of : Side × AnyDevice → End AnyDevice
end_of x = fresh (device_start Cause x.0 x.1)
