-- What goes over the links of a run, by the history of the direct machine.
use Rattle.std.specs.Prelude.{ℕ, ◌+◌, List, [], ◌∷◌, length}
use Rattle.cosim_model.specs.Direct.{Moment}
use Rattle.cos_parts.specs.declared.any_device.AnyDevice.{AnyDevice}
use Rattle.cos_parts.specs.AnyDevices.{any_model}
use Rattle.ends_model.specs.PortTraffic.{traffic_out, traffic_back}
use Rattle.ends_model.specs.Traffic.{wire_out}
use Rattle.ends_model.specs.World.{Side}
use Rattle.every_schedule.specs.Counts.{packets_in}
use Rattle.link_lines.specs.declared.lines.LinkCounts.{LinkCounts}
use Rattle.rp_packet.specs.Streams.{packet_codec}

-- Of a port with that side and device: the packets to its device end and their bytes, and those that this sends.
abbrev pub link_of : List Moment → ℕ → Side × AnyDevice → LinkCounts
link_of history port x = record {
  out_packets = length (wire_out x.0 port history);
  out_bytes = length (traffic_out any_model packet_codec history port x);
  back_packets = packets_in packet_codec (traffic_back any_model packet_codec history port x);
  back_bytes = length (traffic_back any_model packet_codec history port x);
}

-- the links of this port and those behind it
abbrev pub links_from : List Moment → ℕ → List (Side × AnyDevice) → List LinkCounts
links_from history port [] = []
links_from history port (x ∷ xs) = link_of history port x ∷ links_from history (port + 1) xs

abbrev pub links_of : List Moment → List (Side × AnyDevice) → List LinkCounts
links_of history ports = links_from history 0 ports
