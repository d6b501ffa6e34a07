-- The states of the two ends in which they mirror the direct machine with its wires.
use Rattle.std.specs.Prelude.{ℕ, Bool, true, false, if◌then◌else◌, List, [], ◌∷◌, map, Option, Some, None}
use Rattle.process_network.specs.PacketStar.{PacketLink, PacketWorld}
use Rattle.cosim_model.specs.declared.values.Caps.{Caps}
use Rattle.cosim_model.specs.Values.{all_caps, no_caps}
use Rattle.cosim_model.specs.declared.session.Command.TheVariants as command
use Rattle.cosim_model.specs.Parts.{DeviceModel}
use Rattle.cosim_model.specs.Packets.{Packet, Decoded}
use Rattle.cosim_model.specs.Packets.Decoded.{Valid}
use Rattle.cosim_model.specs.declared.session.Ticket.{Ticket}
use Rattle.cosim_model.specs.declared.session.OwnRequest.{OwnRequest}
use Rattle.cosim_model.specs.Sessions.{Session, ticket_of, is_posted}
use Rattle.cosim_model.specs.declared.session.Role.TheVariants.{Machine}
use Rattle.ends_model.specs.DeviceTurn.{DeviceEnd, settled}
use Rattle.ends_model.specs.declared.ends.Phase.{Phase}
use Rattle.cosim_model.specs.declared.values.Plan.{Plan}
use Rattle.ends_model.specs.MachineTurn.{MachineEnd, PortEnd}
use Rattle.cosim_model.specs.Direct.{Direct}
use Rattle.every_schedule.specs.Wires.{Wire, unsettled, sends_of, unread}

-- One port.

abbrev pub front : Bool → List Packet → Option Packet
front false ms = None
front true [] = None
front true (m ∷ ms) = Some m

abbrev pub ticket_at : Caps → Option Packet → Option Ticket
ticket_at common None = None
ticket_at common (Some m) = if is_posted common m then None else Some (ticket_of m)

abbrev pub own_if : Bool → ℕ → Option OwnRequest
own_if true id = Some (record { cmd = command.Sync; id = id; len = 0 })
own_if false id = None

abbrev pub machine_session : {S : Type 0} → Wire S → Option Packet → Session
machine_session w held = record {
  role = Machine;
  offers = all_caps;
  needs = no_caps;
  next = w.next;
  common = w.side.offer;
  hello_went = true;
  hello_came = true;
  own_sync = own_if w.synced w.sync_id;
  own_other = None;
  peer_sync = None;
  peer_other = ticket_at w.side.offer held;
  peer_time = w.heard;
  count = w.count;
  fault = None;
}

module _ {S : Type 0} (F : Type 0) (d : DeviceModel S) where
  abbrev pub port_of : Wire S → PortEnd
  port_of w = record {
    session = machine_session w (front w.held (sends_of F d w));
    held = front w.held (sends_of F d w);
    last = w.last;
  }

  abbrev pub post_of : Wire S → PacketLink (DeviceEnd S F) (Decoded F)
  post_of w = record {
    leaf = (settled d (unsettled w)).0;
    out_taken = map Valid w.out;
    out_waiting = [];
    back_taken = map Valid w.back;
    back_waiting = map Valid (unread F d w);
  }

abbrev pub mirror : {M S : Type 0} → (F : Type 0) → DeviceModel S → Plan → Phase → Bool → Direct M (Wire S)
    → PacketWorld (MachineEnd M F) (DeviceEnd S F) (Decoded F)
mirror F d plan phase marked r = record {
  hub = record {
    plan = plan;
    phase = phase;
    master = r.master;
    ports = map (port_of F d) r.devices;
    calls = r.calls;
    tick = r.tick;
    marked = marked;
    fault = None;
  };
  links = map (post_of F d) r.devices;
}
