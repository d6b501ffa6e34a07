-- What an end does by what it looks at: the steps by which the proofs compute a turn.
use Rattle.std.specs.Prelude.{ℕ, Bool, true, ◌&&◌, List, Option, Some, is_none, option_map}
use Rattle.process_network.specs.PacketStar.{HubOutlook}
use Rattle.cosim_model.specs.declared.values.Access.{Access}
use Rattle.cosim_model.specs.declared.values.Bus.{Bus}
use Rattle.cosim_model.specs.declared.session.EndFault.{EndFault}
use Rattle.cosim_model.specs.declared.values.Want.{Want}
use Rattle.cosim_model.specs.Parts.{DeviceModel, MasterModel}
use Rattle.cosim_model.specs.Packets.{Packet, Decoded}
use Rattle.ends_model.specs.declared.ends.OpenSync.{OpenSync}
use Rattle.ends_model.specs.declared.ends.Phase.{Phase}
use Rattle.ends_model.specs.DeviceTurn.{DeviceEnd, Settling, settle_as, with_kind}
use Rattle.ends_model.specs.MachineTurn.{MachineEnd, PortEnd, outlook_of, at_port, greets, syncs, accesses, works, runs, serves, serves_held, serves_least, gathers, acts_in, acts_unless}

module _ {M F : Type 0} (k : MasterModel M) where
  abbrev pub greet_outlook : MachineEnd M F → ℕ → Option PortEnd → HubOutlook (MachineEnd M F) (Decoded F)
  greet_outlook h p o = outlook_of (at_port o (greets k h p))

  abbrev pub sync_outlook : MachineEnd M F → ℕ → Option PortEnd → HubOutlook (MachineEnd M F) (Decoded F)
  sync_outlook h p o = outlook_of (at_port o (syncs k h p))

  abbrev pub access_outlook : MachineEnd M F → M → ℕ → Access → Option PortEnd → Bool → HubOutlook (MachineEnd M F) (Decoded F)
  access_outlook h m p a o posted = outlook_of (at_port o (accesses k h m p a posted))

  abbrev pub unit_outlook : MachineEnd M F → M → Option Bus → HubOutlook (MachineEnd M F) (Decoded F)
  unit_outlook h m b = outlook_of (works k h m b)

  abbrev pub run_outlook : MachineEnd M F → Bool → List PortEnd → HubOutlook (MachineEnd M F) (Decoded F)
  run_outlook h due ports = outlook_of (runs k h due ports)

  abbrev pub serve_packet : MachineEnd M F → ℕ → PortEnd → Packet → Bool → HubOutlook (MachineEnd M F) (Decoded F)
  serve_packet h p q m posted = outlook_of (serves k h p q m posted)

  abbrev pub serve_held : MachineEnd M F → ℕ → PortEnd → Option Packet → HubOutlook (MachineEnd M F) (Decoded F)
  serve_held h p q o = outlook_of (serves_held k h p q o)

  abbrev pub serve_port : MachineEnd M F → ℕ → Option PortEnd → HubOutlook (MachineEnd M F) (Decoded F)
  serve_port h p o = outlook_of (at_port o (λ (q : PortEnd). serves_held k h p q q.held))

  abbrev pub serve_outlook : MachineEnd M F → Option (ℕ × ℕ) → HubOutlook (MachineEnd M F) (Decoded F)
  serve_outlook h r = outlook_of (serves_least k h r)

  abbrev pub gather_outlook : MachineEnd M F → Option ℕ → HubOutlook (MachineEnd M F) (Decoded F)
  gather_outlook h p = outlook_of (gathers k h p)

  abbrev pub phase_outlook : MachineEnd M F → Phase → HubOutlook (MachineEnd M F) (Decoded F)
  phase_outlook h phase = outlook_of (acts_in k h phase)

  abbrev pub machine_looks : MachineEnd M F → Option (ℕ × EndFault F) → HubOutlook (MachineEnd M F) (Decoded F)
  machine_looks h fault = outlook_of (acts_unless k h fault)

module _ {S F : Type 0} (d : DeviceModel S) where
  -- settling by the hello, the own request that is out, what is wanted, and the sync that is open
  abbrev pub settle_by : DeviceEnd S F → Bool → Option Want → Option Want → Option OpenSync → Settling S F
  settle_by e came own want open_sync = settle_as d e (came && is_none own) (option_map (with_kind d e) want) open_sync

  -- a want, by whether it is answered
  abbrev pub settle_want : DeviceEnd S F → Want → Option OpenSync → Bool → Settling S F
  settle_want e w open_sync answered = settle_as d e true (Some (w, answered)) open_sync
