-- A device end without the bytes that it receives: the device end of the definitions, which keeps no fault here.
use Rattle.std.specs.Prelude.{◌≡◌, ℕ, ◌≤◌, Bool, true, false, List, [], ◌++◌, length, Some, None, Result, Ok, Err}
use Rattle.process_network.specs.PacketStar.{written}
use Rattle.cosim_model.specs.declared.values.Want.{Want}
use Rattle.cosim_model.specs.declared.values.Want.TheVariants.{Fetch, Store, Line}
use Rattle.cosim_model.specs.declared.session.Command.TheVariants as command
use Rattle.cosim_model.specs.declared.session.EndFault.TheVariants as end_fault
use Rattle.cosim_model.specs.declared.session.Event.{Event}
use Rattle.cosim_model.specs.declared.session.Event.TheVariants.{Nothing, Met, Asked, Told, Answered, SyncDone}
use Rattle.cosim_model.specs.Parts.{DeviceModel}
use Rattle.cosim_model.specs.Packets.{Body, Packet, command_of, is_response}
use Rattle.cosim_model.specs.Packets.Body.{Nop, Hello, Cfg, Read, Write, Interrupt, Sync}
use Rattle.cosim_model.specs.Packets.Decoded.{Valid}
use Rattle.cosim_model.specs.Sessions.{Session}
use Rattle.ends_model.specs.declared.ends.OpenSync.{OpenSync}
use Rattle.ends_model.specs.DeviceTurn.{DeviceEnd, Settling, Ends, Goes_on, device_takes}
use Rattle.rp_packet.specs.declared.fault.Cause.{Cause}
use Rattle.rp_packet.specs.Spelling.{packet_bytes}
use Rattle.rp_session.specs.Tags.{peer_of_kind}
use Rattle.device_core.specs.declared.fault.HearFault.{HearFault}
use Rattle.device_core.specs.declared.fault.HearFault.TheVariants as hear

-- `room` is how many more calls it takes without asking for memory.
pub record Core (S : Type 0) : Type 0 where
  pub end : DeviceEnd S Cause
  pub room : ℕ

-- the bytes of packets that are sent
abbrev pub spelled : List Packet → List ℕ
spelled ps = written packet_bytes ps

-- It became this end, and sent these packets behind what was there.
abbrev pub Does : {S : Type 0} → DeviceEnd S Cause × List Packet → Core S → List ℕ → List ℕ → Type 0
Does r new before after = (new.end ≡ r.0) × (after ≡ before ++ spelled r.1)

-- A packet is taken: what becomes of the end and of what it has sent, as the definitions say.
abbrev pub Hears :
    {S : Type 0} → DeviceModel S → Core S → Core S → List ℕ → List ℕ → Packet → Result Unit HearFault → Type 0
Hears d old new before after p (Ok u) = Does (device_takes d old.end (Valid p)) new before after
Hears d old new before after p (Err (hear.Session f)) =
    (record new.end { fault = Some (end_fault.Session f) } ≡ (device_takes d old.end (Valid p)).0)
    × ((device_takes d old.end (Valid p)).1 ≡ []) × (after ≡ before)
Hears d old new before after p (Err hear.NoMemory) = (new ≡ old) × (after ≡ before)

-- What always holds of an end that keeps no fault: the device was brought to no later tick than that of the peer's
-- latest request; the own request is the device's want; and an open sync is the peer's.
pub record IsCore {S : Type 0} (d : DeviceModel S) (e : DeviceEnd S Cause) : Type 0 where
  pub seen : d.seen e.device ≤ e.session.peer_time
  pub wanted : (w : Want) → e.own ≡ Some w → d.want e.device ≡ Some w
  pub free : e.own ≡ None → e.session.own_other ≡ None
  pub opened :
      (o : OpenSync) → e.open_sync ≡ Some o → (o.ticket.cmd ≡ command.Sync) × (e.session.peer_sync ≡ Some o.ticket)

-- The time of a request.
abbrev pub time_of : Body → ℕ
time_of (Read f) = f.time
time_of (Write f) = f.time
time_of (Interrupt time vector line val) = time
time_of (Sync time) = time
time_of Nop = 0
time_of (Hello major minor caps) = 0
time_of (Cfg opt set) = 0

-- What a session holds once it took a packet, by what the packet is to it.
abbrev pub IsTaken : Session → Packet → Event → Type 0
IsTaken s p (Asked t) = (is_response p ≡ false) × (s.peer_time ≡ time_of p.body) × (t.cmd ≡ command_of p.body)
    × (peer_of_kind s t.cmd ≡ Some t)
IsTaken s p Told = (is_response p ≡ false) × (s.peer_time ≡ time_of p.body)
IsTaken s p Answered = s.own_other ≡ None
IsTaken s p Nothing = Unit {0}
IsTaken s p Met = Unit {0}
IsTaken s p SyncDone = Unit {0}

-- one settling, and whether another follows
abbrev pub Settled : {S : Type 0} → Settling S Cause → Core S → List ℕ → List ℕ → Bool → Type 0
Settled (Ends e sends) new before after more = (more ≡ false) × (new.end ≡ e) × (after ≡ before ++ spelled sends)
Settled (Goes_on e sends) new before after more = (more ≡ true) × (new.end ≡ e) × (after ≡ before ++ packet_bytes sends)

-- the wants that a request carries whole
abbrev pub HasSize : Want → Type 0
HasSize (Fetch addr size) = Unit {0}
HasSize (Store addr size bytes mask) = (size ≤ 64) × (length bytes ≡ 64)
HasSize (Line number level) = Unit {0}
