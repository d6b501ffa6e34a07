-- What every schedule of turns and deliveries gives, against the run of the direct machine.
use Rattle.std.specs.Prelude.{◌≡◌, ℕ, ◌+◌, ◌-◌, ◌*◌, ◌≤◌, ◌⊎◌, true, List, [], length, map, drop, get_or, Option, Some}
use Rattle.std.specs.Prelude.{None, slice_get}
use Rattle.process_network.specs.Network.{IsPrefix, Streams, sum_below}
use Rattle.process_network.specs.Star.{StarWorld, StarStep, star_effective, star_effective_steps, hub_received, link}
use Rattle.process_network.specs.StarTalk.{IsHubRun, StarTalk}
use Rattle.process_network.specs.PacketStar.{HubEnd, LeafEnd, star_of, fresh_hub}
use Rattle.ends_model.specs.declared.ends.Phase.TheVariants.{Done}
use Rattle.cosim_model.specs.declared.values.Plan.{Plan}
use Rattle.cosim_model.specs.Parts.{DeviceModel, MasterModel}
use Rattle.cosim_model.specs.Packets.{Packet, Codec, IsWritable}
use Rattle.ends_model.specs.DeviceTurn.{DeviceEnd}
use Rattle.ends_model.specs.MachineTurn.{MachineEnd}
use Rattle.cosim_model.specs.Direct.{Direct, direct}
use Rattle.ends_model.specs.PortTraffic.{traffic_out, traffic_back}
use Rattle.ends_model.specs.Traffic.{wire_out, out_device}
use Rattle.ends_model.specs.World.{Side, ends, machine_start, device_start, of_port, start, world}
use Rattle.every_schedule.specs.Counts.{accesses_in, lonely_in, posted_in, packets_in}

module _ {M S F : Type 0} (k : MasterModel M) (d : DeviceModel S) (codec : Codec F) (plan : Plan) (m : M)
    (xs : List (Side × S)) where
  abbrev pub directly : Direct M S
  directly = direct k d plan m (map (λ (x : Side × S). x.1) xs)

  -- The traffic of port p, which has side and device x: the bytes to the device end, and those that it sends.

  abbrev pub bytes_out : ℕ → Side × S → List ℕ
  bytes_out p x = traffic_out d codec directly.history p x

  abbrev pub bytes_back : ℕ → Side × S → List ℕ
  bytes_back p x = traffic_back d codec directly.history p x

  -- The machine end is done, and all is as the direct machine leaves it.
  pub record IsEnd (w : StarWorld (HubEnd (MachineEnd M F)) (LeafEnd (DeviceEnd S F))) : Type 0 where
    pub phase : w.hub.core.phase ≡ Done
    pub master : w.hub.core.master ≡ directly.master
    pub calls : w.hub.core.calls ≡ directly.calls
    pub tick : w.hub.core.tick ≡ directly.tick
    pub devices : map (λ (l : LeafEnd (DeviceEnd S F)). l.core.device) w.leaves ≡ directly.devices
    pub device_calls :
        (p : ℕ) (l : LeafEnd (DeviceEnd S F)) → slice_get w.leaves p ≡ Some l → l.core.calls ≡ of_port p directly.calls
    pub out : (p : ℕ) (x : Side × S) → slice_get xs p ≡ Some x → (link w p).out ≡ bytes_out p x
    pub back : (p : ℕ) (x : Side × S) → slice_get xs p ≡ Some x → (link w p).back ≡ bytes_back p x

  -- All that was sent is delivered.
  pub record IsDelivered (w : StarWorld (HubEnd (MachineEnd M F)) (LeafEnd (DeviceEnd S F))) : Type 0 where
    pub out : (p : ℕ) → (link w p).out_delivered ≡ length (link w p).out
    pub back : (p : ℕ) → (link w p).back_delivered ≡ length (link w p).back

  -- After any list of steps.
  pub record IsEverySchedule : Type 0 where
    -- the bytes sent are a beginning of the traffic
    pub out : (ss : List StarStep) (p : ℕ) (x : Side × S) → slice_get xs p ≡ Some x
        → IsPrefix (link (world k d codec plan m xs ss) p).out (bytes_out p x)
    pub back : (ss : List StarStep) (p : ℕ) (x : Side × S) → slice_get xs p ≡ Some x
        → IsPrefix (link (world k d codec plan m xs ss) p).back (bytes_back p x)
    -- the calls are a beginning of the direct machine's, a device end's of those of its port, and no end has a fault
    pub calls : (ss : List StarStep) → IsPrefix (world k d codec plan m xs ss).hub.core.calls directly.calls
    pub sound : (ss : List StarStep) → (world k d codec plan m xs ss).hub.core.fault ≡ None
    pub device_calls : (ss : List StarStep) (p : ℕ) (l : LeafEnd (DeviceEnd S F)) (x : Side × S)
        → slice_get (world k d codec plan m xs ss).leaves p ≡ Some l → slice_get xs p ≡ Some x
        → IsPrefix l.core.calls (of_port p directly.calls)
    pub device_sound : (ss : List StarStep) (p : ℕ) (l : LeafEnd (DeviceEnd S F)) (x : Side × S)
        → slice_get (world k d codec plan m xs ss).leaves p ≡ Some l → slice_get xs p ≡ Some x → l.core.fault ≡ None
    -- some step is effective, or all is as the direct machine leaves it
    pub goes_on : (ss : List StarStep)
        → IsEnd (world k d codec plan m xs ss)
        ⊎ ((s : StarStep) × (star_effective (star_of (ends k d codec)) (world k d codec plan m xs ss) s ≡ true))
    -- when the machine end is done, all is as the direct machine leaves it, and nothing is in flight
    pub ends_there : (ss : List StarStep) → (world k d codec plan m xs ss).hub.core.phase ≡ Done
        → IsEnd (world k d codec plan m xs ss) × IsDelivered (world k d codec plan m xs ss)

  -- How many steps can be effective: the local units, the boundaries where there are no ports, the packets to the
  -- device ends twice (each is sent and taken), their packets once and the posted wants that are served (for the
  -- machine end takes these, and serves), a hello of each device end, and the bytes both ways.

  abbrev pub of_side : (ℕ → Side × S → ℕ) → ℕ → Option (Side × S) → ℕ
  of_side f p None = 0
  of_side f p (Some x) = f p x

  abbrev pub over_ports : (ℕ → Side × S → ℕ) → ℕ
  over_ports f = sum_below (length xs) (λ p. of_side f p (slice_get xs p))

  abbrev pub sides : List Side
  sides = map (λ (x : Side × S). x.0) xs

  abbrev pub most_steps : ℕ
  most_steps =
      (directly.tick - accesses_in directly.history)
      + lonely_in sides directly.history
      + 2 * over_ports (λ p x. length (wire_out x.0 p directly.history))
      + over_ports (λ p x. packets_in codec (bytes_back p x))
      + posted_in sides directly.history
      + length xs
      + over_ports (λ p x. length (bytes_out p x))
      + over_ports (λ p x. length (bytes_back p x))

  abbrev pub IsBounded : Type 0
  IsBounded =
      (ss : List StarStep) → star_effective_steps (star_of (ends k d codec)) (start k d codec plan m xs) ss ≤ most_steps

  -- When the machine end is about to send on a port, what the device end of that port has sent and the machine end
  -- has not taken is no more than one packet that can be written, of at most 208 bytes.

  abbrev pub untaken : StarWorld (HubEnd (MachineEnd M F)) (LeafEnd (DeviceEnd S F)) → ℕ → List ℕ
  untaken w p = drop (get_or w.hub.taken p 0) (link w p).back

  abbrev pub IsOneAtMost : List ℕ → Type 0
  IsOneAtMost bytes =
      (bytes ≡ []) ⊎ ((x : Packet) × IsWritable x × IsPrefix bytes (codec.write x) × (length (codec.write x) ≤ 208))

  abbrev pub HasRoom : Type 0
  HasRoom = (ss : List StarStep) (next : HubEnd (MachineEnd M F)) (p : ℕ) (bytes : List ℕ)
      → (star_of (ends k d codec)).hub_turn (world k d codec plan m xs ss).hub
      (hub_received (world k d codec plan m xs ss))
      ≡ Some (next, Some (p, bytes))
      → IsOneAtMost (untaken (world k d codec plan m xs ss) p)

  -- The machine end alone, over links. `said p y` is all that the link of port p gives for sent bytes y.

  -- Each link gives what the fresh device end of its port sends.
  pub record IsHonest (said : ℕ → List ℕ → List ℕ) : Type 0 where
    pub port :
        (p : ℕ) (x : Side × S) → slice_get xs p ≡ Some x → (y : List ℕ)
        → said p y ≡ out_device d codec (device_start F x.0 x.1) y
    pub none : (p : ℕ) → slice_get xs p ≡ None → (y : List ℕ) → said p y ≡ []

  -- What comes back on port p in all.

  abbrev pub back_at : ℕ → Option (Side × S) → List ℕ
  back_at p None = []
  back_at p (Some x) = bytes_back p x

  abbrev pub IsWithin : Streams → Type 0
  IsWithin x = (p : ℕ) → IsPrefix (x p) (back_at p (slice_get xs p))

  -- The machine end over received bytes x is at h after some turns, and has sent these bytes.
  abbrev pub IsMachineRun : Streams → ℕ → HubEnd (MachineEnd M F) → Streams → Type 0
  IsMachineRun x turns h sent =
      IsHubRun (star_of (ends k d codec)) (length xs) (fresh_hub (machine_start F m (length xs) plan) (length xs))
      x turns h sent

  -- The machine end is done, as the direct machine is, and has sent the traffic.
  pub record IsDriven (h : HubEnd (MachineEnd M F)) (sent : Streams) : Type 0 where
    pub phase : h.core.phase ≡ Done
    pub sound : h.core.fault ≡ None
    pub master : h.core.master ≡ directly.master
    pub calls : h.core.calls ≡ directly.calls
    pub tick : h.core.tick ≡ directly.tick
    pub out : (p : ℕ) (x : Side × S) → slice_get xs p ≡ Some x → sent p ≡ bytes_out p x

  pub record IsOverLinks (said : ℕ → List ℕ → List ℕ) : Type 0 where
    -- whatever it has received so far, its links give no more than the traffic
    pub within : (x : Streams) (turns : ℕ) (h : HubEnd (MachineEnd M F)) (sent : Streams) → IsWithin x
        → IsMachineRun x turns h sent → IsWithin (λ p. said p (sent p))
    -- where all that they give moves it no further it is done
    pub driven : (x : Streams) (turns : ℕ) (h : HubEnd (MachineEnd M F)) (sent : Streams) → IsWithin x
        → ((p : ℕ) → IsPrefix (x p) (said p (sent p))) → IsMachineRun x turns h sent
        → (star_of (ends k d codec)).hub_turn h (λ p. said p (sent p)) ≡ None → IsDriven h sent
    -- its talk with them has its fixed point there
    pub talk : (rounds : ℕ) (x : Streams)
        → StarTalk (star_of (ends k d codec)) (length xs)
        (fresh_hub (machine_start F m (length xs) plan) (length xs)) said rounds x
        → (turns : ℕ) (h : HubEnd (MachineEnd M F)) (sent : Streams) → IsMachineRun x turns h sent
        → (star_of (ends k d codec)).hub_turn h x ≡ None → ((p : ℕ) → x p ≡ said p (sent p)) → IsDriven h sent
        × ((p : ℕ) → x p ≡ back_at p (slice_get xs p))

  abbrev pub DrivesWell : Type 0
  DrivesWell = (said : ℕ → List ℕ → List ℕ) → IsHonest said → IsOverLinks said
