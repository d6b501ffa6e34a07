-- The machine end and the device ends of a run, when they go together, and the world that they make.
use Rattle.std.specs.Prelude.{◌≡◌, ℕ, ◌^◌, ◌<◌, ◌≤◌, ◌⊎◌, Bool, true, ◌&&◌, if◌then◌else◌, nat_eq, List, [], ◌∷◌}
use Rattle.std.specs.Prelude.{length, map, Some, None, slice_get}
use Rattle.process_network.specs.Star.{StarWorld, StarStep, star_all, star_start}
use Rattle.process_network.specs.PacketStar.{Ends, HubEnd, LeafEnd, star_of, fresh_hub, fresh_leaf}
use Rattle.cosim_model.specs.declared.session.Role.TheVariants.{Machine, Device}
use Rattle.cosim_model.specs.declared.values.Call.{Call}
use Rattle.cosim_model.specs.declared.values.Call.TheVariants as call
use Rattle.cosim_model.specs.declared.values.Caps.{Caps}
use Rattle.cosim_model.specs.declared.values.Plan.{Plan}
use Rattle.cosim_model.specs.Values.{all_caps, no_caps}
use Rattle.cosim_model.specs.Parts.{DeviceModel, MasterModel}
use Rattle.cosim_model.specs.Packets.{Decoded, Codec, spell}
use Rattle.cosim_model.specs.Sessions.{fresh_session}
use Rattle.ends_model.specs.DeviceTurn.{DeviceEnd, device_outlook, device_hears, fresh_device}
use Rattle.ends_model.specs.MachineTurn.{MachineEnd, machine_outlook, machine_takes, fresh_machine}

-- What a port's end is made with: the capabilities that it offers, those that its device needs, and whether it sends
-- a line so that it is answered, where that is common.
pub record Side : Type 0 where
  pub offer : Caps
  pub needs : Caps
  pub answered_lines : Bool

abbrev pub ends :
    {M S F : Type 0} → MasterModel M → DeviceModel S → Codec F → Ends (MachineEnd M F) (DeviceEnd S F) (Decoded F)
ends k d codec = record {
  hub_outlook = machine_outlook k;
  hub_take = machine_takes k;
  leaf_outlook = device_outlook;
  leaf_take = device_hears d;
  first = codec.first;
  write = spell codec;
}

abbrev pub machine_start : {M : Type 0} → (F : Type 0) → M → ℕ → Plan → MachineEnd M F
machine_start F m n plan = fresh_machine m n plan (fresh_session Machine all_caps no_caps)

abbrev pub device_start : {S : Type 0} → (F : Type 0) → Side → S → DeviceEnd S F
device_start F side s = fresh_device s side.answered_lines (fresh_session Device side.offer side.needs)

-- When a master and ends go together: at most 16 fresh ends, each of which offers what its device needs; a master
-- that has nothing issued and names no other port, and disables no lane where a port can't say so. Each port has its
-- side and its device.
pub record Fit {M S : Type 0} (k : MasterModel M) (d : DeviceModel S) (plan : Plan) (m : M)
    (xs : List (Side × S)) : Type 0 where
  pub ports : length xs ≤ 16
  pub quantum : 0 < plan.quantum
  pub units : plan.units < 2 ^ 32
  pub seen : (p : ℕ) (x : Side × S) → slice_get xs p ≡ Some x → d.seen x.1 ≡ 0
  pub needs : (p : ℕ) (x : Side × S) → slice_get xs p ≡ Some x → d.needs x.1 ≡ x.0.needs
  pub base : (p : ℕ) (x : Side × S) → slice_get xs p ≡ Some x → x.0.needs.base ≡ true → x.0.offer.base ≡ true
  pub enables : (p : ℕ) (x : Side × S) → slice_get xs p ≡ Some x → x.0.needs.enables ≡ true → x.0.offer.enables ≡ true
  pub wires : (p : ℕ) (x : Side × S) → slice_get xs p ≡ Some x → x.0.needs.posted ≡ true → x.0.offer.posted ≡ true
  pub reach : k.reach m ≤ length xs
  pub issued : k.issued m ≡ None
  pub full :
      (k.full m ≡ true)
      ⊎ ((p : ℕ) (x : Side × S) → slice_get xs p ≡ Some x → x.0.offer.base && x.0.offer.enables ≡ true)

-- The calls of port p as its device end has them: with port 0.

abbrev pub own_call : ℕ → Call → List Call → List Call
own_call p (call.Access t q a x) cs = if nat_eq q p then call.Access t 0 a x ∷ cs else cs
own_call p (call.Served t q due w r) cs = if nat_eq q p then call.Served t 0 due w r ∷ cs else cs

abbrev pub of_port : ℕ → List Call → List Call
of_port p [] = []
of_port p (c ∷ cs) = own_call p c (of_port p cs)

module _ {M S F : Type 0} (k : MasterModel M) (d : DeviceModel S) (codec : Codec F) (plan : Plan) (m : M)
    (xs : List (Side × S)) where
  abbrev pub device_starts : List (DeviceEnd S F)
  device_starts = map (λ (x : Side × S). device_start F x.0 x.1) xs

  abbrev pub start : StarWorld (HubEnd (MachineEnd M F)) (LeafEnd (DeviceEnd S F))
  start =
      star_start (fresh_hub (machine_start F m (length xs) plan) (length device_starts)) (map fresh_leaf device_starts)

  -- The world after a list of steps: turns of the ends, and deliveries.
  abbrev pub world : List StarStep → StarWorld (HubEnd (MachineEnd M F)) (LeafEnd (DeviceEnd S F))
  world ss = star_all (star_of (ends k d codec)) start ss
