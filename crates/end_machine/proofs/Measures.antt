-- A machine end takes a bounded number of turns: what is left to do falls with each.
use Rattle.std.proofs.Common.{◌≡◌, ℕ, zero, suc, ◌<◌, List, [], Option, Some, None, refl, sym, ap, subst}
use Rattle.std.proofs.lemmas.Option.{same_Some, none-some}
use Rattle.process_network.specs.Network.{Streams}
use Rattle.process_network.specs.PacketStar.{HubEnd, HubOutlook, star_of, fresh_hub, hub_turn_by, hub_after_take}
use Rattle.process_network.specs.PacketStar.HubOutlook.{HubActs, HubWaits, HubHalts}
use Rattle.process_network.specs.StarTalk.{IsHubRun}
use Rattle.process_network.specs.TellingLinks.{HubWorkBounded}
use Rattle.cosim_model.specs.declared.values.Plan.{Plan}
use Rattle.cosim_model.specs.Values.{no_caps}
use Rattle.cosim_model.specs.Parts.{DeviceModel, MasterModel}
use Rattle.cosim_model.specs.Packets.{Decoded}
use Rattle.ends_model.specs.MachineTurn.{MachineEnd, machine_outlook, machine_takes}
use Rattle.ends_model.specs.World.{machine_start}
use Rattle.every_schedule.proofs.Talks as talks
use Rattle.rp_packet.specs.declared.fault.Cause.{Cause}
use Rattle.rp_packet.specs.Streams.{packet_codec}
use Rattle.machine_turns.specs.Runs.{IsRun, Taking, machine_alone}

-- a device that does nothing, since what is left to do doesn't depend on devices
abbrev no_device : DeviceModel (Unit {0})
no_device = record {
  access = λ s t a. (s, record { code = 0; value = 0 });
  advance = λ s t. s;
  want = λ s. None;
  feed = λ s r. s;
  seen = λ s. 0;
  due = λ s. 0;
  left = λ s. 0;
  needs = λ s. no_caps;
}

module _ {M : Type 0} (k : MasterModel M) (plan : Plan) (n : ℕ) where
  abbrev H : Type 0
  H = MachineEnd M Cause

  -- what is left to do
  abbrev pub left : H → ℕ
  left h = talks.left k no_device packet_codec plan n h

  -- what holds of an end in every run
  abbrev pub Holds : H → Type 0
  Holds h = talks.Holds k no_device packet_codec plan n h

  pub start-holds : (m : M) → Holds (machine_start Cause m n plan)
  start-holds m = talks.fresh_holds k no_device packet_codec plan n m

  pub acts-on : (h : H) → Holds h → (next : H) (sends : Option (ℕ × Decoded Cause))
      → machine_outlook k h ≡ HubActs next sends
      → Holds next × (left next < left h)
  acts-on h holds next sends is = talks.acted k no_device packet_codec plan n h holds next sends is

  pub takes-on : (h : H) → Holds h → (p : ℕ) → machine_outlook k h ≡ HubWaits p → (m : Decoded Cause)
      → Holds (machine_takes k h p m) × (left (machine_takes k h p m) < left h)
  takes-on h holds p is m = talks.taken k no_device packet_codec plan n h holds p is m

  pub waits-there : (h : H) → Holds h → (p : ℕ) → machine_outlook k h ≡ HubWaits p → p < n
  waits-there h holds p is =
      subst (λ v. talks.Goes k no_device packet_codec plan n h v) is
      (talks.machine_goes k no_device packet_codec plan n h holds)

  -- a turn keeps it

  took-holds : (s : Taking M) (r : Taking M × Option (ℕ × List ℕ)) (p : ℕ) (o : Option (Decoded Cause × ℕ))
      → Holds s.core
      → machine_outlook k s.core ≡ HubWaits p → hub_after_take (machine_alone k packet_codec) s p o ≡ Some r
      → Holds r.0.core
  took-holds s r p None holds is t = absurd (none-some r t)
  took-holds s r p (Some m) holds is t =
      subst (λ (v : Taking M × Option (ℕ × List ℕ)). Holds v.0.core) (same_Some _ r t) (takes-on s.core holds p is
      m.0).0

  turn-holds : (x : Streams) (s : Taking M) (r : Taking M × Option (ℕ × List ℕ)) (v : HubOutlook H (Decoded Cause))
      → Holds s.core
      → machine_outlook k s.core ≡ v → hub_turn_by (machine_alone k packet_codec) s x v ≡ Some r → Holds r.0.core
  turn-holds x s r (HubActs next sends) holds is t =
      subst (λ (v : Taking M × Option (ℕ × List ℕ)). Holds v.0.core) (same_Some _ r t) (acts-on s.core holds next
      sends is).0
  turn-holds x s r (HubWaits p) holds is t = took-holds s r p _ holds is t
  turn-holds x s r HubHalts holds is t = absurd (none-some r t)

  pub run-holds : (m : M) (x : Streams) (turns : ℕ) (h : Taking M) (o : Streams)
      → IsRun k (machine_start Cause m n plan) n x turns h o → Holds h.core
  run-holds m x zero h o run = subst (λ (h : Taking M). Holds h.core) (sym run.0) (start-holds m)
  run-holds m x (suc turns) h o run =
      turn-holds x run.0 (h, run.2) (machine_outlook k run.0.core) (run-holds m x turns run.0 run.1 run.3) refl run.4

  pub work-bounded : (m : M) → HubWorkBounded (machine_alone k packet_codec) n (machine_start Cause m n plan)
  work-bounded m = record {
    left = left;
    acts = λ x turns h o run next sends is. (acts-on h.core (run-holds m x turns h o run) next sends is).1;
    takes = λ x turns h o run p c is. (takes-on h.core (run-holds m x turns h o run) p is c).1;
  }
