-- How a machine end ends over received bytes, and how its talk with its links ends.
use Rattle.std.specs.Prelude.{◌≡◌, ℕ, ◌≤◌, List, [], length, drop, get_or, Option, Some, None, Result, Ok, Err}
use Rattle.process_network.specs.Network.{Streams}
use Rattle.process_network.specs.PacketStar.{fresh_hub, star_of}
use Rattle.process_network.specs.PacketStar.HubOutlook.{HubWaits}
use Rattle.process_network.specs.StarTalk.{StarTalk}
use Rattle.process_network.specs.TellingLinks.{IsFixed}
use Rattle.cosim_model.specs.declared.session.EndFault.{EndFault}
use Rattle.cosim_model.specs.declared.session.EndFault.TheVariants as fault
use Rattle.cosim_model.specs.Parts.{MasterModel}
use Rattle.ends_model.specs.declared.ends.Phase.TheVariants.{Done}
use Rattle.ends_model.specs.MachineTurn.{MachineEnd, machine_outlook}
use Rattle.rp_framing.specs.Framing.{counted}
use Rattle.rp_packet.specs.declared.fault.Cause.{Cause}
use Rattle.rp_packet.specs.declared.fault.PacketFault.{PacketFault}
use Rattle.rp_packet.specs.Streams.{packet_codec}
use Rattle.end_answers.specs.Faults.{IsPlaced}
use Rattle.machine_turns.specs.declared.fault.TurnFault.{TurnFault}
use Rattle.machine_turns.specs.declared.fault.TurnFault.TheVariants as turn_fault
use Rattle.machine_turns.specs.Runs.{IsRun, Rests, Taking, machine_alone}
use Rattle.end_machine.specs.Wires.{Said}

-- how many bytes of a port were taken, and those that were not
abbrev pub taken_of : {M : Type 0} → Taking M → ℕ → ℕ
taken_of h p = get_or h.taken p 0

abbrev pub rest_of : {M : Type 0} → Taking M → Streams → ℕ → List ℕ
rest_of h x p = drop (taken_of h p) (x p)

-- The end took every turn that it could over the received bytes, and no more come on the port that it awaits: it ends
-- with this fault. Within a packet the stream of that port ends in Truncated, and else in Ended; both tell how many
-- bytes were taken, up to 2^64 - 1. A packet that is refused is told, a malformed one with its place.
abbrev pub FailsSo : {M : Type 0} → MasterModel M → Taking M → Streams → ℕ → EndFault PacketFault → Type 0
FailsSo k h x p (fault.Ended taken) =
    (machine_outlook k h.core ≡ HubWaits p) × (rest_of h x p ≡ []) × (taken ≡ counted (taken_of h p))
FailsSo k h x p (fault.Truncated start held) =
    (machine_outlook k h.core ≡ HubWaits p) × (start ≡ counted (taken_of h p)) × (held ≡ length (rest_of h x p))
    × (1 ≤ held)
FailsSo k h x p (fault.Malformed f) =
    (h.core.fault ≡ Some (p, fault.Malformed f.cause)) × IsPlaced (x p) (Some (fault.Malformed f))
FailsSo k h x p (fault.Session f) = h.core.fault ≡ Some (p, fault.Session f)
FailsSo k h x p (fault.LateWant at got) = h.core.fault ≡ Some (p, fault.LateWant at got)
FailsSo k h x p (fault.TooMuch taken) = ⊥
FailsSo k h x p (fault.Link count) = ⊥
FailsSo k h x p (fault.Astray cmd) = ⊥
FailsSo k h x p fault.NoMemory = ⊥

-- It is done, or ends with a fault.
abbrev pub EndsSo : {M : Type 0} → MasterModel M → Taking M → Streams → Result Unit TurnFault → Type 0
EndsSo k h x (Ok u) = (h.core.phase ≡ Done) × (h.core.fault ≡ None)
EndsSo k h x (Err (turn_fault.Port f)) = FailsSo k h x f.port f.fault
EndsSo k h x (Err turn_fault.NoMemory) = ⊥

-- its master, calls and ticks are those of that run
abbrev pub HasParts : {M : Type 0} → MachineEnd M Cause → Taking M → Type 0
HasParts e h = (e.master ≡ h.core.master) × (e.calls ≡ h.core.calls) × (e.tick ≡ h.core.tick)

-- Talk of a machine end with links that say this comes to a round that gives what the next one gives, ends there so,
-- and leaves the master, the calls and the ticks.
pub record TalkEnds {M : Type 0} (k : MasterModel M) (start : MachineEnd M Cause) (ports : ℕ) (said : Said)
    (e : MachineEnd M Cause) (r : Result Unit TurnFault) : Type 0 where
  pub rounds : ℕ
  pub received : Streams
  pub turns : ℕ
  pub hub : Taking M
  pub sent : Streams
  pub talk :
      StarTalk (star_of (machine_alone k packet_codec)) ports (fresh_hub start ports) said rounds received
  pub run : IsRun k start ports received turns hub sent
  pub rests : Rests k hub received
  pub fixed : IsFixed said received sent
  pub ends : EndsSo k hub received r
  pub parts : HasParts e hub

-- the one fact where a link is blamed, and else the other
abbrev pub IfLink : EndFault PacketFault → Type 0 → Type 0 → Type 0
IfLink (fault.Link count) P Q = P
IfLink (fault.Ended taken) P Q = Q
IfLink (fault.Truncated start held) P Q = Q
IfLink (fault.Malformed f) P Q = Q
IfLink (fault.Session f) P Q = Q
IfLink (fault.LateWant at got) P Q = Q
IfLink (fault.TooMuch taken) P Q = Q
IfLink (fault.Astray cmd) P Q = Q
IfLink fault.NoMemory P Q = Q

-- The answer is Talk's. Nothing is said of want of memory, and of a link that failed.
abbrev pub ByTalk :
    {M : Type 0} → MasterModel M → MachineEnd M Cause → ℕ → Said → MachineEnd M Cause → Result Unit TurnFault
    → Type 0
ByTalk k start ports said e (Ok u) = TalkEnds k start ports said e (Ok u)
ByTalk k start ports said e (Err (turn_fault.Port f)) =
    IfLink f.fault (Unit {0}) (TalkEnds k start ports said e (Err (turn_fault.Port f)))
ByTalk k start ports said e (Err turn_fault.NoMemory) = Unit {0}
