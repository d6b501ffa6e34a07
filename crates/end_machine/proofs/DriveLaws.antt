-- What driving leaves is by Talk, and over honest links it is what the direct machine leaves.
use Rattle.std.proofs.Common.{◌≡◌, ℕ, zero, suc, ◌<◌, List, [], ◌∷◌, ◌++◌, drop, length, get_or, map, refl, sym, ap}
use Rattle.std.proofs.Common.{◌∙◌, subst, Result, Ok, Err}
use Rattle.std.specs.Prelude.{Option, Some, None, slice_get}
use Rattle.std.proofs.lemmas.Option.{none-some, same_Some}
use Rattle.byte_streams.specs.Prefixes.{IsPrefix}
use Rattle.byte_streams.proofs.Prefixes.{Grows-IsPrefix, IsPrefix-same}
use Rattle.process_network.specs.Network.{Below, Streams}
use Rattle.process_network.specs.PacketStar.{HubOutlook, hub_after_take, hub_turn_by}
use Rattle.process_network.specs.PacketStar.HubOutlook.{HubActs, HubWaits, HubHalts}
use Rattle.process_network.specs.TellingLinks.{IsTelling}
use Rattle.cos_base.specs.Links.{Wire, IsWire}
use Rattle.cosim_model.specs.declared.session.EndFault.{EndFault}
use Rattle.cosim_model.specs.declared.session.EndFault.TheVariants as fault
use Rattle.cosim_model.specs.declared.values.Plan.{Plan}
use Rattle.cosim_model.specs.Parts.{MasterModel}
use Rattle.ends_model.specs.declared.ends.Phase.{Phase}
use Rattle.ends_model.specs.declared.ends.Phase.TheVariants.{Done}
use Rattle.ends_model.specs.MachineTurn.{MachineEnd, acts_in, acts_unless, machine_outlook, outlook_of}
use Rattle.ends_model.specs.World.{machine_start}
use Rattle.rp_packet.specs.declared.fault.Cause.{Cause}
use Rattle.rp_packet.specs.declared.fault.PacketFault.{PacketFault}
use Rattle.rp_packet.specs.Streams.{packet_codec}
use Rattle.end_answers.specs.Faults.{IsPlaced, placed-longer}
use Rattle.machine_turns.specs.declared.fault.TurnFault.{TurnFault}
use Rattle.machine_turns.specs.declared.fault.TurnFault.TheVariants as turn_fault
use Rattle.machine_turns.specs.Runs.{Rests, Taking, machine_alone}
use Rattle.end_machine.specs.Wires.{Said, received_of, received_on, said_of, said_on, sent_of, sent_on}
use Rattle.end_machine.specs.Talk.{ByTalk, EndsSo, FailsSo, TalkEnds}
use Rattle.end_machine.specs.Driving.{IsAllRead, IsDriven, Leaves, Tells}
use Rattle.end_machine.proofs.TalkLaws.{Settled, settles}
use Rattle.end_machine.proofs.WireLaws.{tell-size, tell-some}

-- More bytes of a port that isn't awaited change nothing, and neither do any behind a refusal or at the end.

pub looks-halted : {M : Type 0} (k : MasterModel M) (h : MachineEnd M Cause) (f : ℕ × EndFault Cause) → h.fault ≡ Some f
    → machine_outlook k h ≡ HubHalts
looks-halted k h f is = ap (λ o. outlook_of (acts_unless k h o)) is

pub looks-done : {M : Type 0} (k : MasterModel M) (h : MachineEnd M Cause) → h.phase ≡ Done → h.fault ≡ None
    → machine_outlook k h ≡ HubHalts
looks-done k h phase none =
    ap (λ o. outlook_of (acts_unless k h o)) none ∙ ap (λ (i : Phase). outlook_of (acts_in k h i)) phase

waits-is : {H P : Type 0} (p q : ℕ) → ◌≡◌ {A = HubOutlook H P} (HubWaits p) (HubWaits q) → p ≡ q
waits-is p q is = cc (is)

pub not-halts : {H P : Type 0} (p : ℕ) → ◌≡◌ {A = HubOutlook H P} HubHalts (HubWaits p) → ⊥
not-halts p is = cc (is)

module _ {M : Type 0} (k : MasterModel M) where
  halts : (h : Taking M) (x : Streams) → machine_outlook k h.core ≡ HubHalts → Rests k h x
  halts h x is = ap (hub_turn_by (machine_alone k packet_codec) h x) is

  awaits-same : (h : Taking M) (x y : Streams) (p : ℕ) → machine_outlook k h.core ≡ HubWaits p → x p ≡ y p → Rests k h x
      → Rests k h y
  awaits-same h x y p is same rests =
      ap (hub_turn_by (machine_alone k packet_codec) h y) is
      ∙ ap (λ b. hub_after_take (machine_alone k packet_codec) h p (packet_codec.first (drop (get_or h.taken p 0)
      b))) (sym same)
      ∙ sym (ap (hub_turn_by (machine_alone k packet_codec) h x) is) ∙ rests

  -- an end that rests over what was received rests over all that the links give for what it sent
  rests-given : (h : Taking M) (x sent : Streams) (said : Said) (r : Result Unit TurnFault) → Rests k h x
      → EndsSo k h x r
      → IsAllRead said x sent r → Rests k h (λ p. said p (sent p))
  rests-given h x sent said (Ok u) rests ends all = halts h _ (looks-done k h.core ends.0 ends.1)
  rests-given h x sent said (Err turn_fault.NoMemory) rests ends all = absurd ends
  rests-given h x sent said (Err (turn_fault.Port f)) rests ends all = by f.port f.fault ends all
    where
      by : (p : ℕ) (e : EndFault PacketFault) → FailsSo k h x p e
          → IsAllRead said x sent (Err (turn_fault.Port (record { port = p; fault = e })))
          → Rests k h (λ p. said p (sent p))
      by p (fault.Ended n) ends all = awaits-same h x _ p ends.0 all rests
      by p (fault.Truncated a b) ends all = awaits-same h x _ p ends.0 all rests
      by p (fault.Malformed f) ends all = halts h _ (looks-halted k h.core _ ends.0)
      by p (fault.Session f) ends all = halts h _ (looks-halted k h.core _ ends)
      by p (fault.LateWant at got) ends all = halts h _ (looks-halted k h.core _ ends)
      by p (fault.TooMuch n) ends all = absurd ends
      by p (fault.Link n) ends all = absurd ends
      by p (fault.Astray n) ends all = absurd ends
      by p fault.NoMemory ends all = absurd ends

  -- and ends in the same way
  ends-given : (h : Taking M) (x y : Streams) (r : Result Unit TurnFault) → Below x y
      → ((p : ℕ) → machine_outlook k h.core ≡ HubWaits p → x p ≡ y p) → EndsSo k h x r → EndsSo k h y r
  ends-given h x y (Ok u) below same ends = ends
  ends-given h x y (Err turn_fault.NoMemory) below same ends = absurd ends
  ends-given h x y (Err (turn_fault.Port f)) below same ends = by f.port f.fault ends
    where
      by : (p : ℕ) (e : EndFault PacketFault) → FailsSo k h x p e → FailsSo k h y p e
      by p (fault.Ended n) ends =
          (ends.0, ap (drop (get_or h.taken p 0)) (sym (same p ends.0)) ∙ ends.1, ends.2)
      by p (fault.Truncated a b) ends =
          (ends.0, ends.1, ends.2 ∙ ap (λ x. length (drop (get_or h.taken p 0) x)) (same p ends.0), ends.3)
      by p (fault.Malformed f) ends = (
        ends.0,
        subst (λ b. IsPlaced b (Some (fault.Malformed f))) (below p).1
            (placed-longer (x p) (below p).0 (fault.Malformed f) ends.1),
      )
      by p (fault.Session f) ends = ends
      by p (fault.LateWant at got) ends = ends
      by p (fault.TooMuch n) ends = absurd ends
      by p (fault.Link n) ends = absurd ends
      by p (fault.Astray n) ends = absurd ends
      by p fault.NoMemory ends = absurd ends

-- What the links of a list of wires give.

pub telling-on : (ws : List Wire) → ((p : ℕ) (w : Wire) → slice_get ws p ≡ Some w → IsWire w) → IsTelling (said_on ws)
telling-on ws wires p y z less = by (slice_get ws p) refl
  where
    by : (o : Option Wire) → slice_get ws p ≡ o → IsPrefix (said_of o y) (said_of o z)
    by None is = IsPrefix-same []
    by (Some w) is = Grows-IsPrefix w.said y z (wires p w is).grows less

module _ {M : Type 0} (k : MasterModel M) (plan : Plan) (m : M) where
  -- What is driven is where Talk ends.

  within-said : (ns : List Wire) (said : Said) → ((p : ℕ) → said_on ns p ≡ said p)
      → ((p : ℕ) (w : Wire) → slice_get ns p ≡ Some w → IsWire w) → Below (received_on ns) (λ p. said p (sent_on ns p))
  within-said ns said same wires p =
      subst (λ (f : List ℕ → List ℕ). IsPrefix (received_on ns p) (f (sent_on ns p))) (same p) (by (slice_get ns p)
      refl)
    where
      by : (o : Option Wire) → slice_get ns p ≡ o → IsPrefix (received_of o) (said_of o (sent_of o))
      by None is = IsPrefix-same []
      by (Some w) is = (wires p w is).within

  -- a port that is awaited, all of whose bytes were read
  all-read : (h : Taking M) (x sent : Streams) (said : Said) (r : Result Unit TurnFault) → EndsSo k h x r
      → IsAllRead said x sent r → (p : ℕ) → machine_outlook k h.core ≡ HubWaits p → x p ≡ said p (sent p)
  all-read h x sent said (Ok u) ends all p is =
      absurd (not-halts p (sym (looks-done k h.core ends.0 ends.1) ∙ is))
  all-read h x sent said (Err turn_fault.NoMemory) ends all p is = absurd ends
  all-read h x sent said (Err (turn_fault.Port f)) ends all p is = by f.port f.fault ends all
    where
      same-port : (q : ℕ) → machine_outlook k h.core ≡ HubWaits q → q ≡ p
      same-port q waits = waits-is q p (sym waits ∙ is)

      by : (q : ℕ) (e : EndFault PacketFault) → FailsSo k h x q e
          → IsAllRead said x sent (Err (turn_fault.Port (record { port = q; fault = e }))) → x p ≡ said p (sent p)
      by q (fault.Ended n) ends all = subst (λ i. x i ≡ said i (sent i)) (same-port q ends.0) all
      by q (fault.Truncated a b) ends all = subst (λ i. x i ≡ said i (sent i)) (same-port q ends.0) all
      by q (fault.Malformed f) ends all = absurd (not-halts p (sym (looks-halted k h.core _ ends.0) ∙ is))
      by q (fault.Session f) ends all = absurd (not-halts p (sym (looks-halted k h.core _ ends) ∙ is))
      by q (fault.LateWant at got) ends all = absurd (not-halts p (sym (looks-halted k h.core _ ends) ∙ is))
      by q (fault.TooMuch n) ends all = absurd ends
      by q (fault.Link n) ends all = absurd ends
      by q (fault.Astray n) ends all = absurd ends
      by q fault.NoMemory ends all = absurd ends

  driven-talk : (said : Said) (e : MachineEnd M Cause) (r : Result Unit TurnFault) (ns : List Wire) → IsTelling said
      → ((p : ℕ) (w : Wire) → slice_get ns p ≡ Some w → IsWire w)
      → IsDriven k (machine_start Cause m (length ns) plan) said e r ns
      → TalkEnds k (machine_start Cause m (length ns) plan) (length ns) said e r
  driven-talk said e r ns telling wires is =
      let x = received_on ns in
      let sent = sent_on ns in
      let h = is.hub in
      let within = within-said ns said is.same wires in
      let rests = rests-given k h x sent said r is.whole.rests is.ends is.all in
      let settled = settles k plan (length ns) m said telling x is.whole.turns h sent is.whole.run within rests
      is.in_time in
      let longer : (p : ℕ) → said p (sent p) ≡ settled.given p = λ p. sym (settled.fixed p) in
      record {
        rounds = settled.rounds;
        received = settled.given;
        turns = is.whole.turns;
        hub = h;
        sent = sent;
        talk = settled.talk;
        run = settled.run;
        rests = settled.rests;
        fixed = settled.fixed;
        ends = ends-given k h x settled.given r (λ p. subst (IsPrefix (x p)) (longer p) (within p))
            (λ p waits. all-read h x sent said r is.ends is.all p waits ∙ longer p) is.ends;
        parts = is.parts;
      }

  pub leaves-talk : (said : Said) (e : MachineEnd M Cause) (r : Result Unit TurnFault) (now : List (Option Wire))
      → IsTelling said
      → ((p : ℕ) (w : Wire) → slice_get now p ≡ Some (Some w) → IsWire w)
      → Leaves k (machine_start Cause m (length now) plan) said e r now
      → ByTalk k (machine_start Cause m (length now) plan) (length now) said e r
  leaves-talk said e r now telling wires left = by r left
    where
      told : (r : Result Unit TurnFault) → Tells now (IsDriven k (machine_start Cause m (length now) plan) said e r)
          → TalkEnds k (machine_start Cause m (length now) plan) (length now) said e r
      told r (ns, tell, is) =
          let size = tell-size now ns tell in
          subst (λ n. TalkEnds k (machine_start Cause m n plan) n said e r) (sym size)
          (driven-talk said e r ns telling (λ p w there. wires p w (tell-some now ns p w tell there))
          (subst (λ n. IsDriven k (machine_start Cause m n plan) said e r ns) size is))

      faults : (p : ℕ) (x : EndFault PacketFault)
          → Leaves k (machine_start Cause m (length now) plan) said e (Err (turn_fault.Port (record {
            port = p;
            fault
                = x;
          }))) now
          → ByTalk k (machine_start Cause m (length now) plan) (length now) said e (Err (turn_fault.Port (record {
            port = p;
            fault = x;
          })))
      faults p (fault.Link n) left = tt
      faults p (fault.Ended n) left = told _ left
      faults p (fault.Truncated a b) left = told _ left
      faults p (fault.Malformed f) left = told _ left
      faults p (fault.Session f) left = told _ left
      faults p (fault.LateWant at got) left = told _ left
      faults p (fault.TooMuch n) left = told _ left
      faults p (fault.Astray n) left = told _ left
      faults p fault.NoMemory left = told _ left

      by : (r : Result Unit TurnFault) → Leaves k (machine_start Cause m (length now) plan) said e r now
          → ByTalk k (machine_start Cause m (length now) plan) (length now) said e r
      by (Ok u) left = told (Ok u) left
      by (Err turn_fault.NoMemory) left = tt
      by (Err (turn_fault.Port f)) left = faults f.port f.fault left
