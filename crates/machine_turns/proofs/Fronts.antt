-- What stands at the front of a port's bytes at a turn, and that each port that a turn speaks of is there.
use Rattle.std.proofs.Common.{◌≡◌, ℕ, ◌<◌, Bool, true, false, List, [], ◌∷◌, length, map, refl, sym, ap, ◌∙◌, subst}
use Rattle.std.proofs.Common.{arith, Ok}
use Rattle.std.specs.Prelude.{Option, Some, None, slice_get}
use Rattle.std.proofs.lemmas.List.{length-map}
use Rattle.std.proofs.lemmas.Option.{none-some, slice_get_within}
use Rattle.cosim_model.specs.declared.session.EndFault.{EndFault}
use Rattle.cosim_model.specs.declared.values.Bus.{Bus}
use Rattle.cosim_model.specs.Order.{least}
use Rattle.cosim_model.specs.Packets.{Packet}
use Rattle.cosim_model.specs.Parts.{MasterModel}
use Rattle.cosim_model.specs.Sessions.{is_posted}
use Rattle.ends_model.specs.declared.ends.Phase.{Phase}
use Rattle.ends_model.specs.declared.ends.Phase.TheVariants.{Greet, Meet, Run, AnswerFrom, SyncTo, Gather, Done}
use Rattle.ends_model.specs.declared.ends.Turn.{Turn}
use Rattle.ends_model.specs.MachineTurn.{Act, PortEnd, MachineEnd, accesses, acts_in, acts_unless, at_port}
use Rattle.ends_model.specs.MachineTurn.{first_true, gathers, greets, held_time, is_due, is_unknown, machine_acts}
use Rattle.ends_model.specs.MachineTurn.{runs, serves, serves_held, serves_least, syncs, works}
use Rattle.ends_model.specs.MachineTurn.Act.{Works, Sends, Awaits, Serves, Marks, Rests, Fails, Lost}
use Rattle.rp_framing.specs.Framing.{Frames}
use Rattle.rp_packet.specs.declared.fault.Cause.{Cause}
use Rattle.rp_packet.specs.declared.fault.PacketFault.{PacketFault}
use Rattle.machine_core.specs.Machines.{Core, Does, awaited}
use Rattle.machine_core.specs.declared.fault.HearFault.{HearFault}
use Rattle.machine_core.specs.declared.fault.HearFault.TheVariants as hear
use Rattle.machine_turns.specs.declared.fault.PortFault.{PortFault}
use Rattle.machine_turns.specs.Ends.{End, IsAtFront, IsBlamedAt, IsWaiting, heard_fault, received}
use Rattle.machine_turns.specs.EndLaws.{waits-awaits, waits-clear}
use Rattle.machine_turns.proofs.Turning.{made}

-- what is sent goes to one of so many ports
abbrev pub GoesThere : {M : Type 0} → ℕ → Act M Cause → Type 0
GoesThere n (Sends p x next) = p < n
GoesThere n (Works next) = Unit {0}
GoesThere n (Awaits p) = Unit {0}
GoesThere n (Serves p next) = Unit {0}
GoesThere n (Marks next) = Unit {0}
GoesThere n Rests = Unit {0}
GoesThere n (Fails p fault) = Unit {0}
GoesThere n Lost = Unit {0}

module _ {M : Type 0} (k : MasterModel M) (h : MachineEnd M Cause) where
  greets-there : (p : ℕ) (o : Option PortEnd) → slice_get h.ports p ≡ o
      → GoesThere (length h.ports) (at_port {M = M} {F = Cause} o (greets k h p))
  greets-there p None at = tt
  greets-there p (Some q) at = slice_get_within h.ports p q at

  syncs-there : (p : ℕ) (o : Option PortEnd) → slice_get h.ports p ≡ o
      → GoesThere (length h.ports) (at_port {M = M} {F = Cause} o (syncs k h p))
  syncs-there p None at = tt
  syncs-there p (Some q) at = slice_get_within h.ports p q at

  access-there : (m : M) (b : Bus) (posted : Bool) (o : Option PortEnd) → slice_get h.ports b.port ≡ o
      → GoesThere (length h.ports) (at_port {M = M} {F = Cause} o (accesses k h m b.port b.access posted))
  access-there m b posted None at = tt
  access-there m b true (Some q) at = slice_get_within h.ports b.port q at
  access-there m b false (Some q) at = slice_get_within h.ports b.port q at

  works-there : (m : M) (o : Option Bus) → GoesThere (length h.ports) (works k h m o)
  works-there m None = tt
  works-there m (Some b) = access-there m b b.access.posted (slice_get h.ports b.port) refl

  runs-there : (due : Bool) (qs : List PortEnd) → h.ports ≡ qs → GoesThere (length h.ports) (runs k h due qs)
  runs-there true [] is = tt
  runs-there true (q ∷ qs) is = slice_get_within h.ports 0 q (ap (λ ps. slice_get ps 0) is)
  runs-there false qs is = works-there (k.issue h.master).0 (k.issue h.master).1

  serves-there : (p : ℕ) (q : PortEnd) (m : Packet) (posted : Bool) → slice_get h.ports p ≡ Some q
      → GoesThere (length h.ports) (serves k h p q m posted)
  serves-there p q m true at = tt
  serves-there p q m false at = slice_get_within h.ports p q at

  held-there : (p : ℕ) (q : PortEnd) (o : Option Packet) → slice_get h.ports p ≡ Some q
      → GoesThere (length h.ports) (serves_held k h p q o)
  held-there p q None at = tt
  held-there p q (Some m) at = serves-there p q m (is_posted q.session.common m) at

  least-there : (o : Option (ℕ × ℕ)) → GoesThere (length h.ports) (serves_least k h o)
  least-there None = tt
  least-there (Some r) = by (slice_get h.ports r.0) refl
    where
      by : (o : Option PortEnd) → slice_get h.ports r.0 ≡ o
          → GoesThere (length h.ports) (at_port {M = M} {F = Cause} o (λ q. serves_held k h r.0 q q.held))
      by None at = tt
      by (Some q) at = held-there r.0 q q.held at

  gathers-there : (o : Option ℕ) → GoesThere (length h.ports) (gathers k h o)
  gathers-there None = least-there (least (map held_time h.ports))
  gathers-there (Some p) = tt

  in-phase : (phase : Phase) → GoesThere (length h.ports) (acts_in k h phase)
  in-phase (Greet p) = greets-there p (slice_get h.ports p) refl
  in-phase (Meet p) = tt
  in-phase Run = runs-there (is_due k h) h.ports refl
  in-phase (AnswerFrom p a) = tt
  in-phase (SyncTo p) = syncs-there p (slice_get h.ports p) refl
  in-phase Gather = gathers-there (first_true (map is_unknown h.ports))
  in-phase Done = tt

  there-unless : (o : Option (ℕ × EndFault Cause)) → GoesThere (length h.ports) (acts_unless k h o)
  there-unless None = in-phase h.phase
  there-unless (Some f) = tt

  act-there : GoesThere (length h.ports) (machine_acts k h)
  act-there = there-unless h.fault

-- a turn that takes no packet

acted-at : {M : Type 0} (e : End M) (old new : Core M) (before after : List ℕ) (a : Act M Cause) (t : Turn)
    → GoesThere (length e.ports) a → awaited a ≡ None → Does a old new before after t → IsAtFront e (Ok t)
acted-at e old new before after (Works next) t there none does = subst (λ u. IsAtFront e (Ok u)) (sym does.0) tt
acted-at e old new before after (Sends p x next) t there none does = subst (λ u. IsAtFront e (Ok u)) (sym does.0) there
acted-at e old new before after (Awaits p) t there none does = absurd (none-some p (sym none))
acted-at e old new before after (Serves p next) t there none does = subst (λ u. IsAtFront e (Ok u)) (sym does.0) tt
acted-at e old new before after (Marks next) t there none does = subst (λ u. IsAtFront e (Ok u)) (sym does.0) tt
acted-at e old new before after Rests t there none does = subst (λ u. IsAtFront e (Ok u)) (sym does.0) tt
acted-at e old new before after (Fails p f) t there none does = absurd does
acted-at e old new before after Lost t there none does = absurd does

pub acted-front : {M : Type 0} (k : MasterModel M) (clear : MachineEnd M Cause) (kept : Option PortFault)
    (fs : List Frames) (old new : Core M) (before after : List ℕ) (t : Turn) → length fs ≡ length clear.ports
    → awaited (machine_acts k clear) ≡ None → Does (machine_acts k clear) old new before after t
    → IsAtFront (made clear kept fs) (Ok t)
acted-front k clear kept fs old new before after t size none does =
    acted-at (made clear kept fs) old new before after (machine_acts k clear) t
    (subst (λ n. GoesThere n (machine_acts k clear)) (sym (length-map fs received ∙ size)) (act-there k clear)) none
    does

-- a packet that is not taken
pub heard-blamed : (taken : ℕ) (held : List ℕ) (f : HearFault) (x : EndFault PacketFault) → x ≡ heard_fault f
    → IsBlamedAt taken held x
heard-blamed taken held (hear.Session f) x is = subst (λ y. IsBlamedAt taken held y) (sym is) tt
heard-blamed taken held (hear.LateWant at got) x is = subst (λ y. IsBlamedAt taken held y) (sym is) tt

-- an end waits for a packet of a port that is there
pub waits-there : {M : Type 0} (k : MasterModel M) (clear : MachineEnd M Cause) (kept : Option PortFault)
    (fs : List Frames) (e : End M) → made clear kept fs ≡ e → clear.fault ≡ None → length fs ≡ length clear.ports
    → ((p : ℕ) → awaited (machine_acts k clear) ≡ Some p → p < length clear.ports) → (p : ℕ) → IsWaiting k p e
    → p < length e.ports
waits-there k clear kept fs e view none size there p waits =
    let at = made clear kept fs in
    let waiting = subst (λ x. IsWaiting k p x) (sym view) waits in
    let within = there p (waits-awaits k p at waiting (waits-clear k p at waiting) none) in
    let same = length-map fs received in
    subst (λ (x : End _). p < length x.ports) view (omega (arith, within, size, same))
