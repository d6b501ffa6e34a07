-- Local units of a machine end, and then a turn.
use Rattle.std.proofs.Common.{◌≡◌, ℕ, zero, suc, ◌<◌, Bool, true, false, List, [], ◌∷◌, length, map, refl, sym, ap, ◌∙◌}
use Rattle.std.proofs.Common.{subst, Result, Ok, Err}
use Rattle.std.specs.Prelude.{Option, Some, None, option_map, slice_get}
use Rattle.cos_base.specs.declared.no_memory.NoMemory.{NoMemory}
use Rattle.process_network.specs.Network.{Streams}
use Rattle.process_network.specs.PacketStar.{HubEnd, hub_turn_by, fresh_hub}
use Rattle.cosim_model.specs.declared.session.EndFault.{EndFault}
use Rattle.cosim_model.specs.declared.values.Bus.{Bus}
use Rattle.cosim_model.specs.Order.{least}
use Rattle.cosim_model.specs.Packets.{Packet}
use Rattle.cosim_model.specs.Parts.{MasterModel}
use Rattle.cosim_model.specs.Sessions.{is_posted}
use Rattle.ends_model.specs.declared.ends.Phase.{Phase}
use Rattle.ends_model.specs.declared.ends.Phase.TheVariants.{Greet, Meet, Run, AnswerFrom, SyncTo, Gather, Done}
use Rattle.ends_model.specs.declared.ends.Turn.{Turn}
use Rattle.ends_model.specs.declared.ends.Turn.TheVariants as turn
use Rattle.ends_model.specs.Answers.{answer_by}
use Rattle.ends_model.specs.MachineTurn.{Act, PortEnd, MachineEnd, accesses, acts_in, acts_unless, at_port}
use Rattle.ends_model.specs.MachineTurn.{first_true, gathers, greets, held_time, is_due, is_unknown, machine_acts}
use Rattle.ends_model.specs.MachineTurn.{runs, serves, serves_held, serves_least, syncs, works}
use Rattle.ends_model.specs.MachineTurn.Act.{Works, Sends, Awaits, Serves, Marks, Rests, Fails, Lost}
use Rattle.rp_framing.specs.Framing.{Frames}
use Rattle.rp_packet.specs.declared.fault.Cause.{Cause}
use Rattle.rp_packet.specs.Refusals.{first}
use Rattle.rp_packet.specs.Streams.{packet_codec}
use Rattle.machine_core.specs.Machines.{Core, awaited}
use Rattle.machine_core.specs.Units.{Advances as CoreAdvances, HasWorked as CoreWorked}
use Rattle.machine_turns.specs.declared.fault.PortFault.{PortFault}
use Rattle.machine_turns.specs.declared.fault.TurnFault.{TurnFault}
use Rattle.machine_turns.specs.declared.fault.TurnFault.TheVariants as turn_fault
use Rattle.machine_turns.specs.Ends.{Advances, End, GoesOn, HasRun, HasWorked, IsAtFront, IsTurn, Received}
use Rattle.machine_turns.specs.Ends.{Goes as IsSo, SendsAll, Turns, core_of, held_at, port_cause, received}
use Rattle.machine_turns.specs.Runs.{machine_alone}
use Rattle.machine_turns.specs.StepLaws.{not-acting, some-is, turned}
use Rattle.machine_turns.specs.EndLaws.{call-all, call-runs, kept-all, kept-halts}
use Rattle.machine_turns.proofs.Fronts.{acted-front}
use Rattle.machine_turns.proofs.Ports.{acts-size}
use Rattle.machine_turns.proofs.Turning.{Counted, acted, acts-at, made}

-- Behind a local unit the end runs on, with the same ports and the same fault.
abbrev Goes : {M : Type 0} → MachineEnd M Cause → Act M Cause → Type 0
Goes h (Works next) = (next.phase ≡ Run) × (next.fault ≡ h.fault) × (next.ports ≡ h.ports)
Goes h (Sends p x next) = Unit {0}
Goes h (Awaits p) = Unit {0}
Goes h (Serves p next) = Unit {0}
Goes h (Marks next) = Unit {0}
Goes h Rests = Unit {0}
Goes h (Fails p f) = Unit {0}
Goes h Lost = Unit {0}

module _ {M : Type 0} (k : MasterModel M) (h : MachineEnd M Cause) where
  port-goes : (o : Option PortEnd) (act : PortEnd → Act M Cause) → ((q : PortEnd) → Goes h (act q)) → Goes h (at_port o act)
  port-goes None act each = tt
  port-goes (Some q) act each = each q

  access-goes : (m : M) (b : Bus) (posted : Bool) (q : PortEnd) → Goes h (accesses k h m b.port b.access posted q)
  access-goes m b true q = tt
  access-goes m b false q = tt

  works-go : (m : M) (o : Option Bus) → Goes h (works k h m o)
  works-go m None = (refl, refl, refl)
  works-go m (Some b) = port-goes (slice_get h.ports b.port) _ (access-goes m b b.access.posted)

  runs-go : (due : Bool) (qs : List PortEnd) → Goes h (runs k h due qs)
  runs-go true [] = tt
  runs-go true (q ∷ qs) = tt
  runs-go false qs = works-go (k.issue h.master).0 (k.issue h.master).1

  serves-go : (p : ℕ) (q : PortEnd) (m : Packet) (posted : Bool) → Goes h (serves k h p q m posted)
  serves-go p q m true = tt
  serves-go p q m false = tt

  held-goes : (p : ℕ) (q : PortEnd) (o : Option Packet) → Goes h (serves_held k h p q o)
  held-goes p q None = tt
  held-goes p q (Some m) = serves-go p q m (is_posted q.session.common m)

  least-goes : (o : Option (ℕ × ℕ)) → Goes h (serves_least k h o)
  least-goes None = tt
  least-goes (Some r) = port-goes (slice_get h.ports r.0) _ (λ q. held-goes r.0 q q.held)

  gathers-go : (o : Option ℕ) → Goes h (gathers k h o)
  gathers-go None = least-goes (least (map held_time h.ports))
  gathers-go (Some p) = tt

  in-phase : (phase : Phase) → Goes h (acts_in k h phase)
  in-phase (Greet p) = port-goes (slice_get h.ports p) (greets k h p) (λ q. tt)
  in-phase (Meet p) = tt
  in-phase Run = runs-go (is_due k h) h.ports
  in-phase (AnswerFrom p a) = tt
  in-phase (SyncTo p) = port-goes (slice_get h.ports p) (syncs k h p) (λ q. tt)
  in-phase Gather = gathers-go (first_true (map is_unknown h.ports))
  in-phase Done = tt

  goes-unless : (o : Option (ℕ × EndFault Cause)) → Goes h (acts_unless k h o)
  goes-unless None = in-phase h.phase
  goes-unless (Some f) = tt

  goes : (next : MachineEnd M Cause) → machine_acts k h ≡ Works next → Goes h (Works next)
  goes next is = subst (Goes h) is (goes-unless h.fault)

  -- an end that runs awaits no packet

  port-awaits : (o : Option PortEnd) (act : PortEnd → Act M Cause) → ((q : PortEnd) → awaited (act q) ≡ None)
      → awaited (at_port o act) ≡ None
  port-awaits None act each = refl
  port-awaits (Some q) act each = each q

  access-awaits : (m : M) (b : Bus) (posted : Bool) (q : PortEnd)
      → awaited (accesses k h m b.port b.access posted q) ≡ None
  access-awaits m b true q = refl
  access-awaits m b false q = refl

  works-await : (m : M) (o : Option Bus) → awaited (works k h m o) ≡ None
  works-await m None = refl
  works-await m (Some b) = port-awaits (slice_get h.ports b.port) _ (access-awaits m b b.access.posted)

  runs-await : (due : Bool) (qs : List PortEnd) → awaited (runs k h due qs) ≡ None
  runs-await true [] = refl
  runs-await true (q ∷ qs) = refl
  runs-await false qs = works-await (k.issue h.master).0 (k.issue h.master).1

  run-awaits : h.phase ≡ Run → awaited (machine_acts k h) ≡ None
  run-awaits phase = by h.fault
    where
      by : (o : Option (ℕ × EndFault Cause)) → awaited (acts_unless k h o) ≡ None
      by None = ap (λ p. awaited (acts_in k h p)) phase ∙ runs-await (is_due k h) h.ports
      by (Some f) = refl

module _ {M : Type 0} (k : MasterModel M) where
  -- what the units leave as it was

  worked-clear : (n : ℕ) (h g : MachineEnd M Cause) → CoreWorked k n h g → h.fault ≡ None → g.fault ≡ None
  worked-clear zero h g worked clear = ap (λ (c : MachineEnd M Cause). c.fault) worked ∙ clear
  worked-clear (suc n) h g (next, acts, rest) clear = worked-clear n next g rest ((goes k h next acts).1 ∙ clear)

  pub worked-size : (n : ℕ) (h g : MachineEnd M Cause) → CoreWorked k n h g → length g.ports ≡ length h.ports
  worked-size zero h g worked = ap (λ (c : MachineEnd M Cause). length c.ports) worked
  worked-size (suc n) h g (next, acts, rest) =
      worked-size n next g rest ∙ ap (λ (qs : List PortEnd). length qs) (goes k h next acts).2

  worked-awaits : (n : ℕ) (h g : MachineEnd M Cause) → CoreWorked k n h g → awaited (machine_acts k h) ≡ None
      → awaited (machine_acts k g) ≡ None
  worked-awaits zero h g worked none = ap (λ c. awaited (machine_acts k c)) worked ∙ none
  worked-awaits (suc n) h g (next, acts, rest) none =
      worked-awaits n next g rest (run-awaits k next (goes k h next acts).0)

  module _ (kept : Option PortFault) (fs : List Frames) (none : kept ≡ None) (counts : Counted (map received fs)) where
    worked-turns : (n : ℕ) (h g : MachineEnd M Cause) → CoreWorked k n h g → h.fault ≡ None
        → HasWorked k n (made h kept fs) (made g kept fs)
    worked-turns zero h g worked clear = ap (λ c. made c kept fs) worked
    worked-turns (suc n) h g (next, acts, rest) clear =
        let next_clear = (goes k h next acts).1 ∙ clear in (
          made next kept fs,
          λ sent.
              acted k (made h kept fs) (made next kept fs) (record { end = h; room = 0 })
              (record { end = next; room = 0 }) sent sent (Works next) turn.Unit (record {
                kept = none;
                clear = clear;
                counts = counts;
                new_kept = none;
                core = refl;
                new_clear = next_clear;
                ports = refl;
              }) refl (acts-at k (made h kept fs) (Works next) none clear acts) refl (refl, refl, refl),
          worked-turns n next g rest next_clear,
        )

    module _ (h : MachineEnd M Cause) (o n : Core M) (before after : List ℕ) (clear : h.fault ≡ None)
        (same : o.end ≡ h) (awaits : awaited (machine_acts k h) ≡ None) where
      pub advanced : (t : Turn) (units : ℕ) → n.end.fault ≡ None → CoreAdvances k units o n before after (Ok t)
          → Advances k units (made h kept fs) (made n.end kept fs) before after (Ok t)
      advanced t units new_clear c =
          let worked = subst (λ x. CoreWorked k units x c.mid.end) same c.worked in
          let mid_clear = worked-clear units h c.mid.end worked clear in
          record {
            mid = made c.mid.end kept fs;
            worked = worked-turns units h c.mid.end worked clear;
            ports = refl;
            turns = acted k (made c.mid.end kept fs) (made n.end kept fs) c.mid n before after
                (machine_acts k c.mid.end) t (record {
                  kept = none;
                  clear = mid_clear;
                  counts = counts;
                  new_kept = none;
                  core = refl;
                  new_clear = new_clear;
                  ports = refl;
                }) refl (acts-at k (made c.mid.end kept fs) (machine_acts k c.mid.end) none mid_clear refl)
                (worked-awaits units h c.mid.end worked awaits) c.acts;
          }

      pub stopped : (e : NoMemory) (units : ℕ) → CoreAdvances k units o n before after (Err e)
          → Advances k units (made h kept fs) (made n.end kept fs) before after (Err turn_fault.NoMemory)
      stopped e units c =
          let worked = subst (λ x. CoreWorked k units x c.mid.end) same c.worked in
          record {
            mid = made c.mid.end kept fs;
            worked = worked-turns units h c.mid.end worked clear;
            ports = refl;
            turns = (ap (λ (x : Core M). made x.end kept fs) c.acts.0, c.acts.1);
          }

  pub advances-size : (units : ℕ) (o n : Core M) (before after : List ℕ) (r : Result Turn NoMemory)
      → CoreAdvances k units o n before after r → length n.end.ports ≡ length o.end.ports
  advances-size units o n before after r c =
      acts-size k c.mid n before after r c.acts ∙ worked-size units o.end c.mid.end c.worked

-- What stands at the front is said by the ports alone.

front-as : {M : Type 0} (e d : End M) (rs : List Received) (r : Result Turn TurnFault)
    → IsAtFront (record e { ports = rs }) r → IsAtFront (record d { ports = rs }) r
front-as e d rs (Ok (turn.Took p)) front = front
front-as e d rs (Ok turn.Unit) front = front
front-as e d rs (Ok (turn.Sent p)) front = front
front-as e d rs (Ok (turn.Served p)) front = front
front-as e d rs (Ok turn.Marked) front = front
front-as e d rs (Ok (turn.NotYet p)) front = front
front-as e d rs (Ok turn.Done) front = front
front-as e d rs (Err (turn_fault.Port f)) front = front
front-as e d rs (Err turn_fault.NoMemory) front = front

pub front-same : {M : Type 0} (e d : End M) (r : Result Turn TurnFault) → d.ports ≡ e.ports → IsAtFront e r
    → IsAtFront d r
front-same e d r same front =
    front-as e d d.ports r (subst (λ rs. IsAtFront (record e { ports = rs }) r) (sym same) front)

module _ {M : Type 0} (k : MasterModel M) where
  pub advanced-front : (h : MachineEnd M Cause) (kept : Option PortFault) (fs : List Frames) (o n : Core M)
      (before after : List ℕ) (t : Turn) (units : ℕ) → length fs ≡ length h.ports → o.end ≡ h → awaited (machine_acts k h) ≡ None
      → CoreAdvances k units o n before after (Ok t) → IsAtFront (made h kept fs) (Ok t)
  advanced-front h kept fs o n before after t units size same awaits c =
      let worked = subst (λ x. CoreWorked k units x c.mid.end) same c.worked in
      front-same (made c.mid.end kept fs) (made h kept fs) (Ok t) refl
      (acted-front k c.mid.end kept fs c.mid n before after t (size ∙ sym (worked-size k units h c.mid.end worked))
      (worked-awaits k units h c.mid.end worked awaits) c.acts)

  -- A run goes on with local units, which send nothing.
  worked-run : (n : ℕ) (old mid : End M) (start : MachineEnd M Cause) (ports : ℕ) (x sent : Streams)
      → HasWorked k n old mid → HasRun k start ports x sent old → HasRun k start ports x sent mid
  worked-run zero old mid start ports x sent worked run =
      subst (λ (e : End M). HasRun k start ports x sent e) (sym worked) run
  worked-run (suc n) old mid start ports x sent (next, one, rest) run =
      worked-run n next mid start ports x sent rest
      (call-runs k old next [] [] (Ok turn.Unit) (one []) (λ kept. tt) start ports x sent sent (λ q. refl) run)

  module _ (units : ℕ) (old new : End M) (before after : List ℕ) (r : Result Turn TurnFault)
      (c : Advances k units old new before after r) (front : IsAtFront old r) where
    mid-front : IsAtFront c.mid r
    mid-front = front-same old c.mid r c.ports front

    pub advance-runs : GoesOn k old new before after r
    advance-runs start ports x sent later sends run =
        call-runs k c.mid new before after r c.turns (λ kept. mid-front) start ports x sent later sends
        (worked-run units old c.mid start ports x sent c.worked run)

  all-by : (mid new : End M) (before after : List ℕ) (r : Result Turn TurnFault) → Turns k mid new before after r
      → IsAtFront mid r → SendsAll k r new
  all-by mid new before after (Ok (turn.NotYet p)) call front =
      call-all k mid new before after (Ok (turn.NotYet p)) call (λ q waits.
      let both = sym call.answers ∙ waits in
      let same : p ≡ q = cc (both) in
      subst (λ i. i < length mid.ports) same front)
  all-by mid new before after (Ok turn.Done) call front =
      call-all k mid new before after (Ok turn.Done) call (λ q waits. absurd (cc (call.answers, waits)))
  all-by mid new before after (Ok turn.Unit) call front = tt
  all-by mid new before after (Ok (turn.Sent p)) call front = tt
  all-by mid new before after (Ok (turn.Took p)) call front = tt
  all-by mid new before after (Ok (turn.Served p)) call front = tt
  all-by mid new before after (Ok turn.Marked) call front = tt
  all-by mid new before after (Err (turn_fault.Port f)) call front = kept-all k new f call.keeps
  all-by mid new before after (Err turn_fault.NoMemory) call front = tt

  pub advance-all : (units : ℕ) (old new : End M) (before after : List ℕ) (r : Result Turn TurnFault)
      → Advances k units old new before after r → IsAtFront old r → SendsAll k r new
  advance-all units old new before after r c front =
      all-by c.mid new before after r c.turns (front-same old c.mid r c.ports front)

  -- a call of turn alone
  pub no-units : (old new : End M) (before after : List ℕ) (r : Result Turn TurnFault) → Turns k old new before after r
      → Advances k 0 old new before after r
  no-units old new before after r turns = record { mid = old; worked = refl; ports = refl; turns = turns }

  -- an end that keeps a fault
  pub kept-turns : (e : End M) (f : PortFault) (bytes : List ℕ) → e.kept ≡ Some f
      → Turns k e e bytes bytes (Err (turn_fault.Port f))
  kept-turns e f bytes kept = record {
    answers = ap (λ o. answer_by k (core_of e) (λ p. option_map (λ r. r.0) (first (held_at e p)))
        (acts_unless k (core_of e) (option_map port_cause o))) kept;
    keeps = kept;
    size = refl;
    goes = subst (λ (o : Option (HubEnd (MachineEnd M Cause) × Option (ℕ × List ℕ))). IsSo o e e bytes bytes)
        (sym (ap (hub_turn_by (machine_alone k packet_codec) (fresh_hub (core_of e) (length e.ports)) (held_at e))
        (kept-halts k e f kept))) (refl, refl);
  }

  -- Behind a local unit the end runs on.

  unit-by : (e next : End M) (a : Act M Cause) → machine_acts k (core_of e) ≡ a
      → answer_by k (core_of e) (λ p. option_map (λ r. r.0) (first (held_at e p))) a ≡ Some (Ok turn.Unit)
      → IsSo (turned k (fresh_hub (core_of e) (length e.ports)) (held_at e) a) e next [] [] → next.clear.phase ≡ Run
  unit-by e next (Works core) acts answers went =
      ap (λ (c : MachineEnd M Cause). c.phase) went.0 ∙ (goes k (core_of e) core acts).0
  unit-by e next (Sends p x core) acts answers went = absurd (cc (answers))
  unit-by e next (Awaits p) acts answers went =
      absurd (not-acting k (core_of e) (λ q. option_map (λ r. r.0) (first (held_at e q))) p turn.Unit _ (some-is _ _ answers) tt)
  unit-by e next (Serves p core) acts answers went = absurd (cc (answers))
  unit-by e next (Marks core) acts answers went = absurd (cc (answers))
  unit-by e next Rests acts answers went = absurd (cc (answers))
  unit-by e next (Fails p f) acts answers went = absurd (cc (answers))
  unit-by e next Lost acts answers went = absurd (cc (answers))

  pub unit-runs : (e next : End M) → IsTurn k e next [] [] (Ok turn.Unit) None → next.clear.phase ≡ Run
  unit-runs e next took = unit-by e next (machine_acts k (core_of e)) refl took.answers took.goes
