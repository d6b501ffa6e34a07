-- One turn of drive: what its answer says of the end, and that there is less left to do.
use Rattle.std.proofs.Common.{◌≡◌, ℕ, zero, suc, ◌+◌, ◌-◌, ◌*◌, ◌<◌, ◌≤◌, true, false, Bool, List, [], ◌∷◌, ◌++◌}
use Rattle.std.proofs.Common.{length, drop, get_or, map, replicate, refl, sym, ap, ◌∙◌, subst, arith}
use Rattle.std.proofs.Common.{length-append, Ok, Err}
use Rattle.std.specs.Prelude.{Option, Some, None, if◌then◌else◌, option_map, slice_get}
use Rattle.std.proofs.lemmas.Option.{none-some, same_Some}
use Rattle.process_network.specs.PacketStar.{HubEnd, HubOutlook, hub_after_take, hub_turn_by, fresh_hub}
use Rattle.process_network.specs.PacketStar.HubOutlook.{HubWaits}
use Rattle.cosim_model.specs.declared.session.EndFault.{EndFault}
use Rattle.cosim_model.specs.declared.session.EndFault.TheVariants as fault
use Rattle.cosim_model.specs.declared.values.Bus.{Bus}
use Rattle.cosim_model.specs.declared.values.Plan.{Plan}
use Rattle.cosim_model.specs.Order.{least}
use Rattle.cosim_model.specs.Parts.{MasterModel}
use Rattle.cosim_model.specs.Packets.{Decoded, Packet}
use Rattle.cosim_model.specs.Sessions.{is_posted}
use Rattle.ends_model.specs.declared.ends.Phase.{Phase}
use Rattle.ends_model.specs.declared.ends.Phase.TheVariants.{Greet, Meet, Run, AnswerFrom, SyncTo, Gather, Done}
use Rattle.ends_model.specs.declared.ends.Turn.{Turn}
use Rattle.ends_model.specs.declared.ends.Turn.TheVariants as turn
use Rattle.ends_model.specs.Answers.{answer_by, take_answer, unless_faulty}
use Rattle.ends_model.specs.MachineTurn.{Act, MachineEnd, PortEnd, accesses, acts_in, acts_unless, at_port}
use Rattle.ends_model.specs.MachineTurn.{first_true, gathers, greets, held_time, is_due, is_unknown, machine_acts}
use Rattle.ends_model.specs.MachineTurn.{machine_outlook, outlook_of, runs, serves, serves_held}
use Rattle.ends_model.specs.MachineTurn.{serves_least, syncs, works}
use Rattle.ends_model.specs.MachineTurn.Act.{Works, Sends, Awaits, Serves, Marks, Rests, Fails, Lost}
use Rattle.rp_framing.specs.FrontLaws.{first-few}
use Rattle.rp_packet.specs.declared.fault.Cause.{Cause}
use Rattle.rp_packet.specs.Refusals.{first}
use Rattle.rp_packet.specs.Streams.{packet_codec}
use Rattle.rp_packet.specs.declared.fault.PacketFault.{PacketFault}
use Rattle.machine_turns.specs.declared.fault.PortFault.{PortFault}
use Rattle.machine_turns.specs.declared.fault.TurnFault.{TurnFault}
use Rattle.machine_turns.specs.declared.fault.TurnFault.TheVariants as turn_fault
use Rattle.machine_core.specs.Machines.{awaited}
use Rattle.machine_turns.specs.RunLaws.{fed-ports}
use Rattle.machine_turns.specs.Runs.{machine_alone, only_at}
use Rattle.machine_turns.specs.Ends.{Advances, End, Goes, HasWorked, IsAtFront, IsBlamedAt, IsTurn, IsWaiting}
use Rattle.machine_turns.specs.Ends.{Received, core_of, fed_at, held_at, held_of, more, put, taken_at, turn_of}
use Rattle.end_machine.specs.declared.driving.Need.TheVariants as need
use Rattle.end_machine.specs.Going.{CanCome, KeptInRun, Turned, need_of, waiting_at, waiting_bytes}
use Rattle.end_machine.proofs.Measures.{Holds, acts-on, left, takes-on}
use Rattle.end_machine.proofs.WireLaws.{itself, there-some}

-- An end rests in its last phase alone.

abbrev NotRests : {M : Type 0} → Act M Cause → Type 0
NotRests Rests = ⊥
NotRests (Works next) = Unit {0}
NotRests (Sends p x next) = Unit {0}
NotRests (Awaits p) = Unit {0}
NotRests (Serves p next) = Unit {0}
NotRests (Marks next) = Unit {0}
NotRests (Fails p f) = Unit {0}
NotRests Lost = Unit {0}

module _ {M : Type 0} (k : MasterModel M) (h : MachineEnd M Cause) where
  port-works : (o : Option PortEnd) (act : PortEnd → Act M Cause) → ((q : PortEnd) → NotRests (act q))
      → NotRests (at_port o act)
  port-works None act each = tt
  port-works (Some q) act each = each q

  access-works : (m : M) (b : Bus) (posted : Bool) (q : PortEnd) → NotRests (accesses k h m b.port b.access posted q)
  access-works m b true q = tt
  access-works m b false q = tt

  works-work : (m : M) (o : Option Bus) → NotRests (works k h m o)
  works-work m None = tt
  works-work m (Some b) = port-works (slice_get h.ports b.port) _ (access-works m b b.access.posted)

  runs-work : (due : Bool) (qs : List PortEnd) → NotRests (runs k h due qs)
  runs-work true [] = tt
  runs-work true (q ∷ qs) = tt
  runs-work false qs = works-work (k.issue h.master).0 (k.issue h.master).1

  serves-work : (p : ℕ) (q : PortEnd) (m : Packet) (posted : Bool) → NotRests (serves k h p q m posted)
  serves-work p q m true = tt
  serves-work p q m false = tt

  held-works : (p : ℕ) (q : PortEnd) (o : Option Packet) → NotRests (serves_held k h p q o)
  held-works p q None = tt
  held-works p q (Some m) = serves-work p q m (is_posted q.session.common m)

  least-works : (o : Option (ℕ × ℕ)) → NotRests (serves_least k h o)
  least-works None = tt
  least-works (Some r) = port-works (slice_get h.ports r.0) _ (λ q. held-works r.0 q q.held)

  gathers-work : (o : Option ℕ) → NotRests (gathers k h o)
  gathers-work None = least-works (least (map held_time h.ports))
  gathers-work (Some p) = tt

  in-phase : (phase : Phase) → acts_in k h phase ≡ Rests → phase ≡ Done
  in-phase (Greet p) is = absurd (subst NotRests is (port-works (slice_get h.ports p) (greets k h p) (λ q. tt)))
  in-phase (Meet p) is = absurd (subst NotRests is tt)
  in-phase Run is = absurd (subst NotRests is (runs-work (is_due k h) h.ports))
  in-phase (AnswerFrom p a) is = absurd (subst NotRests is tt)
  in-phase (SyncTo p) is = absurd (subst NotRests is (port-works (slice_get h.ports p) (syncs k h p) (λ q. tt)))
  in-phase Gather is = absurd (subst NotRests is (gathers-work (first_true (map is_unknown h.ports))))
  in-phase Done is = refl

  unless-fault : (f : Option (ℕ × EndFault Cause)) → acts_unless k h f ≡ Rests → h.phase ≡ Done
  unless-fault (Some f) is = absurd (subst NotRests is tt)
  unless-fault None is = in-phase h.phase is

  rests-done : machine_acts k h ≡ Rests → h.phase ≡ Done
  rests-done is = unless-fault h.fault is

  -- What an answer says of what the end was to do.

  module _ (whole : ℕ → Option (Decoded Cause)) where
    answers-done : (a : Act M Cause) → answer_by k h whole a ≡ Some (Ok turn.Done) → a ≡ Rests
    answers-done (Works next) is = absurd (cc (is))
    answers-done (Sends p x next) is = absurd (cc (is))
    answers-done (Awaits p) is = absurd (took (whole p) is)
      where
        unless-not : (f : Option (ℕ × EndFault Cause)) → Some (unless_faulty (turn.Took p) f) ≡ Some (Ok turn.Done) → ⊥
        unless-not None is = absurd (cc (is))
        unless-not (Some f) is = absurd (cc (is))

        took : (o : Option (Decoded Cause)) → Some (take_answer k h p o) ≡ Some (Ok turn.Done) → ⊥
        took None is = absurd (cc (is))
        took (Some m) is = unless-not _ is
    answers-done (Serves p next) is = absurd (cc (is))
    answers-done (Marks next) is = absurd (cc (is))
    answers-done Rests is = refl
    answers-done (Fails p f) is = absurd (cc (is))
    answers-done Lost is = absurd (cc (is))

    answers-waits : (p : ℕ) (a : Act M Cause) → answer_by k h whole a ≡ Some (Ok (turn.NotYet p)) → a ≡ Awaits p
    answers-waits p (Works next) is = absurd (cc (is))
    answers-waits p (Sends q x next) is = absurd (cc (is))
    answers-waits p (Awaits q) is = took (whole q) is
      where
        unless-not : (f : Option (ℕ × EndFault Cause)) → Some (unless_faulty (turn.Took q) f) ≡ Some (Ok (turn.NotYet
            p)) → ⊥
        unless-not None is = absurd (cc (is))
        unless-not (Some f) is = absurd (cc (is))

        took : (o : Option (Decoded Cause)) → Some (take_answer k h q o) ≡ Some (Ok (turn.NotYet p))
            → ◌≡◌ {A = Act M Cause} (Awaits q) (Awaits p)
        took None is = let same : q ≡ p = cc (is) in ap (λ i. Awaits i) same
        took (Some m) is = absurd (unless-not _ is)
    answers-waits p (Serves q next) is = absurd (cc (is))
    answers-waits p (Marks next) is = absurd (cc (is))
    answers-waits p Rests is = absurd (cc (is))
    answers-waits p (Fails q f) is = absurd (cc (is))
    answers-waits p Lost is = absurd (cc (is))

-- a turn that moves the end
abbrev pub Moves : Turn → Type 0
Moves turn.Unit = Unit {0}
Moves (turn.Sent p) = Unit {0}
Moves (turn.Took p) = Unit {0}
Moves (turn.Served p) = Unit {0}
Moves turn.Marked = Unit {0}
Moves (turn.NotYet p) = ⊥
Moves turn.Done = ⊥

pub need-moves : (t : Turn) → need_of t ≡ need.Turn → Moves t
need-moves turn.Unit is = tt
need-moves (turn.Sent p) is = tt
need-moves (turn.Took p) is = tt
need-moves (turn.Served p) is = tt
need-moves turn.Marked is = tt
need-moves (turn.NotYet p) is = absurd (cc (is))
need-moves turn.Done is = absurd (cc (is))

pub need-waits : (t : Turn) (p : ℕ) → need_of t ≡ need.Bytes p → t ≡ turn.NotYet p
need-waits turn.Unit p is = absurd (cc (is))
need-waits (turn.Sent q) p is = absurd (cc (is))
need-waits (turn.Took q) p is = absurd (cc (is))
need-waits (turn.Served q) p is = absurd (cc (is))
need-waits turn.Marked p is = absurd (cc (is))
need-waits (turn.NotYet q) p is = let same : q ≡ p = cc (is) in ap (λ i. turn.NotYet i) same
need-waits turn.Done p is = absurd (cc (is))

pub need-stops : (t : Turn) → need_of t ≡ need.Nothing → t ≡ turn.Done
need-stops turn.Unit is = absurd (cc (is))
need-stops (turn.Sent p) is = absurd (cc (is))
need-stops (turn.Took p) is = absurd (cc (is))
need-stops (turn.Served p) is = absurd (cc (is))
need-stops turn.Marked is = absurd (cc (is))
need-stops (turn.NotYet p) is = absurd (cc (is))
need-stops turn.Done is = refl

zeros : (n p : ℕ) → ◌≡◌ {A = ℕ} (get_or (replicate n 0) p 0) 0
zeros zero p = refl
zeros (suc n) zero = refl
zeros (suc n) (suc p) = zeros n p

module _ {M : Type 0} (k : MasterModel M) where
  pub turned-done : (old new : End M) (before after : List ℕ) (f : Option PortFault)
      → IsTurn k old new before after (Ok turn.Done) f → old.clear.phase ≡ Done
  turned-done old new before after f call =
      rests-done k (core_of old) (answers-done k (core_of old) _ (machine_acts k (core_of old)) call.answers)

  pub turned-waits : (p : ℕ) (e : End M) → IsWaiting k p e → machine_acts k (core_of e) ≡ Awaits p
  turned-waits p e waits = answers-waits k (core_of e) _ p (machine_acts k (core_of e)) waits

  pub waits-outlook : (p : ℕ) (e : End M) → IsWaiting k p e → machine_outlook k (core_of e) ≡ HubWaits p
  waits-outlook p e waits = ap (λ (a : Act M Cause). outlook_of a) (turned-waits p e waits)

  -- A turn that doesn't move the end leaves it as it was.

  abbrev turn-by : (e : End M) → HubOutlook (MachineEnd M Cause) (Decoded Cause)
      → Option (HubEnd (MachineEnd M Cause) × Option (ℕ × List ℕ))
  turn-by e v = hub_turn_by (machine_alone k packet_codec) (fresh_hub (core_of e) (length e.ports)) (held_at e) v

  same-by : (old new : End M) (before after : List ℕ) (o : Option (HubEnd (MachineEnd M Cause) × Option (ℕ × List ℕ)))
      → o ≡ None → Goes o old new before after → new ≡ old
  same-by old new before after None is goes = goes.0
  same-by old new before after (Some r) is goes = absurd (none-some r (sym is))

  pub done-same : (old new : End M) (before after : List ℕ) (f : Option PortFault)
      → IsTurn k old new before after (Ok turn.Done) f → new ≡ old
  done-same old new before after f call =
      let rests = answers-done k (core_of old) _ (machine_acts k (core_of old)) call.answers in
      same-by old new before after (turn_of k old) (ap (λ (a : Act M Cause). turn-by old (outlook_of a)) rests)
      call.goes

  waits-held : (p : ℕ) (e : End M) (o : Option (Decoded Cause × ℕ)) → first (held_at e p) ≡ o
      → take_answer k (core_of e) p (option_map (λ r. r.0) o) ≡ Ok (turn.NotYet p) → o ≡ None
  waits-held p e None is answers = refl
  waits-held p e (Some m) is answers = absurd (unless-not _ answers)
    where
      unless-not : (f : Option (ℕ × EndFault Cause)) → unless_faulty (turn.Took p) f ≡ Ok (turn.NotYet p) → ⊥
      unless-not None is = absurd (cc (is))
      unless-not (Some f) is = absurd (cc (is))

  -- none is whole where a packet is awaited
  pub waits-none : (p : ℕ) (e : End M) → IsWaiting k p e → first (held_at e p) ≡ None
  waits-none p e waits =
      let acts = turned-waits p e waits in
      let answers = ap (answer_by k (core_of e) (λ p. option_map (λ r. r.0) (first (held_at e p)))) (sym acts)
      ∙ waits in
      waits-held p e (first (held_at e p)) refl (same_Some _ _ answers)

  pub waits-same : (p : ℕ) (old new : End M) (before after : List ℕ) (f : Option PortFault)
      → IsTurn k old new before after (Ok (turn.NotYet p)) f → new ≡ old
  waits-same p old new before after f call =
      let none = waits-none p old call.answers in
      let n = length old.ports in
      same-by old new before after (turn_of k old)
      (ap (turn-by old) (waits-outlook p old call.answers)
      ∙ ap (λ i. hub_after_take (machine_alone k packet_codec) (fresh_hub (core_of old) n) p (first (drop i (held_at
      old p)))) (zeros n p)
      ∙ ap (hub_after_take (machine_alone k packet_codec) (fresh_hub (core_of old) n) p) none) call.goes

  module _ (plan : Plan) (n : ℕ) where
    -- A turn that moves the end leaves less to do.

    abbrev Less : End M → End M → Type 0
    Less old new = Holds k plan n (core_of new) × (left k plan n (core_of new) < left k plan n (core_of old))

    less-as : (old new : End M) (next : MachineEnd M Cause) → core_of new ≡ next
        → Holds k plan n next × (left k plan n next < left k plan n (core_of old)) → Less old new
    less-as old new next is less =
        subst (λ (h : MachineEnd M Cause). Holds k plan n h × (left k plan n h < left k plan n (core_of old))) (sym
        is) less

    took-less : (old new : End M) (p : ℕ) (t : Turn) (before after : List ℕ) (o : Option (Decoded Cause × ℕ)) → Moves t
        → Holds k plan n (core_of old) → machine_outlook k (core_of old) ≡ HubWaits p
        → take_answer k (core_of old) p (option_map (λ r. r.0) o) ≡ Ok t
        → Goes (hub_after_take (machine_alone k packet_codec) (fresh_hub (core_of old) (length old.ports)) p o) old
        new before after
        → Less old new
    took-less old new p t before after None moves holds waits answers goes =
        let is : turn.NotYet p ≡ t = cc (answers) in absurd (subst Moves (sym is) moves)
    took-less old new p t before after (Some m) moves holds waits answers goes =
        less-as old new _ goes.0 (takes-on k plan n (core_of old) holds p waits m.0)

    acted-less : (old new : End M) (t : Turn) (before after : List ℕ) (a : Act M Cause) → Moves t
        → Holds k plan n (core_of old)
        → machine_acts k (core_of old) ≡ a
        → answer_by k (core_of old) (λ p. option_map (λ r. r.0) (first (held_at old p))) a ≡ Some (Ok t)
        → Goes (turn-by old (outlook_of a)) old new before after → Less old new
    acted-less old new t before after (Works next) moves holds is answers goes =
        less-as old new next goes.0 (acts-on k plan n (core_of old) holds next _ (ap (λ (a : Act M Cause). outlook_of
        a) is))
    acted-less old new t before after (Sends p x next) moves holds is answers goes =
        less-as old new next goes.0 (acts-on k plan n (core_of old) holds next _ (ap (λ (a : Act M Cause). outlook_of
        a) is))
    acted-less old new t before after (Awaits p) moves holds is answers goes =
        took-less old new p t before after (first (held_at old p)) moves holds (ap (λ (a : Act M Cause). outlook_of
        a) is)
        (same_Some _ _ answers)
        (subst (λ i. Goes (hub_after_take (machine_alone k packet_codec) (fresh_hub (core_of old) (length old.ports)) p
        (first (drop i (held_at old p)))) old new before after) (zeros (length old.ports) p) goes)
    acted-less old new t before after (Serves p next) moves holds is answers goes =
        less-as old new next goes.0 (acts-on k plan n (core_of old) holds next _ (ap (λ (a : Act M Cause). outlook_of
        a) is))
    acted-less old new t before after (Marks next) moves holds is answers goes =
        less-as old new next goes.0 (acts-on k plan n (core_of old) holds next _ (ap (λ (a : Act M Cause). outlook_of
        a) is))
    acted-less old new t before after Rests moves holds is answers goes =
        let done : turn.Done ≡ t = cc (answers) in absurd (subst Moves (sym done) moves)
    acted-less old new t before after (Fails p f) moves holds is answers goes = absurd (cc (answers))
    acted-less old new t before after Lost moves holds is answers goes = absurd (cc (answers))

    pub moves-less : (old new : End M) (t : Turn) (before after : List ℕ) (f : Option PortFault) → Moves t
        → Holds k plan n (core_of old) → IsTurn k old new before after (Ok t) f
        → Holds k plan n (core_of new) × (left k plan n (core_of new) < left k plan n (core_of old))
    moves-less old new t before after f moves holds call =
        acted-less old new t before after (machine_acts k (core_of old)) moves holds refl call.answers call.goes

    -- how much there is left to do, in turns and in bytes that a turn waits for
    abbrev pub remaining : End M → ℕ
    remaining e = left k plan n (core_of e) * 65557 + (65556 - waiting_bytes k e)

    turned-less : (old new : End M) → left k plan n (core_of new) < left k plan n (core_of old)
        → remaining new < remaining old
    turned-less old new less = times-less (left k plan n (core_of new)) (left k plan n (core_of old)) (waiting_bytes
        k new) (waiting_bytes k old) less
      where
        times-less : (a b c d : ℕ) → a < b → a * 65557 + (65556 - c) < b * 65557 + (65556 - d)
        times-less a b c d less = omega (arith, less)

    -- local units leave no more to do
    pub worked-less : (units : ℕ) (old mid : End M) → HasWorked k units old mid → Holds k plan n (core_of old)
        → Holds k plan n (core_of mid) × (remaining mid ≤ remaining old)
    worked-less zero old mid worked holds =
        let same = ap remaining worked in
        (subst (λ (e : End M). Holds k plan n (core_of e)) (sym worked) holds, omega (arith, same))
    worked-less (suc units) old mid (next, one, rest) holds =
        let less = moves-less old next turn.Unit [] [] None tt holds (one []) in
        let falls = turned-less old next less.1 in
        let more = worked-less units next mid rest less.0 in
        (more.0, (let few = more.1 in omega (arith, falls, few)))

    pub step-moves : (old new : End M) (t : Turn) → need_of t ≡ need.Turn → Turned k old new t
        → Holds k plan n (core_of old)
        → Holds k plan n (core_of new) × (remaining new < remaining old)
    step-moves old new t is turned holds =
        let call = turned.3 in
        let had = worked-less turned.2 old call.mid call.worked holds in
        let less = moves-less call.mid new t turned.0 turned.1 None (need-moves t is) had.0 call.turns in
        let falls = turned-less call.mid new less.1 in
        let few = had.1 in
        (less.0, omega (arith, falls, few))

    -- One read of a port that is awaited.

    fed-core : (p : ℕ) (piece : List ℕ) (e : End M) → core_of (fed_at None p piece e) ≡ core_of e
    fed-core p piece e = by (slice_get e.ports p)
      where
        by : (o : Option Received) → core_of (put e p (option_map (more piece) o)) ≡ core_of e
        by None = refl
        by (Some r) = refl

    fed-held : (p : ℕ) (piece : List ℕ) (e : End M) → p < length e.ports
        → length (held_at (fed_at None p piece e) p) ≡ length (held_at e p) + length piece
    fed-held p piece e within =
        let there = there-some e.ports p within in
        ap (λ o. length (held_of o)) (fed-ports e p p piece ∙ ap (option_map (more (only_at p piece p))) there.1)
        ∙ ap (λ b. length (there.0.held ++ (if b then piece else []))) (itself p)
        ∙ length-append there.0.held piece ∙ ap (λ o. length (held_of o) + length piece) (sym there.1)

    pub read-less : (p : ℕ) (old new : End M) (piece : List ℕ) → p < length old.ports → IsWaiting k p old
        → 1 ≤ length piece
        → new ≡ fed_at None p piece old → (core_of new ≡ core_of old) × (remaining new < remaining old)
    read-less p old new piece within waits some is =
        let core = ap (λ (e : End M). core_of e) is ∙ fed-core p piece old in
        let acts = ap (λ h. awaited (machine_acts k h)) core
        ∙ ap (λ (a : Act M Cause). awaited a) (turned-waits p old waits) in
        let now : waiting_bytes k new ≡ length (held_at old p) + length piece =
        ap (waiting_at new) acts ∙ ap (λ (e : End M). length (held_at e p)) is ∙ fed-held p piece old within in
        let was : waiting_bytes k old ≡ length (held_at old p) =
        ap (waiting_at old) (ap (λ (a : Act M Cause). awaited a) (turned-waits p old waits)) in
        let few = first-few (held_at old p) (waits-none p old waits) in
        let same = ap (left k plan n) core in (
          core,
          byte-less (left k plan n (core_of new)) (left k plan n (core_of old)) (waiting_bytes k new)
              (waiting_bytes k old)
              (length (held_at old p)) (length piece) same now was few some,
        )
      where
        byte-less : (a b c d held size : ℕ) → a ≡ b → c ≡ held + size → d ≡ held → held < 65556 → 1 ≤ size
            → a * 65557 + (65556 - c) < b * 65557 + (65556 - d)
        byte-less a b c d held size same now was few some =
            let product = ap (λ n. n * 65557) same in omega (arith, product, now, was, few, some)

  -- What a step says by what the end needs then.

  pub step-waits : (p : ℕ) (old new : End M) (t : Turn) → need_of t ≡ need.Bytes p → (turned : Turned k old new t)
      → IsWaiting k p new × (new ≡ turned.3.mid)
  step-waits p old new t is turned =
      let mid = turned.3.mid in
      let call = subst (λ t. IsTurn k mid new turned.0 turned.1 (Ok t) None) (need-waits t p is) turned.3.turns in
      let same = waits-same p mid new turned.0 turned.1 None call in
      (subst (IsWaiting k p) (sym same) call.answers, same)

  pub step-stops : (old new : End M) (t : Turn) → need_of t ≡ need.Nothing → Turned k old new t → new.clear.phase ≡ Done
  step-stops old new t is turned =
      let mid = turned.3.mid in
      let call = subst (λ t. IsTurn k mid new turned.0 turned.1 (Ok t) None) (need-stops t is) turned.3.turns in
      ap (λ (e : End M). e.clear.phase) (done-same mid new turned.0 turned.1 None call)
      ∙ turned-done mid new turned.0 turned.1 None call

  -- What is kept after a call that answers a fault.

  can-come : (taken : ℕ) (held : List ℕ) (x : EndFault PacketFault) → IsBlamedAt taken held x → CanCome x
  can-come taken held (fault.Malformed f) blamed = tt
  can-come taken held (fault.Session f) blamed = tt
  can-come taken held (fault.LateWant at got) blamed = tt
  can-come taken held (fault.Truncated start rest) blamed = absurd blamed
  can-come taken held (fault.Ended count) blamed = absurd blamed
  can-come taken held (fault.TooMuch count) blamed = absurd blamed
  can-come taken held (fault.Link count) blamed = absurd blamed
  can-come taken held (fault.Astray cmd) blamed = absurd blamed
  can-come taken held fault.NoMemory blamed = absurd blamed

  worked-kept : (units : ℕ) (old mid : End M) → HasWorked k units old mid → old.kept ≡ None → mid.kept ≡ None
  worked-kept zero old mid worked kept = ap (λ (e : End M). e.kept) worked ∙ kept
  worked-kept (suc units) old mid (next, one, rest) kept = worked-kept units next mid rest (one []).keeps

  pub step-kept : (units : ℕ) (old new : End M) (before after : List ℕ) (f : TurnFault)
      → Advances k units old new before after (Err f) → old.kept ≡ None → IsAtFront old (Err f) → KeptInRun {A = Turn} (Err f) new.kept
  step-kept units old new before after (turn_fault.Port f) call kept front =
      can-come (taken_at old f.port) (held_at old f.port) f.fault front
  step-kept units old new before after turn_fault.NoMemory call kept front =
      ap (λ (e : End M). e.kept) call.turns.0 ∙ worked-kept units old call.mid call.worked kept
