-- A machine end that was fed pieces and took turns stands within a run over all that it was fed.
use Rattle.std.proofs.Common.{◌≡◌, inl, inr, ℕ, suc, ◌+◌, ◌<◌, List, [], ◌∷◌, ◌++◌, length, drop, get_or, set}
use Rattle.std.proofs.Common.{replicate, refl, sym, ap, ◌∙◌, subst, arith, Result, Ok, Err}
use Rattle.std.specs.Prelude.{Option, Some, None, option_map, slice_get}
use Rattle.std.proofs.lemmas.Bool.{cases_eq}
use Rattle.std.proofs.lemmas.List.{append-nil, drop-drop, get_or-set_other, get_or-set_same, length-replicate}
use Rattle.std.proofs.lemmas.Option.{none-some}
use Rattle.process_network.specs.Network.{Streams}
use Rattle.process_network.specs.PacketStar.{HubOutlook, fresh_hub, hub_after_take, hub_turn_by}
use Rattle.process_network.specs.PacketStar.HubOutlook.{HubActs, HubWaits, HubHalts}
use Rattle.process_network.specs.Star.{to_leaf}
use Rattle.process_network.proofs.PacketRuns.{drop_front}
use Rattle.cosim_model.specs.Packets.{Packet, Decoded}
use Rattle.cosim_model.specs.Packets.Decoded.{Valid}
use Rattle.cosim_model.specs.Parts.{MasterModel}
use Rattle.cosim_model.specs.Streams.{HasTaken}
use Rattle.cosim_model.proofs.Streams.{one_more}
use Rattle.ends_model.specs.declared.ends.Turn.{Turn}
use Rattle.ends_model.specs.declared.ends.Turn.TheVariants as turn
use Rattle.ends_model.specs.MachineTurn.{MachineEnd, acts_unless, machine_acts, machine_outlook, machine_takes}
use Rattle.ends_model.specs.MachineTurn.{outlook_of}
use Rattle.ends_model.specs.MachineTurn.Act.{Awaits}
use Rattle.rp_packet.specs.declared.fault.Cause.{Cause}
use Rattle.rp_packet.specs.Refusals.{first}
use Rattle.rp_packet.specs.Streams.{packet_codec}
use Rattle.rp_framing.specs.Framing.{counted}
use Rattle.machine_core.specs.Machines.{awaited}
use Rattle.machine_turns.specs.declared.fault.PortFault.{PortFault}
use Rattle.machine_turns.specs.declared.fault.TurnFault.{TurnFault}
use Rattle.machine_turns.specs.declared.fault.TurnFault.TheVariants as turn_fault
use Rattle.machine_turns.specs.Runs.{IsWholeRun, Taking, machine_alone, only_at}
use Rattle.machine_turns.specs.Ends.{End, Goes, GoesOn, HasRun, IsAtFront, IsAtRest, IsBlamedAt, IsPlacedAt, IsTurn}
use Rattle.machine_turns.specs.Ends.{IsWaiting, Sends as Sent, SendsAll, Turns, answer_of, core_of, held_at, held_of}
use Rattle.machine_turns.specs.Ends.{port_cause, sent_by, taken_at, taken_in, taken_of, turn_of}
use Rattle.machine_turns.specs.RunLaws.{run-on, run-size, sent-stays}
use Rattle.machine_turns.specs.StepLaws.{After, Answer, IsActing, absent, acts-none, clear-core, counted-more}
use Rattle.machine_turns.specs.StepLaws.{done-halts, front-there, held-after, ok-is, only-nothing, placed-fault}
use Rattle.machine_turns.specs.StepLaws.{sends-nothing, sends-to, sent-there, set-adds, some-is, some-not, takes-from}
use Rattle.machine_turns.specs.StepLaws.{there-some, took-nothing, turned, waits-for, zeros}

module _ {M : Type 0} (k : MasterModel M) where
  -- The same turn of the run over all that was received.
  record Also (x : Streams) (h : Taking M) (v : HubOutlook (MachineEnd M Cause) (Decoded Cause)) (r : After M)
      : Type 0 where
    hub : Taking M
    turn : hub_turn_by (machine_alone k packet_codec) h x v ≡ Some (hub, r.1)
    core : r.0.core ≡ hub.core
    taken : (p : ℕ) → get_or hub.taken p 0 ≡ get_or h.taken p 0 + get_or r.0.taken p 0

  -- What is known of the packets after a turn.
  record Took (x : Streams) (new : End M) (h : Taking M) (more : List ℕ) : Type 0 where
    packets : new.kept ≡ None → (p : ℕ) → HasTaken packet_codec (x p) (get_or h.taken p 0 + get_or more p 0) None
    placed : IsPlacedAt x new.kept

  abbrev before-turn : End M → Taking M
  before-turn e = fresh_hub (core_of e) (length e.ports)

  abbrev whole-of : End M → ℕ → Option (Decoded Cause)
  whole-of e p = option_map (λ r. r.0) (first (held_at e p))

  -- what stands at the front of a port's bytes is what the turn takes
  front-taken : (e : End M) (p : ℕ) (m : Option (Decoded Cause × ℕ)) → first (held_at e p) ≡ m
      → turned k (before-turn e) (held_at e) (Awaits p)
      ≡ hub_after_take (machine_alone k packet_codec) (before-turn e) p m
  front-taken e p m front =
      ap (λ i. hub_after_take (machine_alone k packet_codec) (before-turn e) p (first (drop i (held_at e p))))
      (zeros (length e.ports) p) ∙ ap (hub_after_take (machine_alone k packet_codec) (before-turn e) p) front

  module _ (start : MachineEnd M Cause) (n : ℕ) (x sent : Streams) (e : End M) (clear : e.kept ≡ None)
      (run : HasRun k start n x sent e) where
    -- a port that is there holds what was received of it and not taken
    stands : (p : ℕ) → p < length e.ports → held_at e p ≡ drop (get_or run.hub.taken p 0) (x p)
    stands p within = run.held clear p (subst (λ m. p < m) run.size within)

    counts : (p : ℕ) → p < length e.ports → taken_at e p ≡ counted (get_or run.hub.taken p 0)
    counts p within = run.taken clear p (subst (λ m. p < m) run.size within)

    also-take : (p : ℕ) (m : Option (Decoded Cause × ℕ)) (r : After M) → first (held_at e p) ≡ m
        → hub_after_take (machine_alone k packet_codec) (before-turn e) p m ≡ Some r → Also x run.hub (HubWaits p) r
    also-take p None r front is = absurd (none-some r is)
    also-take p (Some m) r front is =
        let same = some-is _ r is in
        let within = front-there e p m front in
        let h = run.hub in
        let hub : Taking M = record {
          core = machine_takes k h.core p m.0;
          taken = set h.taken p (get_or h.taken p 0 + m.1);
        } in
        let long = run-size k start n x run.turns h sent run.run ∙ sym run.size in
        record {
          hub = hub;
          turn = ap (hub_after_take (machine_alone k packet_codec) h p) (ap first (sym (stands p within)) ∙ front)
              ∙ ap (λ (s : After M). Some (hub, s.1)) same;
          core = ap (λ (s : After M). s.0.core) (sym same) ∙ ap (λ c. machine_takes k c p m.0) run.core;
          taken = λ q. set-adds h.taken (length e.ports) p q m.1 long within
              ∙ ap (λ (s : After M). get_or h.taken q 0 + get_or s.0.taken q 0) same;
        }

    also-by : (v : HubOutlook (MachineEnd M Cause) (Decoded Cause)) (r : After M)
        → hub_turn_by (machine_alone k packet_codec) (before-turn e) (held_at e) v ≡ Some r → Also x run.hub v r
    also-by (HubActs next sends) r is =
        let same = some-is _ r is in
        let hub : Taking M = record { core = next; taken = run.hub.taken } in
        record {
          hub = hub;
          turn = ap (λ (s : After M). Some (hub, s.1)) same;
          core = ap (λ (s : After M). s.0.core) (sym same);
          taken = λ p.
              let none = ap (λ (s : After M). get_or s.0.taken p 0) (sym same) ∙ zeros (length e.ports) p in
              omega (arith, none);
        }
    also-by (HubWaits p) r is =
        also-take p (first (held_at e p)) r refl (sym (front-taken e p (first (held_at e p)) refl) ∙ is)
    also-by HubHalts r is = absurd (none-some r is)

    turned-run : (later : Streams) (new : End M) (before after : List ℕ) (r : After M) → turn_of k e ≡ Some r
        → Goes (Some r) e new before after → length new.ports ≡ length e.ports
        → ((p : ℕ) → later p ≡ sent p ++ to_leaf n r.1 (suc p)) → Took x new run.hub r.0.taken
        → HasRun k start n x later new
    turned-run later new before after r is goes size more took =
        let h = run.hub in
        let also = also-by (machine_outlook k (core_of e)) r is in
        let turn = ap (λ c. hub_turn_by (machine_alone k packet_codec) h x (machine_outlook k c)) (sym run.core)
        ∙ also.turn in
        record {
          turns = suc run.turns;
          hub = also.hub;
          run = run-on k start n x run.turns h sent later (also.hub, r.1) run.run turn more;
          core = goes.0 ∙ also.core;
          size = size ∙ run.size;
          held = λ none p within.
              ap held_of (goes.1 none p) ∙ held-after (get_or r.0.taken p 0) (slice_get e.ports p)
              ∙ ap (drop (get_or r.0.taken p 0)) (run.held clear p within)
              ∙ drop-drop (get_or r.0.taken p 0) (get_or h.taken p 0) (x p)
              ∙ ap (λ i. drop i (x p)) (sym (also.taken p));
          taken = λ none p within.
              let at = there-some e.ports p (subst (λ m. p < m) (sym run.size) within) in
              ap taken_in (goes.1 none p) ∙ ap (λ o. taken_in (option_map (taken_of (get_or r.0.taken p 0)) o)) at.1
              ∙ counted-more at.0.taken (get_or h.taken p 0) (get_or r.0.taken p 0)
              (sym (ap taken_in at.1) ∙ run.taken clear p within) ∙ ap counted (sym (also.taken p));
          packets = λ none p.
              subst (λ i. HasTaken packet_codec (x p) i None) (sym (also.taken p)) (took.packets none p);
          placed = took.placed;
        }

    -- What is known of the packets, by what a turn answered.

    -- so many bytes more are packets too
    abbrev Has : ℕ → ℕ → Type 0
    Has p size = HasTaken packet_codec (x p) (get_or run.hub.taken p 0 + size) None

    unmoved : (p : ℕ) (more : List ℕ) → ◌≡◌ {A = ℕ} (get_or more p 0) 0 → Has p (get_or more p 0)
    unmoved p more none =
        let count : get_or run.hub.taken p 0 ≡ get_or run.hub.taken p 0 + get_or more p 0 = omega (arith, none) in
        subst (λ i. HasTaken packet_codec (x p) i None) count (run.packets clear p)

    acted : (t : Turn) (new : End M) (r : After M) → IsActing t → answer_of k e ≡ Some (Ok t) → new.kept ≡ None
        → turn_of k e ≡ Some r → Took x new run.hub r.0.taken
    acted t new r acting answers keeps is =
        let a = machine_acts k (core_of e) in
        let none = acts-none k (core_of e) (whole-of e) a t answers acting in
        let taken = took-nothing k (before-turn e) (held_at e) a r none is in
        record {
          packets = λ kept p. unmoved p r.0.taken (ap (λ ts. get_or ts p 0) taken ∙ zeros (length e.ports) p);
          placed = subst (IsPlacedAt x) (sym keeps) tt;
        }

    none-more : (n : ℕ) → ◌≡◌ {A = ℕ} (0 + n) n
    none-more n = omega arith

    took-one : (q : ℕ) (m : Packet) (size : ℕ) (new : End M) (r : After M) → first (held_at e q) ≡ Some (Valid m, size)
        → machine_acts k (core_of e) ≡ Awaits q → new.kept ≡ None → turn_of k e ≡ Some r → Took x new run.hub r.0.taken
    took-one q m size new r front acts keeps is =
        let within = front-there e q (Valid m, size) front in
        let taking = sym (ap (turned k (before-turn e) (held_at e)) acts
        ∙ front-taken e q (Some (Valid m, size)) front) ∙ is in
        let same = some-is _ r taking in
        let here : get_or r.0.taken q 0 ≡ size =
        ap (λ (s : After M). get_or s.0.taken q 0) (sym same)
        ∙ get_or-set_same (replicate (length e.ports) 0) q (get_or (replicate (length e.ports) 0) q 0 + size) 0
        (subst (λ m. q < m) (sym (length-replicate (length e.ports) 0)) within)
        ∙ ap (λ i. i + size) (zeros (length e.ports) q) ∙ none-more size in
        let had = run.packets clear q in
        let more = one_more packet_codec had.0 (get_or run.hub.taken q 0) (x q) m size had.1
        (ap first (sym (stands q within)) ∙ front) in
        record {
          packets = λ kept p.
              elim (cases_eq p q) as (λ _. Has p (get_or r.0.taken p 0)) [
                | inl equal ↦ subst (λ i. Has i (get_or r.0.taken i 0)) (sym equal)
                    (subst (λ n. Has q n) (sym here) (had.0 ++ m ∷ [], more))
                | inr apart ↦ unmoved p r.0.taken (ap (λ (s : After M). get_or s.0.taken p 0) (sym same)
                    ∙ get_or-set_other (replicate (length e.ports) 0) q p
                    (get_or (replicate (length e.ports) 0) q 0 + size) 0 apart ∙ zeros (length e.ports) p)
              ];
          placed = subst (IsPlacedAt x) (sym keeps) tt;
        }

    faulted : (f : PortFault) (new : End M) (r : After M) → new.kept ≡ Some f
        → IsBlamedAt (taken_at e f.port) (held_at e f.port) f.fault → Took x new run.hub r.0.taken
    faulted f new r keeps blamed = record {
      packets = λ none. absurd (some-not new.kept f keeps none);
      placed = subst (IsPlacedAt x) (sym keeps)
          (placed-fault (x f.port) (held_at e f.port) (taken_at e f.port) (get_or run.hub.taken f.port 0) f.fault
          (λ m front. let within = front-there e f.port m front in (stands f.port within, counts f.port within))
          (run.packets clear f.port) blamed);
    }

  -- An end that keeps a fault, or that is done, takes no turn.

  pub kept-halts : (e : End M) (f : PortFault) → e.kept ≡ Some f → machine_outlook k (core_of e) ≡ HubHalts
  kept-halts e f kept = ap (λ o. outlook_of (acts_unless k (core_of e) (option_map port_cause o))) kept

  halts-turn : (e : End M) → machine_outlook k (core_of e) ≡ HubHalts → turn_of k e ≡ None
  halts-turn e halts = ap (hub_turn_by (machine_alone k packet_codec) (before-turn e) (held_at e)) halts

  pub halts-rests : (e : End M) → machine_outlook k (core_of e) ≡ HubHalts → IsAtRest k e
  halts-rests e halts start n x sent run =
      ap (λ c. hub_turn_by (machine_alone k packet_codec) run.hub x (machine_outlook k c)) (sym run.core)
      ∙ ap (hub_turn_by (machine_alone k packet_codec) run.hub x) halts

  -- An end that waits keeps no fault and awaits a packet of the port, of which none is whole.

  waits-at : (e : End M) (p : ℕ) → IsWaiting k p e → (machine_acts k (core_of e) ≡ Awaits p) × (whole-of e p ≡ None)
  waits-at e p waits = waits-for k (core_of e) (whole-of e) (machine_acts k (core_of e)) p waits

  none-first : (m : Option (Decoded Cause × ℕ)) → option_map (λ r. r.0) m ≡ None → m ≡ None
  none-first None is = refl
  none-first (Some m) is = absurd (absent m.0 is)

  pub waits-none : (p : ℕ) (e : End M) → IsWaiting k p e → first (held_at e p) ≡ None
  waits-none p e waits = none-first (first (held_at e p)) (waits-at e p waits).1

  pub waits-clear : (p : ℕ) (e : End M) → IsWaiting k p e → e.kept ≡ None
  waits-clear p e waits = by e.kept refl
    where
      by : (kept : Option PortFault) → e.kept ≡ kept → e.kept ≡ None
      by None is = is
      by (Some f) is = absurd (cc (kept-halts e f is, ap (λ a. outlook_of a) (waits-at e p waits).0))

  pub waits-awaits : (p : ℕ) (e : End M) → IsWaiting k p e → e.kept ≡ None → e.clear.fault ≡ None
      → awaited (machine_acts k e.clear) ≡ Some p
  waits-awaits p e waits kept clear =
      ap (λ c. awaited (machine_acts k c)) (sym (clear-core e kept clear)) ∙ ap (λ a. awaited a) (waits-at e p waits).0

  waits-turn : (p : ℕ) (e : End M) → IsWaiting k p e → turn_of k e ≡ None
  waits-turn p e waits =
      ap (turned k (before-turn e) (held_at e)) (waits-at e p waits).0 ∙ front-taken e p None (waits-none p e waits)

  -- one that waits for a packet of a port that is there has taken every turn
  pub waits-rests : (p : ℕ) (e : End M) → IsWaiting k p e → p < length e.ports → IsAtRest k e
  waits-rests p e waits there start n x sent run =
      let front = ap first (sym (stands start n x sent e (waits-clear p e waits) run p there)) ∙ waits-none p e waits in
      ap (λ c. hub_turn_by (machine_alone k packet_codec) run.hub x (machine_outlook k c)) (sym run.core)
      ∙ ap (turned k run.hub x) (waits-at e p waits).0
      ∙ ap (hub_after_take (machine_alone k packet_codec) run.hub p) front

  -- the run of an end that can take no more turns is whole
  pub rests-whole : (start : MachineEnd M Cause) (n : ℕ) (x sent : Streams) (e : End M)
      (run : HasRun k start n x sent e) → IsAtRest k e → IsWholeRun k start n x run.hub sent
  rests-whole start n x sent e run rests =
      record { turns = run.turns; run = run.run; rests = rests start n x sent run }

  -- What every call of turn shows.

  module _ (start : MachineEnd M Cause) (n : ℕ) (x sent later : Streams) (old new : End M) (before after : List ℕ) where
    still-run : new ≡ old → ((q : ℕ) → later q ≡ sent q) → HasRun k start n x sent old → HasRun k start n x later new
    still-run same quiet run =
        subst (λ (e : End M). HasRun k start n x later e) (sym same) (sent-stays k start n x sent later old quiet run)

    moved-run : (answer : Answer) (kept : Option PortFault) → IsTurn k old new before after answer kept
        → (after ≡ before → (q : ℕ) → later q ≡ sent q)
        → ((r : After M) → turn_of k old ≡ Some r → old.kept ≡ None → after ≡ before ++ sent_by r.1
        → length old.ports ≡ n → (q : ℕ) → later q ≡ sent q ++ to_leaf n r.1 (suc q))
        → ((r : After M) → turn_of k old ≡ Some r → (clear : old.kept ≡ None) → (run : HasRun k start n x sent old)
        → Took x new run.hub r.0.taken)
        → HasRun k start n x sent old → HasRun k start n x later new
    moved-run answer kept call quiet more took run = by (turn_of k old) refl old.kept refl call.goes
      where
        by : (o : Option (After M)) → turn_of k old ≡ o → (had : Option PortFault) → old.kept ≡ had
            → Goes o old new before after → HasRun k start n x later new
        by None is was goes_was goes = still-run goes.0 (quiet goes.1) run
        by (Some r) is (Some f) was goes = absurd (absent r (sym is ∙ halts-turn old (kept-halts old f was)))
        by (Some r) is None was goes =
            turned-run start n x sent old was run later new before after r is goes call.size
            (more r is was goes.2 run.size) (took r is was run)

    -- a turn that sends nothing
    quiet-run : (answer : Answer) (kept : Option PortFault) → IsTurn k old new before after answer kept
        → ((p : ℕ) → answer ≡ Ok (turn.Sent p) → ⊥) → ((q : ℕ) → later q ≡ sent q)
        → ((r : After M) → turn_of k old ≡ Some r → (clear : old.kept ≡ None) → (run : HasRun k start n x sent old)
        → Took x new run.hub r.0.taken)
        → HasRun k start n x sent old → HasRun k start n x later new
    quiet-run answer kept call other same took run =
        moved-run answer kept call (λ is. same)
        (λ r is clear out size q.
        same q ∙ sym (append-nil (sent q)) ∙ ap (λ s. sent q ++ to_leaf n s (suc q))
        (sym (sends-nothing k (before-turn old) (held_at old) (core_of old) (whole-of old)
        (machine_acts k (core_of old)) answer r call.answers other is))) took run

    acting-run : (t : Turn) → IsTurn k old new before after (Ok t) None → IsActing t → ((p : ℕ) → t ≡ turn.Sent p → ⊥)
        → ((q : ℕ) → later q ≡ sent q) → HasRun k start n x sent old → HasRun k start n x later new
    acting-run t call acting other same run =
        quiet-run (Ok t) None call (λ p is. other p (ok-is t (turn.Sent p) is)) same
        (λ r is clear run. acted start n x sent old clear run t new r acting call.answers call.keeps is) run

    sending-run : (p : ℕ) → IsTurn k old new before after (Ok (turn.Sent p)) None
        → (old.kept ≡ None → p < length old.ports) → Sent (Ok (turn.Sent p)) before after sent later
        → HasRun k start n x sent old → HasRun k start n x later new
    sending-run p call there grown run =
        moved-run (Ok (turn.Sent p)) None call
        (λ same q.
        grown q ∙ ap (λ s. sent q ++ only_at p s q) (ap (drop (length before)) (same ∙ sym (append-nil before))
        ∙ drop_front before []) ∙ ap (λ s. sent q ++ s) (only-nothing p q) ∙ append-nil (sent q))
        (λ r is clear out size q.
        let to = sends-to k (before-turn old) (held_at old) (core_of old) (whole-of old) (machine_acts k (core_of old))
        p r call.answers is in
        let bytes = ap (drop (length before)) (out ∙ ap (λ s. before ++ sent_by s) to.1) ∙ drop_front before to.0 in
        grown q ∙ ap (λ s. sent q ++ only_at p s q) bytes
        ∙ ap (λ s. sent q ++ s) (sent-there n p q to.0 (subst (λ m. p < m) size (there clear)))
        ∙ ap (λ s. sent q ++ to_leaf n s (suc q)) (sym to.1))
        (λ r is clear run. acted start n x sent old clear run (turn.Sent p) new r tt call.answers call.keeps is) run

    call-run : (result : Result Turn TurnFault) → Turns k old new before after result
        → (old.kept ≡ None → IsAtFront old result) → Sent result before after sent later
        → HasRun k start n x sent old → HasRun k start n x later new
    call-run (Ok turn.Unit) call front sends run = acting-run turn.Unit call tt (λ p is. cc (is)) sends run
    call-run (Ok (turn.Sent p)) call front sends run = sending-run p call front sends run
    call-run (Ok (turn.Took p)) call front sends run =
        quiet-run (Ok (turn.Took p)) None call (λ q is. cc (is)) sends
        (λ r is clear run.
        let m = front clear in
        took-one start n x sent old clear run p m.0 m.1 new r m.2
        (takes-from k (core_of old) (whole-of old) (machine_acts k (core_of old)) p call.answers) call.keeps is) run
    call-run (Ok (turn.Served p)) call front sends run = acting-run (turn.Served p) call tt (λ q is. cc (is)) sends run
    call-run (Ok turn.Marked) call front sends run = acting-run turn.Marked call tt (λ p is. cc (is)) sends run
    call-run (Ok (turn.NotYet p)) call front sends run =
        quiet-run (Ok (turn.NotYet p)) None call (λ q is. cc (is)) sends
        (λ r is clear run. absurd (absent r (sym is ∙ waits-turn p old call.answers))) run
    call-run (Ok turn.Done) call front sends run = acting-run turn.Done call tt (λ p is. cc (is)) sends run
    call-run (Err (turn_fault.Port f)) call front sends run =
        quiet-run (Err (port_cause f)) (Some f) call (λ p is. cc (is)) sends
        (λ r is clear run. faulted start n x sent old clear run f new r call.keeps (front clear)) run
    call-run (Err turn_fault.NoMemory) call front sends run = still-run call.0 sends run

  pub call-runs : (old new : End M) (before after : List ℕ) (result : Result Turn TurnFault)
      → Turns k old new before after result → (old.kept ≡ None → IsAtFront old result)
      → GoesOn k old new before after result
  call-runs old new before after result call front start n x sent later sends run =
      call-run start n x sent later old new before after result call front sends run

  same-after : (old new : End M) (before after : List ℕ) (o : Option (After M)) → o ≡ None
      → Goes o old new before after → (new ≡ old) × (after ≡ before)
  same-after old new before after None is goes = goes
  same-after old new before after (Some r) is goes = absurd (absent r is)

  -- a turn that finds no packet whole changes nothing, and the end waits
  pub waits-same : (p : ℕ) (old new : End M) (before after : List ℕ)
      → IsTurn k old new before after (Ok (turn.NotYet p)) None → (new ≡ old) × (after ≡ before)
  waits-same p old new before after call =
      same-after old new before after (turn_of k old) (waits-turn p old call.answers) call.goes

  pub call-waits : (p : ℕ) (old new : End M) (before after : List ℕ)
      → IsTurn k old new before after (Ok (turn.NotYet p)) None → IsWaiting k p new
  call-waits p old new before after call =
      subst (λ e. IsWaiting k p e) (sym (waits-same p old new before after call).0) call.answers

  pub kept-all : (e : End M) (f : PortFault) → e.kept ≡ Some f → SendsAll k (Err (turn_fault.Port f)) e
  kept-all e f kept = halts-rests e (kept-halts e f kept)

  -- an end at rest that is the same
  rests-same : (old new : End M) → new ≡ old → IsAtRest k old → IsAtRest k new
  rests-same old new same rests = subst (λ e. IsAtRest k e) (sym same) rests

  pub call-all : (old new : End M) (before after : List ℕ) (result : Result Turn TurnFault)
      → Turns k old new before after result → ((p : ℕ) → IsWaiting k p old → p < length old.ports)
      → SendsAll k result new
  call-all old new before after (Ok (turn.NotYet p)) call there =
      rests-same old new (waits-same p old new before after call).0
      (waits-rests p old call.answers (there p call.answers))
  call-all old new before after (Ok turn.Done) call there =
      let halts = done-halts k (core_of old) (whole-of old) (machine_acts k (core_of old)) call.answers in
      rests-same old new (same-after old new before after (turn_of k old) (halts-turn old halts) call.goes).0
      (halts-rests old halts)
  call-all old new before after (Ok turn.Unit) call there = tt
  call-all old new before after (Ok (turn.Sent p)) call there = tt
  call-all old new before after (Ok (turn.Took p)) call there = tt
  call-all old new before after (Ok (turn.Served p)) call there = tt
  call-all old new before after (Ok turn.Marked) call there = tt
  call-all old new before after (Err (turn_fault.Port f)) call there = kept-all new f call.keeps
  call-all old new before after (Err turn_fault.NoMemory) call there = tt
