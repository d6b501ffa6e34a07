-- Runs of a machine end: more bytes behind don't change them, they begin with a fresh end, and they go on with what the
-- end is fed.
use Rattle.std.proofs.Common.{◌≡◌, ℕ, zero, suc, ◌+◌, ◌<◌, ◌≤◌, Bool, true, false, List, [], ◌∷◌, ◌++◌, length, drop}
use Rattle.std.proofs.Common.{get_or, set, replicate, refl, sym, ap, ◌∙◌, subst}
use Rattle.std.specs.Prelude.{Option, Some, None, nat_eq, if◌then◌else◌, option_map, slice_get}
use Rattle.std.proofs.lemmas.Bool.{eqb-false, eqb-true}
use Rattle.std.proofs.lemmas.List.{append-nil, drop-append-le, length-replicate, length-set}
use Rattle.std.proofs.lemmas.Option.{none-some, slice_get_within}
use Rattle.process_network.specs.Network.{Below, IsPrefix, Streams}
use Rattle.process_network.specs.PacketStar.{HubOutlook, fresh_hub, hub_after_take, hub_turn_by}
use Rattle.process_network.specs.PacketStar.HubOutlook.{HubActs, HubWaits, HubHalts}
use Rattle.process_network.specs.Star.{to_leaf}
use Rattle.process_network.proofs.MovesAtPort.{get_set}
use Rattle.process_network.proofs.PacketRuns.{ends_monotone}
use Rattle.cosim_model.specs.Packets.{Decoded}
use Rattle.cosim_model.specs.Parts.{MasterModel}
use Rattle.cosim_model.specs.Streams.{HasTaken}
use Rattle.cosim_model.proofs.Streams.{still_first}
use Rattle.ends_model.specs.MachineTurn.{MachineEnd, machine_outlook}
use Rattle.rp_packet.specs.CodecLaws.{codec-laws}
use Rattle.rp_packet.specs.declared.fault.Cause.{Cause}
use Rattle.rp_packet.specs.Refusals.{first}
use Rattle.rp_packet.specs.Streams.{packet_codec}
use Rattle.rp_framing.specs.Framing.{counted}
use Rattle.end_answers.specs.Faults.{IsPlaced, placed-longer}
use Rattle.machine_turns.specs.declared.fault.PortFault.{PortFault}
use Rattle.machine_turns.specs.Runs.{Grown, IsRun, Taking, machine_alone, only_at}
use Rattle.machine_turns.specs.Ends.{End, HasRun, IsPlacedAt, Received, RunsOn, core_of, fed_at, fresh, held_at}
use Rattle.machine_turns.specs.Ends.{held_of, more, put, taken_at, taken_in}
use Rattle.machine_turns.specs.StepLaws.{some-is, some-not, there-some, unfaulty, zeros}

module _ {M : Type 0} (k : MasterModel M) where
  -- a turn counts the bytes of as many ports
  after-take-size : (h : Taking M) (p : ℕ) (m : Option (Decoded Cause × ℕ)) (r : Taking M × Option (ℕ × List ℕ))
      → hub_after_take (machine_alone k packet_codec) h p m ≡ Some r → length r.0.taken ≡ length h.taken
  after-take-size h p None r is = absurd (none-some r is)
  after-take-size h p (Some m) r is =
      ap (λ (r : Taking M × Option (ℕ × List ℕ)). length r.0.taken) (sym (some-is _ r is))
      ∙ length-set h.taken p (get_or h.taken p 0 + m.1)

  turn-size : (h : Taking M) (x : Streams) (v : HubOutlook (MachineEnd M Cause) (Decoded Cause))
      (r : Taking M × Option (ℕ × List ℕ)) → hub_turn_by (machine_alone k packet_codec) h x v ≡ Some r
      → length r.0.taken ≡ length h.taken
  turn-size h x (HubActs next sends) r is =
      ap (λ (r : Taking M × Option (ℕ × List ℕ)). length r.0.taken) (sym (some-is _ r is))
  turn-size h x (HubWaits p) r is = after-take-size h p (first (drop (get_or h.taken p 0) (x p))) r is
  turn-size h x HubHalts r is = absurd (none-some r is)

  module _ (start : MachineEnd M Cause) (n : ℕ) where
    -- one turn more
    pub run-on : (x : Streams) (t : ℕ) (h : Taking M) (sent later : Streams) (r : Taking M × Option (ℕ × List ℕ))
        → IsRun k start n x t h sent
        → hub_turn_by (machine_alone k packet_codec) h x (machine_outlook k h.core) ≡ Some r
        → ((p : ℕ) → later p ≡ sent p ++ to_leaf n r.1 (suc p)) → IsRun k start n x (suc t) r.0 later
    run-on x t h sent later r run is more = (h, sent, r.1, run, is, more)

    pub run-size : (x : Streams) (t : ℕ) (h : Taking M) (sent : Streams) → IsRun k start n x t h sent
        → length h.taken ≡ n
    run-size x zero h sent run = ap (λ (h : Taking M). length h.taken) run.0 ∙ length-replicate n 0
    run-size x (suc t) h sent run =
        turn-size run.0 x (machine_outlook k run.0.core) (h, run.2) run.4 ∙ run-size x t run.0 run.1 run.3

    -- more bytes behind
    pub run-longer : (x y : Streams) (t : ℕ) (h : Taking M) (sent : Streams) → IsRun k start n x t h sent → Below x y
        → IsRun k start n y t h sent
    run-longer x y zero h sent run below = run
    run-longer x y (suc t) h sent run below = (
      run.0,
      run.1,
      run.2,
      run-longer x y t run.0 run.1 run.3 below,
      (ends_monotone (machine_alone k packet_codec) codec-laws.decided).0 run.0 x y (h, run.2) below run.4,
      run.5,
    )

    -- what was sent, by another function
    sent-same : (x : Streams) (t : ℕ) (h : Taking M) (sent other : Streams) → ((p : ℕ) → other p ≡ sent p)
        → IsRun k start n x t h sent → IsRun k start n x t h other
    sent-same x zero h sent other same run = (run.0, λ p. same p ∙ run.1 p)
    sent-same x (suc t) h sent other same run =
        (run.0, run.1, run.2, run.3, run.4, λ p. same p ∙ run.5 p)

    pub sent-stays : (x sent other : Streams) (e : End M) → ((p : ℕ) → other p ≡ sent p) → HasRun k start n x sent e
        → HasRun k start n x other e
    sent-stays x sent other e same run = record {
      turns = run.turns;
      hub = run.hub;
      run = sent-same x run.turns run.hub sent other same run.run;
      core = run.core;
      size = run.size;
      held = run.held;
      taken = run.taken;
      packets = run.packets;
      placed = run.placed;
    }

-- A fresh end stands at the beginning of the run over nothing.

drop-nil : (n : ℕ) → ◌≡◌ {A = List ℕ} (drop n []) []
drop-nil zero = refl
drop-nil (suc n) = refl

fresh-held : (n p : ℕ) → held_of (slice_get (replicate n (record { taken = 0; held = [] })) p) ≡ []
fresh-held zero p = refl
fresh-held (suc n) zero = refl
fresh-held (suc n) (suc p) = fresh-held n p

fresh-taken : (n p : ℕ) → taken_in (slice_get (replicate n (record { taken = 0; held = [] })) p) ≡ 0
fresh-taken zero p = refl
fresh-taken (suc n) zero = refl
fresh-taken (suc n) (suc p) = fresh-taken n p

pub run-fresh : {M : Type 0} (k : MasterModel M) (start : MachineEnd M Cause) (n : ℕ) → start.fault ≡ None
    → HasRun k start n (λ p. []) (λ p. []) (fresh start n)
run-fresh k start n clear = record {
  turns = 0;
  hub = fresh_hub start n;
  run = (refl, λ p. refl);
  core = sym (unfaulty start clear);
  size = length-replicate n (record { taken = 0; held = [] });
  held = λ none p less. fresh-held n p ∙ sym (drop-nil (get_or (replicate n 0) p 0));
  taken = λ none p less. fresh-taken n p ∙ sym (ap counted (zeros n p));
  packets = λ none p. ([], zeros n p);
  placed = tt;
}

-- Bytes come on a port.

more-none : (o : Option Received) → o ≡ option_map (more []) o
more-none None = refl
more-none (Some r) = ap (λ h. Some (record r { held = h })) (sym (append-nil r.held))

set-other : (rs : List Received) (p q : ℕ) (r : Received) → (q ≡ p → ⊥) → slice_get (set rs p r) q ≡ slice_get rs q
set-other [] p q r apart = refl
set-other (x ∷ rs) zero zero r apart = absurd (apart refl)
set-other (x ∷ rs) zero (suc q) r apart = refl
set-other (x ∷ rs) (suc p) zero r apart = refl
set-other (x ∷ rs) (suc p) (suc q) r apart = set-other rs p q r (λ same. apart (ap suc same))

apart-from : (q p : ℕ) → nat_eq q p ≡ false → q ≡ p → ⊥
apart-from q p is same = absurd (eqb-false q p is same)

-- what a port holds after bytes came
pub fed-ports : {M : Type 0} (e : End M) (p q : ℕ) (bytes : List ℕ)
    → slice_get (fed_at None p bytes e).ports q ≡ option_map (more (only_at p bytes q)) (slice_get e.ports q)
fed-ports e p q bytes = by (slice_get e.ports p) refl (nat_eq q p) refl
  where
    here : (o : Option Received) → slice_get e.ports p ≡ o → nat_eq q p ≡ true
        → option_map (more bytes) o ≡ option_map (more bytes) (slice_get e.ports q)
    here o at is = ap (option_map (more bytes)) (sym (ap (slice_get e.ports) (eqb-true q p is) ∙ at))

    by : (o : Option Received) → slice_get e.ports p ≡ o → (b : Bool) → nat_eq q p ≡ b
        → slice_get (put e p (option_map (more bytes) o)).ports q
        ≡ option_map (more (if b then bytes else [])) (slice_get e.ports q)
    by None at true is = ap (slice_get e.ports) (eqb-true q p is) ∙ at ∙ here None at is
    by None at false is = more-none (slice_get e.ports q)
    by (Some r) at true is =
        ap (slice_get (set e.ports p (more bytes r))) (eqb-true q p is)
        ∙ get_set e.ports p (more bytes r) (slice_get_within e.ports p r at) ∙ here (Some r) at is
    by (Some r) at false is =
        set-other e.ports p q (more bytes r) (apart-from q p is) ∙ more-none (slice_get e.ports q)

module _ {M : Type 0} (e : End M) (p : ℕ) (bytes : List ℕ) where
  put-core : (o : Option Received) → core_of (put e p o) ≡ core_of e
  put-core None = refl
  put-core (Some r) = refl

  put-kept : (o : Option Received) → (put e p o).kept ≡ e.kept
  put-kept None = refl
  put-kept (Some r) = refl

  put-size : (o : Option Received) → length (put e p o).ports ≡ length e.ports
  put-size None = refl
  put-size (Some r) = length-set e.ports p r

  taken-more : (more_bytes : List ℕ) (o : Option Received) → taken_in (option_map (more more_bytes) o) ≡ taken_in o
  taken-more more_bytes None = refl
  taken-more more_bytes (Some r) = refl

  fed-held : (q : ℕ) → q < length e.ports → held_at (fed_at None p bytes e) q ≡ held_at e q ++ only_at p bytes q
  fed-held q within =
      let at = there-some e.ports q within in
      ap held_of (fed-ports e p q bytes ∙ ap (option_map (more (only_at p bytes q))) at.1)
      ∙ ap (λ o. held_of o ++ only_at p bytes q) (sym at.1)

  fed-taken : (q : ℕ) → taken_at (fed_at None p bytes e) q ≡ taken_at e q
  fed-taken q = ap taken_in (fed-ports e p q bytes) ∙ taken-more (only_at p bytes q) (slice_get e.ports q)

-- A place stays one over longer streams.

placed-below : (x y : Streams) (kept : Option PortFault) → Below x y → IsPlacedAt x kept → IsPlacedAt y kept
placed-below x y None below is = tt
placed-below x y (Some f) below is =
    let more = below f.port in
    subst (λ s. IsPlaced s (Some f.fault)) more.1 (placed-longer (x f.port) more.0 f.fault is)

packets-longer : (x y : List ℕ) (n : ℕ) → IsPrefix x y → HasTaken packet_codec x n None → HasTaken packet_codec y n None
packets-longer x y n more is =
    subst (λ s. HasTaken packet_codec s n None) more.1
    (is.0, (still_first packet_codec codec-laws.decided is.0 n x more.0 is.1).1)

packets-within : (x : List ℕ) (n : ℕ) → HasTaken packet_codec x n None → n ≤ length x
packets-within x n is = (still_first packet_codec codec-laws.decided is.0 n x [] is.1).0

grown-below : (p : ℕ) (bytes : List ℕ) (x y : Streams) → Grown p bytes x y → Below x y
grown-below p bytes x y grown q = (only_at p bytes q, sym (grown q))

module _ {M : Type 0} (k : MasterModel M) (start : MachineEnd M Cause) (n : ℕ) (x y sent : Streams) (e : End M) where
  fed-run : (p : ℕ) (bytes : List ℕ) → e.kept ≡ None → Grown p bytes x y → HasRun k start n x sent e
      → HasRun k start n y sent (fed_at None p bytes e)
  fed-run p bytes clear grown run =
      let h = run.hub in
      let below = grown-below p bytes x y grown in
      let o = option_map (more bytes) (slice_get e.ports p) in
      record {
        turns = run.turns;
        hub = h;
        run = run-longer k start n x y run.turns h sent run.run below;
        core = put-core e p bytes o ∙ run.core;
        size = put-size e p bytes o ∙ run.size;
        held = λ none q within.
            fed-held e p bytes q (subst (λ m. q < m) (sym run.size) within)
            ∙ ap (λ s. s ++ only_at p bytes q) (run.held clear q within)
            ∙ sym (drop-append-le (get_or h.taken q 0) (x q) (only_at p bytes q)
            (packets-within (x q) (get_or h.taken q 0) (run.packets clear q)))
            ∙ ap (drop (get_or h.taken q 0)) (sym (grown q));
        taken = λ none q within. fed-taken e p bytes q ∙ run.taken clear q within;
        packets = λ none q. packets-longer (x q) (y q) (get_or h.taken q 0) (below q) (run.packets clear q);
        placed = subst (IsPlacedAt y) (sym (put-kept e p bytes o ∙ clear)) tt;
      }

  kept-run : (f : PortFault) → e.kept ≡ Some f → Below x y → HasRun k start n x sent e → HasRun k start n y sent e
  kept-run f kept below run = record {
    turns = run.turns;
    hub = run.hub;
    run = run-longer k start n x y run.turns run.hub sent run.run below;
    core = run.core;
    size = run.size;
    held = λ none. absurd (some-not e.kept f kept none);
    taken = λ none. absurd (some-not e.kept f kept none);
    packets = λ none. absurd (some-not e.kept f kept none);
    placed = placed-below x y e.kept below run.placed;
  }

module _ {M : Type 0} (k : MasterModel M) (p : ℕ) (bytes : List ℕ) (old new : End M) where
  feeds-by : (kept : Option PortFault) → old.kept ≡ kept → new ≡ fed_at kept p bytes old → RunsOn k p bytes old new
  feeds-by None clear fed start n x y sent grown run =
      subst (λ (e : End M). HasRun k start n y sent e) (sym fed)
      (fed-run k start n x y sent old p bytes clear grown run)
  feeds-by (Some f) kept fed start n x y sent grown run =
      subst (λ (e : End M). HasRun k start n y sent e) (sym fed)
      (kept-run k start n x y sent old f kept (grown-below p bytes x y grown) run)

  pub feeds-run : new ≡ fed_at old.kept p bytes old → RunsOn k p bytes old new
  feeds-run fed = feeds-by old.kept refl fed

  -- the same of an end that keeps no fault
  pub fed-runs : old.kept ≡ None → new ≡ fed_at None p bytes old → RunsOn k p bytes old new
  fed-runs clear fed = feeds-by None clear fed
