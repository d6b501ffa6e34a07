-- A packet was taken into the session of the awaited port.
use Rattle.std.proofs.Common.{◌≡◌, inl, inr, ℕ, zero, suc, ◌≤◌, Bool, true, false, List, [], ◌∷◌, map, set, refl, sym, ap, ◌∙◌, subst, arith, Result, Ok, Err}
use Rattle.std.specs.Prelude.{◌&&◌, if◌then◌else◌, Option, Some, None, is_some, is_none, slice_get}
use Rattle.std.proofs.lemmas.List.{length-set}
use Rattle.cosim_model.specs.declared.session.Event.{Event}
use Rattle.cosim_model.specs.declared.session.Event.TheVariants.{Nothing, Met, Asked, Told, Answered, SyncDone}
use Rattle.cosim_model.specs.declared.session.OwnRequest.{OwnRequest}
use Rattle.cosim_model.specs.declared.session.SessionFault.{SessionFault}
use Rattle.cosim_model.specs.declared.values.Access.{Access}
use Rattle.cosim_model.specs.Packets.{Packet, Body, is_response}
use Rattle.cosim_model.specs.Packets.Body.{Nop, Hello, Cfg, Read, Write, Interrupt, Sync}
use Rattle.cosim_model.specs.Packets.Decoded.{Valid}
use Rattle.cosim_model.specs.Parts.{MasterModel}
use Rattle.cosim_model.specs.Sessions.{Session, take_packet}
use Rattle.cosim_model.specs.Values.{all_on}
use Rattle.ends_model.specs.declared.ends.Phase.{Phase}
use Rattle.ends_model.specs.declared.ends.Phase.TheVariants.{Greet, Meet, Run, AnswerFrom, SyncTo, Gather, Done}
use Rattle.ends_model.specs.MachineTurn.{PortEnd, MachineEnd, faulted, gathered, hold_request, is_clear, is_last, is_unknown, machine_hears_at, machine_judges, machine_takes, time_of}
use Rattle.cosim_model.specs.declared.session.EndFault.TheVariants as end_fault
use Rattle.rp_packet.specs.declared.fault.Cause.{Cause}
use Rattle.machine_core.specs.Ports.{IsHeld, IsShort, IsTakenOr, Keeps, Fits}
use Rattle.machine_core.specs.Machines.{Core, IsIn, IsMachine, IsPortIn, ArePortsIn, MayAnswer, MayHold, Took, ends_sync, is_late}
use Rattle.machine_core.proofs.Awaiting.{IsAwaiting, awaiting-there}
use Rattle.machine_core.proofs.Frames.{in-phase, ports-in, put-there, same-phase, set-there, set-set, unclear}
use Rattle.machine_core.proofs.Syncing.{open-port}
use Rattle.machine_core.proofs.Working.{free-of}

-- What only the answer of a sync changes.
pub sync-kept : (s r : Session) (m : Packet) (v : Result Event SessionFault) → IsTakenOr s r m v
    → ends_sync v ≡ false → r.own_sync ≡ s.own_sync
sync-kept s r m (Err f) is no_end = is
sync-kept s r m (Ok Nothing) is no_end = is
sync-kept s r m (Ok Met) is no_end = is
sync-kept s r m (Ok (Asked t)) is no_end = is.0
sync-kept s r m (Ok Told) is no_end = is.0
sync-kept s r m (Ok Answered) is no_end = is.0
sync-kept s r m (Ok SyncDone) is no_end = absurd (cc (no_end))

pub sync-gone : (s r : Session) (m : Packet) (v : Result Event SessionFault) → IsTakenOr s r m v
    → ends_sync v ≡ true → r.own_sync ≡ None
sync-gone s r m (Err f) is ends = absurd (cc (ends))
sync-gone s r m (Ok Nothing) is ends = absurd (cc (ends))
sync-gone s r m (Ok Met) is ends = absurd (cc (ends))
sync-gone s r m (Ok (Asked t)) is ends = absurd (cc (ends))
sync-gone s r m (Ok Told) is ends = absurd (cc (ends))
sync-gone s r m (Ok Answered) is ends = absurd (cc (ends))
sync-gone s r m (Ok SyncDone) is ends = is

-- An unknown port holds nothing, and its sync is out.

unknown-by : (held : Option Packet) (own : Option OwnRequest) → is_none held && is_some own ≡ true
    → (held ≡ None) × ((o : OwnRequest) × (own ≡ Some o))
unknown-by None None is = absurd (cc (is))
unknown-by None (Some o) is = (refl, (o, refl))
unknown-by (Some m) own is = absurd (cc (is))

no-held : (held : Option Packet) → held ≡ None → is_some held ≡ true → ⊥
no-held None none some = absurd (cc (some))
no-held (Some m) none some = absurd (cc (none))

free-still : (q r : PortEnd) → Keeps q.session r.session → q.session.own_other ≡ None → r.session.own_other ≡ None
free-still q r keeps free = free-of r.session.own_other (λ o out. absurd (cc (keeps.other o out, free)))

module _ {M : Type 0} (k : MasterModel M) (h : MachineEnd M Cause) (p : ℕ) (q r : PortEnd)
    (at : slice_get h.ports p ≡ Some q) (keeps : Keeps q.session r.session) (held : r.held ≡ q.held)
    (machine : IsMachine k h) where
  same-machine : (now : Phase) → h.phase ≡ now → IsPortIn now p r
      → IsIn k (record h { ports = set h.ports p r }) now → IsMachine k (record h { ports = set h.ports p r })
  same-machine now phase one into =
      let size = length-set h.ports p r in
      let reach = machine.reach in
      let few = machine.few in
      record {
        quantum = machine.quantum;
        ticks = machine.ticks;
        reach = omega (arith, size, reach);
        few = omega (arith, size, few);
        ports = subst (λ x. ArePortsIn x (set h.ports p r)) (sym phase)
            (same-phase now h.ports p r (ports-in k h now phase machine) one);
        phase = subst (λ x. IsIn k (record h { ports = set h.ports p r }) x) (sym phase) into;
      }

  -- by where it stands, with what is known of its sync in a boundary
  taken-by : IsAwaiting h p → (is_some q.session.own_sync ≡ false → is_some r.session.own_sync ≡ false)
      → (h.phase ≡ Gather → (is_some r.held ≡ true → is_some r.session.own_sync ≡ true)
      × (all_on (map is_clear (set h.ports p r)) ≡ false)) → IsMachine k (record h { ports = set h.ports p r })
  taken-by (inl phase) shut open_sync =
      let one = ports-in k h (Meet p) phase machine p q at in
      let was = in-phase k h (Meet p) phase machine in
      let within = was.0 in
      let size = length-set h.ports p r in
      same-machine (Meet p) phase
      (record { greeted = keeps.greeted ∙ one.greeted; other = free-still q r keeps one.other; sync = shut one.sync })
      (omega (arith, size, within), was.1, was.2)
  taken-by (inr (inl answer)) shut open_sync =
      let one = ports-in k h (AnswerFrom p answer.0) answer.1 machine p q at in
      let was = in-phase k h (AnswerFrom p answer.0) answer.1 machine in
      let within = was.0 in
      let size = length-set h.ports p r in
      same-machine (AnswerFrom p answer.0) answer.1
      (record {
        greeted = keeps.greeted ∙ one.greeted;
        other = λ o out. one.other o (keeps.other o out);
        sync = shut one.sync;
      })
      (omega (arith, size, within), was.1, was.2, was.3)
  taken-by (inr (inr gather)) shut open_sync =
      let one = ports-in k h Gather gather.0 machine p q at in
      let was = in-phase k h Gather gather.0 machine in
      same-machine Gather gather.0
      (record {
        greeted = keeps.greeted ∙ one.greeted;
        other = free-still q r keeps one.other;
        sync = (open_sync gather.0).0;
      })
      ((open_sync gather.0).1, was.1)

  gather-facts : IsAwaiting h p → h.phase ≡ Gather → (q.held ≡ None) × ((o : OwnRequest) × (q.session.own_sync ≡ Some o))
  gather-facts (inl phase) is = absurd (cc (phase, is))
  gather-facts (inr (inl answer)) is = absurd (cc (answer.1, is))
  gather-facts (inr (inr gather)) is =
      let both : Some gather.1.0 ≡ Some q = sym gather.1.1 ∙ at in
      let same : gather.1.0 ≡ q = cc in
      unknown-by q.held q.session.own_sync (ap is_unknown (sym same) ∙ gather.1.2)

  -- the sync is as it was
  pub taken-machine : IsAwaiting h p → r.session.own_sync ≡ q.session.own_sync
      → IsMachine k (record h { ports = set h.ports p r })
  taken-machine awaits sync =
      taken-by awaits (λ none. ap (λ o. is_some o) sync ∙ none) (λ phase.
      let facts = gather-facts awaits phase in
      let within = awaiting-there k h p machine awaits in (
        λ some. absurd (no-held r.held (held ∙ facts.0) some),
        unclear (set h.ports p r) p r (set-there h.ports p r within) (open-port r facts.1.0 (sync ∙ facts.1.1)),
      ))

  -- the sync was answered
  pub answered-machine : IsAwaiting h p → r.session.own_sync ≡ None
      → (h.phase ≡ Gather → all_on (map is_clear (set h.ports p r)) ≡ false)
      → IsMachine k (record h { ports = set h.ports p r })
  answered-machine awaits gone unclear_yet =
      taken-by awaits (λ none. ap (λ o. is_some o) gone) (λ phase.
      let facts = gather-facts awaits phase in
      (λ some. absurd (no-held r.held (held ∙ facts.0) some), unclear_yet phase))

-- The boundary is over.

clear-of : (held : Option Packet) (own : Option OwnRequest) → is_none held && is_none own ≡ true → is_some own ≡ false
clear-of None None is = refl
clear-of None (Some o) is = absurd (cc (is))
clear-of (Some m) own is = absurd (cc (is))

and-both : (a b : Bool) → a && b ≡ true → (a ≡ true) × (b ≡ true)
and-both true b e = (refl, e)
and-both false b e = absurd (cc (e))

all-at : (qs : List PortEnd) (i : ℕ) (q : PortEnd) → all_on (map is_clear qs) ≡ true → slice_get qs i ≡ Some q
    → is_clear q ≡ true
all-at [] i q all at = absurd (cc (at))
all-at (x ∷ qs) zero q all at =
    let both = and-both (is_clear x) (all_on (map is_clear qs)) all in
    let same : x ≡ q = cc in
    ap is_clear (sym same) ∙ both.0
all-at (x ∷ qs) (suc i) q all at =
    all-at qs i q (and-both (is_clear x) (all_on (map is_clear qs)) all).1 at

over-in : {M : Type 0} (k : MasterModel M) (h : MachineEnd M Cause) (last : Bool) → is_last k h ≡ last
    → k.issued h.master ≡ None → IsIn k (record h { marked = true }) (if last then Done else Run)
over-in k h true is free = free
over-in k h false is free = (free, λ marked. is)

over-ports : (last : Bool) (qs : List PortEnd) → ArePortsIn Gather qs → all_on (map is_clear qs) ≡ true
    → ArePortsIn (if last then Done else Run) qs
over-ports true qs ports all i q at =
    let one = ports i q at in
    record {
      greeted = one.greeted;
      other = one.other;
      sync = clear-of q.held q.session.own_sync (all-at qs i q all at);
    }
over-ports false qs ports all i q at =
    let one = ports i q at in
    record {
      greeted = one.greeted;
      other = one.other;
      sync = clear-of q.held q.session.own_sync (all-at qs i q all at);
    }

pub over-machine : {M : Type 0} (k : MasterModel M) (h : MachineEnd M Cause) (p : ℕ) (q r : PortEnd) (next : Phase)
    → slice_get h.ports p ≡ Some q → Keeps q.session r.session → r.held ≡ q.held → IsMachine k h → IsAwaiting h p
    → h.phase ≡ Gather → all_on (map is_clear (set h.ports p r)) ≡ true → next ≡ (if is_last k h then Done else Run)
    → IsMachine k (record h { phase = next; ports = set h.ports p r; marked = true })
over-machine k h p q r next at keeps held machine awaits phase all is =
    let size = length-set h.ports p r in
    let reach = machine.reach in
    let few = machine.few in
    let one = ports-in k h Gather phase machine p q at in
    let facts = gather-facts k h p q r at keeps held machine awaits phase in
    let put : IsPortIn Gather p r = record {
      greeted = keeps.greeted ∙ one.greeted;
      other = free-still q r keeps one.other;
      sync = λ some. absurd (no-held r.held (held ∙ facts.0) some);
    } in
    let ports = same-phase Gather h.ports p r (ports-in k h Gather phase machine) put in
    record {
      quantum = machine.quantum;
      ticks = machine.ticks;
      reach = omega (arith, size, reach);
      few = omega (arith, size, few);
      ports = subst (λ x. ArePortsIn x (set h.ports p r)) (sym is) (over-ports (is_last k h) (set h.ports p r) ports all);
      phase = subst (λ x. IsIn k (record h { phase = next; ports = set h.ports p r; marked = true }) x) (sym is)
          (over-in k (record h { phase = next; ports = set h.ports p r }) (is_last k h) refl
          (in-phase k h Gather phase machine).1);
    }

-- What became of it.

short-by : (own : Option OwnRequest) (b : Body) → Fits own b → ((o : OwnRequest) → own ≡ Some o → o.len ≤ 8) → IsShort b
short-by own (Read f) fits few =
    λ ok. (let o = fits ok in let most = few o.0 o.1 in let same = o.2 in omega (arith, most, same))
short-by own (Write f) fits few = tt
short-by own Nop fits few = tt
short-by own (Hello major minor caps) fits few = tt
short-by own (Cfg opt set) fits few = tt
short-by own (Interrupt time vector line val) fits few = tt
short-by own (Sync time) fits few = tt

module _ {M : Type 0} (k : MasterModel M) (h : MachineEnd M Cause) (p : ℕ) (m : Packet) (q r : PortEnd)
    (at : slice_get h.ports p ≡ Some q) (is : r ≡ record q { session = (take_packet q.session m).0 })
    (keeps : Keeps q.session r.session) (machine : IsMachine k h) (awaits : IsAwaiting h p) where
  takes-as : (v : Result Event SessionFault) → v ≡ (take_packet q.session m).1
      → machine_judges k h p r m v ≡ machine_takes k h p (Valid m)
  takes-as v event =
      (λ i. machine_judges k h p (is i) m (event i)) ∙ ap (λ o. machine_hears_at k h p (Valid m) o) (sym at)

  abbrev now : MachineEnd M Cause
  now = record h { ports = set h.ports p r }

  late-as : (late : Bool) → hold_request k now p r m late ≡ hold_request k h p r m late
  late-as true = ap (λ qs. faulted k (record h { ports = qs }) p (end_fault.LateWant r.last (time_of m.body))) (set-set h.ports p r r)
  late-as false = ap (λ qs. record h { ports = qs }) (set-set h.ports p r (record r { held = Some m }))

  here : slice_get (set h.ports p r) p ≡ Some r
  here = set-there h.ports p r (awaiting-there k h p machine awaits)

  may-hold : r.session.own_sync ≡ q.session.own_sync → IsHeld r.session m → MayHold now p m r
  may-hold sync held = record {
    there = here;
    held = held;
    synced = λ phase.
        (let facts = gather-facts k h p q r at keeps (ap (λ x. x.held) is) machine awaits phase in
        ap (λ o. is_some o) (sync ∙ facts.1.1));
  }

  short-of : Fits q.session.own_other m.body → (n : ℕ) (a : Access) → h.phase ≡ AnswerFrom n a → (n ≡ p) × IsShort m.body
  short-of fits n a phase = by awaits
    where
      by : IsAwaiting h p → (n ≡ p) × IsShort m.body
      by (inl meet) = absurd (cc (phase, meet))
      by (inr (inr gather)) = absurd (cc (phase, gather.0))
      by (inr (inl answer)) =
          let both : AnswerFrom n a ≡ AnswerFrom p answer.0 = sym phase ∙ answer.1 in
          let same : n ≡ p = cc in
          let one = ports-in k h (AnswerFrom p answer.0) answer.1 machine p q at in
          let size = (in-phase k h (AnswerFrom p answer.0) answer.1 machine).3 in
          (same, short-by q.session.own_other m.body fits (λ o out. (let len = (one.other o out).1 in omega (arith, len, size))))

  may-answer : is_response m ≡ true → r.session.own_other ≡ None → Fits q.session.own_other m.body → MayAnswer now p m
  may-answer answers free fits = record {
    answers = answers;
    free = λ x there. ap (λ y. y.session.own_other) (put-there h.ports p r x there) ∙ free;
    awaited = short-of fits;
  }

  took-by : (v : Result Event SessionFault) → v ≡ (take_packet q.session m).1 → IsTakenOr q.session r.session m v
      → (ends_sync v ≡ true → gathered k now (all_on (map is_clear (set h.ports p r))) h.phase ≡ now)
      → Took k (machine_takes k h p (Valid m)) now p m v
  took-by (Err f) event taken stays = takes-as (Err f) event
  took-by (Ok Nothing) event taken stays = takes-as (Ok Nothing) event
  took-by (Ok SyncDone) event taken stays = sym (stays refl) ∙ takes-as (Ok SyncDone) event
  took-by (Ok Met) event taken stays = takes-as (Ok Met) event
  took-by (Ok Answered) event taken stays =
      (takes-as (Ok Answered) event, may-answer taken.1 taken.2 taken.3)
  took-by (Ok Told) event taken stays =
      (r, may-hold taken.0 taken.1, late-as (is_late r m) ∙ takes-as (Ok Told) event)
  took-by (Ok (Asked t)) event taken stays =
      (r, may-hold taken.0 taken.1, late-as (is_late r m) ∙ takes-as (Ok (Asked t)) event)

  not-over : (phase : Phase) (all : Bool) → (phase ≡ Gather → all ≡ false) → gathered k now all phase ≡ now
  not-over Gather true more = absurd (cc (more refl))
  not-over Gather false more = refl
  not-over (Greet n) all more = refl
  not-over (Meet n) all more = refl
  not-over Run all more = refl
  not-over (AnswerFrom n a) all more = refl
  not-over (SyncTo n) all more = refl
  not-over Done all more = refl

  pub took : (room : ℕ) (old : Core M) → record { end = h; room = room } ≡ old → (v : Result Event SessionFault)
      → v ≡ (take_packet q.session m).1 → IsTakenOr q.session r.session m v
      → (ends_sync v ≡ true → h.phase ≡ Gather → all_on (map is_clear (set h.ports p r)) ≡ false)
      → Took k (machine_takes k old.end p (Valid m)) now p m v
  took room old view v event taken more =
      subst (λ (x : Core M). Took k (machine_takes k x.end p (Valid m)) now p m v) view
      (took-by v event taken (λ ends. not-over h.phase (all_on (map is_clear (set h.ports p r))) (more ends)))

  over-by : (v : Result Event SessionFault) → v ≡ (take_packet q.session m).1 → ends_sync v ≡ true
      → (next : MachineEnd M Cause) → next ≡ gathered k now (all_on (map is_clear (set h.ports p r))) h.phase
      → Took k (machine_takes k h p (Valid m)) next p m v
  over-by (Err f) event ends next end = absurd (cc (ends))
  over-by (Ok Nothing) event ends next end = absurd (cc (ends))
  over-by (Ok SyncDone) event ends next end = end ∙ takes-as (Ok SyncDone) event
  over-by (Ok Met) event ends next end = absurd (cc (ends))
  over-by (Ok Answered) event ends next end = absurd (cc (ends))
  over-by (Ok Told) event ends next end = absurd (cc (ends))
  over-by (Ok (Asked t)) event ends next end = absurd (cc (ends))

  pub took-over : (room : ℕ) (old : Core M) → record { end = h; room = room } ≡ old → (v : Result Event SessionFault)
      → v ≡ (take_packet q.session m).1 → ends_sync v ≡ true → h.phase ≡ Gather
      → all_on (map is_clear (set h.ports p r)) ≡ true → (phase : Phase) → phase ≡ (if is_last k h then Done else Run)
      → Took k (machine_takes k old.end p (Valid m)) (record h { phase = phase; ports = set h.ports p r; marked = true }) p m v
  took-over room old view v event ends gather all phase after =
      subst (λ (x : Core M). Took k (machine_takes k x.end p (Valid m))
      (record h { phase = phase; ports = set h.ports p r; marked = true }) p m v) view
      (over-by v event ends _ (ap (λ x. record h { phase = x; ports = set h.ports p r; marked = true }) after
      ∙ (λ i. gathered k now (sym all i) (sym gather i))))
