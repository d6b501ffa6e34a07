-- Local units of a master and of its end, up to the next boundary.
use Rattle.std.proofs.Common.{◌≡◌, ℕ, zero, suc, ◌+◌, ◌-◌, ◌<◌, ◌≤◌, Bool, true, false, List}
use Rattle.std.proofs.Common.{refl, sym, ap, ◌∙◌, subst, arith, Result, Ok, Err}
use Rattle.std.specs.Prelude.{not, ◌&&◌, ◌||◌, nat_eq, Option, Some, None, is_some, slice_get}
use Rattle.std.proofs.lemmas.Bool.{eq-eqb, ne_eqb}
use Rattle.cos_base.specs.declared.no_memory.NoMemory.{NoMemory}
use Rattle.cosim_model.specs.declared.values.Access.{Access}
use Rattle.cosim_model.specs.declared.values.Bus.{Bus}
use Rattle.cosim_model.specs.declared.values.Plan.{Plan}
use Rattle.cosim_model.specs.Order.{at_quantum}
use Rattle.cosim_model.specs.Parts.{MasterModel, IsAccess, IsMaster}
use Rattle.ends_model.specs.declared.ends.Phase.TheVariants.{Run, AnswerFrom}
use Rattle.ends_model.specs.declared.ends.Turn.{Turn}
use Rattle.ends_model.specs.MachineTurn.{Act, MachineEnd, PortEnd, accesses, acts_in, acts_unless, at_port}
use Rattle.ends_model.specs.MachineTurn.{is_boundary_due, is_due, is_last, machine_acts, runs, unit_done, works}
use Rattle.rp_packet.specs.declared.fault.Cause.{Cause}
use Rattle.machine_core.specs.Machines.{Acts, Core, Does, IsMachine}
use Rattle.machine_core.specs.Units.{Advances, AreAhead, AreLocal, HasWorked, Issues, TakesUnits}
use Rattle.machine_core.proofs.Frames.{in-phase, ports-in}
use Rattle.machine_core.proofs.Working.{issue-machine, on-by}

-- The loop over a master's units.

-- so far
pub record Taken {M : Type 0} (k : MasterModel M) (most left : ℕ) (old now : M) : Type 0 where
  pub units : ℕ
  pub count : units + left ≡ most
  pub local : AreLocal k units old now

module _ {M : Type 0} (k : MasterModel M) where
  one-more : (n : ℕ) (old now next : M) → k.stopped now ≡ None → k.issue now ≡ (next, None) → AreLocal k n old now
      → AreLocal k (suc n) old next
  one-more zero old now next runs is local =
      (next, ap k.stopped (sym local) ∙ runs, ap k.issue (sym local) ∙ is, refl)
  one-more (suc n) old now next runs is local =
      (local.0, local.1, local.2, one-more n local.0 now next runs is local.3)

  pub takes-one : (most left less : ℕ) (old now next : M) → k.stopped now ≡ None → k.issue now ≡ (next, None)
      → less + 1 ≡ left → Taken k most left old now → Taken k most less old next
  takes-one most left less old now next runs is down taken =
      let count = taken.count in record {
        units = suc taken.units;
        count = omega (arith, count, down);
        local = one-more taken.units old now next runs is taken.local;
      }

-- The end behind so many units of its master.

-- a tick stays marked until a unit is done
abbrev pub still : ℕ → Bool → Bool
still zero marked = marked
still (suc n) marked = false

abbrev pub after : {M : Type 0} → ℕ → MachineEnd M Cause → M → MachineEnd M Cause
after n h m = record h { phase = Run; master = m; tick = h.tick + n; marked = still n h.marked }

pub still-same : (units left most : ℕ) (marked : Bool) → units + left ≡ most
    → marked && nat_eq left most ≡ still units marked
still-same zero left most marked count =
    ap (λ b. marked && b) (eq-eqb left most (omega (arith, count))) ∙ last marked
  where
    last : (b : Bool) → b && true ≡ b
    last true = refl
    last false = refl
still-same (suc n) left most marked count =
    ap (λ b. marked && b) (ne_eqb left most (λ same. let f : left ≡ most = same in absurd (omega (arith, f, count))))
    ∙ last marked
  where
    last : (b : Bool) → b && false ≡ false
    last true = refl
    last false = refl

not-or : (a b c : Bool) → a ≡ false → b ≡ false → c ≡ false → not false && ((a || b) || c) ≡ false
not-or a b c x y z = ap (λ d. not false && ((d || b) || c)) x ∙ ap (λ d. not false && d || c) y ∙ z

not-equal : (m n : ℕ) → m < n → nat_eq m n ≡ false
not-equal m n less = ne_eqb m n (λ same. let f : m ≡ n = same in absurd (omega (arith, f, less)))

module _ {M : Type 0} (k : MasterModel M) where
  -- one unit later
  later-ahead : (plan : Plan) (m next : M) (tick : ℕ) (marked : Bool) (count : ℕ)
      → AreAhead k plan m tick marked (suc count) → AreAhead k plan next (suc tick) false count
  later-ahead plan m next tick marked count is =
      let within = is.within in record {
        within = omega (arith, within);
        due = λ runs some.
            not-or (is_some (k.stopped next)) (nat_eq (suc tick) plan.units) (at_quantum plan (suc tick))
            (ap (λ o. is_some o) runs) (not-equal (suc tick) plan.units (omega (arith, within, some)))
            (is.between (suc tick) (omega arith) (omega (arith, some)));
        between = λ t low high. is.between t (omega (arith, low)) (omega (arith, high));
      }

  acts-run : (h : MachineEnd M Cause) → h.fault ≡ None → h.phase ≡ Run → is_due k h ≡ false
      → machine_acts k h ≡ works k h (k.issue h.master).0 (k.issue h.master).1
  acts-run h clear phase due =
      ap (acts_unless k h) clear ∙ ap (acts_in k h) phase ∙ ap (λ b. runs k h b h.ports) due

  acts-with : (h : MachineEnd M Cause) (m : M) (o : Option Bus) → h.fault ≡ None → h.phase ≡ Run
      → is_due k h ≡ false → k.issue h.master ≡ (m, o) → machine_acts k h ≡ works k h m o
  acts-with h m o clear phase due is =
      acts-run h clear phase due ∙ ap (λ (r : M × Option Bus). works k h r.0 r.1) is

  after-none : (h : MachineEnd M Cause) (m : M) → h.phase ≡ Run → m ≡ h.master → after 0 h m ≡ h
  after-none h m phase same =
      let tick : h.tick + 0 ≡ h.tick = omega arith in
      ap (λ x. record h { phase = Run; master = x; tick = h.tick + 0 }) same
      ∙ ap (λ n. record h { phase = Run; tick = n }) tick ∙ ap (λ p. record h { phase = p }) (sym phase)

  after-later : (n : ℕ) (h : MachineEnd M Cause) (next m : M) → after n (unit_done k h next) m ≡ after (suc n) h m
  after-later n h next m =
      let tick : suc h.tick + n ≡ h.tick + suc n = omega arith in
      ap (λ t. record h { phase = Run; master = m; tick = t; marked = still n false }) tick
      ∙ ap (λ b. record h { phase = Run; master = m; tick = h.tick + suc n; marked = b }) (unmarked n)
    where
      unmarked : (n : ℕ) → still n false ≡ false
      unmarked zero = refl
      unmarked (suc n) = refl

  pub has-worked : (n : ℕ) (h : MachineEnd M Cause) (m : M) (count : ℕ) → AreLocal k n h.master m → h.fault ≡ None
      → h.phase ≡ Run → n ≤ count → AreAhead k h.plan h.master h.tick h.marked count → HasWorked k n h (after n h m)
  has-worked zero h m count local clear phase few ahead = after-none h m phase local
  has-worked (suc n) h m zero local clear phase few ahead = absurd (omega (arith, few))
  has-worked (suc n) h m (suc count) (next, runs, is, rest) clear phase few ahead = (
    unit_done k h next,
    acts-with h next None clear phase (ahead.due runs (omega arith)) is,
    subst (HasWorked k n (unit_done k h next)) (after-later n h next m)
        (has-worked n (unit_done k h next) m count rest clear refl (omega (arith, few))
        (later-ahead h.plan h.master next h.tick h.marked count ahead)),
  )

  -- no boundary is due behind them
  pub not-due : (n : ℕ) (h : MachineEnd M Cause) (m : M) (count : ℕ) → AreLocal k n h.master m → k.stopped m ≡ None
      → n < count → AreAhead k h.plan h.master h.tick h.marked count → is_due k (after n h m) ≡ false
  not-due zero h m count local runs few ahead =
      let tick : h.tick + 0 ≡ h.tick = omega arith in
      ap (λ x. is_boundary_due k h.plan x (h.tick + 0) h.marked) local
      ∙ ap (λ t. is_boundary_due k h.plan h.master t h.marked) tick
      ∙ ahead.due (ap k.stopped (sym local) ∙ runs) few
  not-due (suc n) h m zero local runs few ahead = absurd (omega (arith, few))
  not-due (suc n) h m (suc count) (next, on, is, rest) runs few ahead =
      ap (is_due k) (sym (after-later n h next m))
      ∙ not-due n (unit_done k h next) m count rest runs (omega (arith, few))
      (later-ahead h.plan h.master next h.tick h.marked count ahead)

  -- What always holds of it.

  local-issued : IsMaster k → (n : ℕ) (m last : M) → AreLocal k n m last → k.issued m ≡ None → k.issued last ≡ None
  local-issued law zero m last local free = ap k.issued local ∙ free
  local-issued law (suc n) m last (next, runs, is, rest) free =
      local-issued law n next last rest
      (ap k.issued (sym (ap (λ (r : M × Option Bus). r.0) is)) ∙ law.issue_local m (ap (λ (r : M × Option Bus). r.1) is))

  local-reach : IsMaster k → (n : ℕ) (m last : M) → AreLocal k n m last → k.reach last ≤ k.reach m
  local-reach law zero m last local = (let same = ap k.reach local in omega (arith, same))
  local-reach law (suc n) m last (next, runs, is, rest) =
      let more = local-reach law n next last rest in
      let one = law.issue_reach m in
      let same = ap (λ (r : M × Option Bus). k.reach r.0) is in
      omega (arith, more, one, same)

  after-marked : (n : ℕ) (h : MachineEnd M Cause) (m : M) → AreLocal k n h.master m → h.phase ≡ Run
      → (h.marked ≡ true → is_last k h ≡ false) → (after n h m).marked ≡ true → is_last k (after n h m) ≡ false
  after-marked zero h m local phase last marked =
      ap (is_last k) (after-none h m phase local) ∙ last marked
  after-marked (suc n) h m local phase last marked = absurd (cc (marked))

  pub after-machine : IsMaster k → (n : ℕ) (h : MachineEnd M Cause) (m : M) → AreLocal k n h.master m → h.phase ≡ Run
      → h.tick + n ≤ h.plan.units → IsMachine k h → IsMachine k (after n h m)
  after-machine law n h m local phase within machine =
      let was = in-phase k h Run phase machine in
      let had = machine.reach in
      let falls = local-reach law n h.master m local in
      record {
        quantum = machine.quantum;
        ticks = within;
        reach = omega (arith, had, falls);
        few = machine.few;
        ports = ports-in k h Run phase machine;
        phase = (local-issued law n h.master m local was.0, after-marked n h m local phase was.1);
      }

-- An access that was issued is sent as by the end before it.

module _ {M : Type 0} (k : MasterModel M) (h : MachineEnd M Cause) (m : M) (p : ℕ) (a : Access) where
  abbrev sending : MachineEnd M Cause
  sending = record h { phase = AnswerFrom p a; master = m }

  does-access : (old core new : Core M) (before out : List ℕ) (t : Turn) (posted : Bool) (o : Option PortEnd)
      → Does (at_port o (accesses k sending m p a posted)) core new before out t
      → Does (at_port o (accesses k h m p a posted)) old new before out t
  does-access old core new before out t posted None does = absurd does
  does-access old core new before out t true (Some q) does = does
  does-access old core new before out t false (Some q) does = does

pub none-is : {A : Type 0} (o : Option A) → is_some o ≡ false → o ≡ None
none-is None is = refl
none-is (Some a) is = absurd (cc (is))

-- What a call that takes units leaves of the end.

module _ {M : Type 0} (k : MasterModel M) (law : IsMaster k) (h : MachineEnd M Cause) (phase : h.phase ≡ Run)
    (clear : h.fault ≡ None) (machine : IsMachine k h) (most left : ℕ)
    (ahead : AreAhead k h.plan h.master h.tick h.marked most) (new : M) where
  abbrev now : M → MachineEnd M Cause
  now m = record h { master = m; tick = h.tick + (most - left); marked = h.marked && nat_eq left most }

  units-are : (units : ℕ) → units + left ≡ most → units ≡ most - left
  units-are units count = omega (arith, count)

  now-is : (units : ℕ) (m : M) → units + left ≡ most → now m ≡ after units h m
  now-is units m count =
      let done : h.tick + (most - left) ≡ h.tick + units = omega (arith, count) in
      ap (λ t. record h { master = m; tick = t; marked = h.marked && nat_eq left most }) done
      ∙ ap (λ b. record h { master = m; tick = h.tick + units; marked = b }) (still-same units left most h.marked count)
      ∙ ap (λ p. record h { phase = p; master = m; tick = h.tick + units; marked = still units h.marked }) phase

  now-machine : (units : ℕ) (m : M) → units + left ≡ most → AreLocal k units h.master m → IsMachine k (now m)
  now-machine units m count local =
      let within = ahead.within in
      subst (IsMachine k) (sym (now-is units m count))
      (after-machine k law units h m local phase (omega (arith, within, count)) machine)

  now-worked : (units : ℕ) (m : M) → units + left ≡ most → AreLocal k units h.master m → HasWorked k units h (now m)
  now-worked units m count local =
      subst (HasWorked k units h) (sym (now-is units m count))
      (has-worked k units h m most local clear phase (omega (arith, count)) ahead)

  -- the master stopped, or no unit was left
  module _ (issued : Result (Option Bus) NoMemory) (taken : TakesUnits k most left h.master new issued)
      (none : issued ≡ Ok None) where
    quiet : AreLocal k taken.units h.master new
    quiet = subst (AreLocal k taken.units h.master) (sym (subst (Issues k left taken.mid new) none taken.issues)) taken.local

    pub quiet-machine : IsMachine k (now new)
    quiet-machine = now-machine taken.units new taken.count quiet

    pub quiet-advances : (room : ℕ) (old core : Core M) (before out : List ℕ) (r : Result Turn NoMemory)
        → record { end = h; room = room } ≡ old → Acts k (record { end = now new; room = room }) core before out r
        → Advances k (most - left) old core before out r
    quiet-advances room old core before out r view acts =
        subst (λ (x : Core M). Advances k (most - left) x core before out r) view (record {
          mid = record { end = now new; room = room };
          worked = subst (λ n. HasWorked k n h (now new)) (units-are taken.units taken.count)
              (now-worked taken.units new taken.count quiet);
          acts = acts;
        })

  -- no memory was there for a unit
  module _ (issued : Result (Option Bus) NoMemory) (e : NoMemory)
      (taken : TakesUnits k most left h.master new issued) (fails : issued ≡ Err e) where
    stopped : AreLocal k taken.units h.master new
    stopped = subst (AreLocal k taken.units h.master) (sym (subst (Issues k left taken.mid new) fails taken.issues)) taken.local

    pub stopped-machine : IsMachine k (now new)
    stopped-machine = now-machine taken.units new taken.count stopped

    pub stopped-advances : (room : ℕ) (old : Core M) (out : List ℕ) → record { end = h; room = room } ≡ old
        → Advances k (most - left) old (record { end = now new; room = room }) out out (Err e)
    stopped-advances room old out view =
        subst (λ (x : Core M). Advances k (most - left) x (record { end = now new; room = room }) out out (Err e)) view (record {
          mid = record { end = now new; room = room };
          worked = subst (λ n. HasWorked k n h (now new)) (units-are taken.units taken.count)
              (now-worked taken.units new taken.count stopped);
          acts = (refl, refl);
        })

  -- an access was issued
  module _ (issued : Result (Option Bus) NoMemory) (b : Bus) (taken : TakesUnits k most left h.master new issued)
      (some : issued ≡ Ok (Some b)) where
    issues-it : Issues k left taken.mid new (Ok (Some b))
    issues-it = subst (Issues k left taken.mid new) some taken.issues

    before-machine : IsMachine k (now taken.mid)
    before-machine = now-machine taken.units taken.mid taken.count taken.local

    before-due : is_due k (now taken.mid) ≡ false
    before-due =
        let count = taken.count in
        let some_left = issues-it.0 in
        ap (is_due k) (now-is taken.units taken.mid taken.count)
        ∙ not-due k taken.units h taken.mid most taken.local issues-it.1 (omega (arith, count, some_left)) ahead

    pub issued-machine : IsMachine k (record (now taken.mid) { phase = AnswerFrom b.port b.access; master = new })
    issued-machine =
        issue-machine k law (now taken.mid) new b phase (on-by k (now taken.mid) phase before-machine before-due)
        issues-it.2 before-machine

    pub issued-access : IsAccess b.access
    issued-access = (law.issue_access taken.mid b (ap (λ (r : M × Option Bus). r.1) issues-it.2)).1

    pub issued-free : (q : PortEnd) → slice_get h.ports b.port ≡ Some q → q.session.own_other ≡ None
    issued-free q at = (ports-in k (now taken.mid) Run phase before-machine b.port q at).other

    pub issued-advances : (room : ℕ) (old core : Core M) (before out : List ℕ) (t : Turn)
        → record { end = h; room = room } ≡ old
        → Does (at_port (slice_get h.ports b.port)
        (accesses k (sending k (now taken.mid) new b.port b.access) new b.port b.access b.access.posted))
        (record { end = sending k (now taken.mid) new b.port b.access; room = room }) core before out t
        → Advances k (most - left) old core before out (Ok t)
    issued-advances room old core before out t view does =
        let mid : Core M = record { end = now taken.mid; room = room } in
        subst (λ (x : Core M). Advances k (most - left) x core before out (Ok t)) view (record {
          mid = mid;
          worked = subst (λ n. HasWorked k n h (now taken.mid)) (units-are taken.units taken.count)
              (now-worked taken.units taken.mid taken.count taken.local);
          acts = subst (λ (a : Act M Cause). Does a mid core before out t)
              (sym (acts-with k (now taken.mid) new (Some b) clear phase before-due issues-it.2))
              (does-access k (now taken.mid) new b.port b.access mid _ core before out t b.access.posted
              (slice_get h.ports b.port) does);
        })
