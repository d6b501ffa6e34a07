-- What a machine end does in a boundary.
use Rattle.std.proofs.Common.{◌≡◌, ℕ, zero, suc, ◌≤◌, Bool, true, false, List, [], ◌∷◌, ◌++◌, length, map, set, refl, sym, ap, ◌∙◌, subst, arith}
use Rattle.std.specs.Prelude.{not, ◌&&◌, nat_eq, nat_le, if◌then◌else◌, Option, Some, None, is_some, is_none, option_map, slice_get}
use Rattle.std.proofs.lemmas.List.{append-nil, length-set}
use Rattle.std.proofs.lemmas.Option.{slice_get_within}
use Rattle.cosim_model.specs.Order.{least, later, lower}
use Rattle.cosim_model.specs.declared.session.OwnRequest.{OwnRequest}
use Rattle.cosim_model.specs.declared.values.Call.{Call}
use Rattle.cosim_model.specs.Packets.{Packet, Body, BusFields, enabled}
use Rattle.cosim_model.specs.Packets.Body.{Nop, Hello, Cfg, Read, Write, Interrupt, Sync}
use Rattle.cosim_model.specs.Parts.{MasterModel, IsMaster, lined}
use Rattle.cosim_model.specs.Sessions.{Session, is_posted}
use Rattle.cosim_model.specs.Values.{all_on}
use Rattle.ends_model.specs.declared.ends.Phase.TheVariants.{Gather}
use Rattle.ends_model.specs.MachineTurn.{PortEnd, MachineEnd, at_port, first_true, or_first, held_time, is_clear, is_master_size, is_unknown, serve_body, serve_read, serve_write, serves as serves_as, serves_held, time_of}
use Rattle.ends_model.specs.declared.ends.Turn.{Turn}
use Rattle.ends_model.specs.declared.ends.Turn.TheVariants as turn
use Rattle.rp_packet.specs.declared.fault.Cause.{Cause}
use Rattle.machine_core.specs.Machines.{Core, Does, IsIn, IsMachine, IsPortIn, ArePortsIn}
use Rattle.machine_core.specs.Services.{Serves, sent_for, session_after}
use Rattle.machine_core.proofs.Frames.{does-seen, in-phase, ports-in, same-phase, set-there, unclear}
use Rattle.machine_core.proofs.Syncing.{open-port}

-- The first of which a test holds is there.

pub first-there : {A : Type 0} (f : A → Bool) (xs : List A) (n : ℕ) → first_true (map f xs) ≡ Some n
    → (x : A) × (slice_get xs n ≡ Some x) × (f x ≡ true)
first-there f [] n e = absurd (cc)
first-there {A} f (x ∷ xs) n e = by (f x) (first_true (map f xs)) refl (first-there f xs) e
  where
    by : (b : Bool) (o : Option ℕ) → f x ≡ b → ((m : ℕ) → o ≡ Some m → (y : A) × (slice_get xs m ≡ Some y) × (f y ≡ true))
        → or_first b o ≡ Some n → (y : A) × (slice_get (x ∷ xs) n ≡ Some y) × (f y ≡ true)
    by true o test more h =
        let same : 0 ≡ n = cc in
        (x, ap (λ k. slice_get (x ∷ xs) k) (sym same), test)
    by false None test more h = absurd (cc (h))
    by false (Some m) test more h =
        let same : suc m ≡ n = cc in
        let rest = more m refl in
        (rest.0, ap (λ k. slice_get (x ∷ xs) k) (sym same) ∙ rest.1, rest.2)

-- Where it holds of none, it holds of no one.

pub first-never : {A : Type 0} (f : A → Bool) (xs : List A) (i : ℕ) (x : A) → first_true (map f xs) ≡ None
    → slice_get xs i ≡ Some x → f x ≡ false
first-never f [] i x none e = absurd (cc)
first-never f (y ∷ xs) i x none e = by (f y) (first_true (map f xs)) refl refl none (λ j. first-never f xs j x) i e
  where
    by : (b : Bool) (o : Option ℕ) → f y ≡ b → first_true (map f xs) ≡ o → or_first b o ≡ None
        → ((j : ℕ) → first_true (map f xs) ≡ None → slice_get xs j ≡ Some x → f x ≡ false) → (i : ℕ)
        → slice_get (y ∷ xs) i ≡ Some x → f x ≡ false
    by true o test rest h more i e = absurd (cc (h))
    by false (Some m) test rest h more i e = absurd (cc (h))
    by false None test rest h more zero e = (let same : y ≡ x = cc in ap f (sym same) ∙ test)
    by false None test rest h more (suc i) e = more i rest e

-- The least time that is found is that of a held request.

least-there : (os : List (Option ℕ)) (r : ℕ × ℕ) → least os ≡ Some r → slice_get os r.0 ≡ Some (Some r.1)
least-there [] r e = absurd (cc)
least-there (None ∷ os) r e = by (least os) (least-there os) e
  where
    by : (o : Option (ℕ × ℕ)) → ((q : ℕ × ℕ) → o ≡ Some q → slice_get os q.0 ≡ Some (Some q.1)) → later o ≡ Some r
        → slice_get (None ∷ os) r.0 ≡ Some (Some r.1)
    by None more f = absurd (cc)
    by (Some q) more f =
        let same : (suc q.0, q.1) ≡ r = cc in
        subst (λ (x : ℕ × ℕ). slice_get (None ∷ os) x.0 ≡ Some (Some x.1)) same (more q refl)
least-there (Some t ∷ os) r e = by (least os) (least-there os) e
  where
    here : Some (0, t) ≡ Some r → slice_get (Some t ∷ os) r.0 ≡ Some (Some r.1)
    here f =
        let same : (0, t) ≡ r = cc in subst (λ (x : ℕ × ℕ). slice_get (Some t ∷ os) x.0 ≡ Some (Some x.1)) same refl

    by : (o : Option (ℕ × ℕ)) → ((q : ℕ × ℕ) → o ≡ Some q → slice_get os q.0 ≡ Some (Some q.1)) → lower t o ≡ Some r
        → slice_get (Some t ∷ os) r.0 ≡ Some (Some r.1)
    by None more f = here f
    by (Some q) more f = test (nat_le t q.1) f
      where
        test : (b : Bool) → (if b then Some (0, t) else Some (suc q.0, q.1)) ≡ Some r
            → slice_get (Some t ∷ os) r.0 ≡ Some (Some r.1)
        test true g = here g
        test false g =
            let same : (suc q.0, q.1) ≡ r = cc in
            subst (λ (x : ℕ × ℕ). slice_get (Some t ∷ os) x.0 ≡ Some (Some x.1)) same (more q refl)

held-there : (qs : List PortEnd) (p t : ℕ) → slice_get (map held_time qs) p ≡ Some (Some t)
    → (q : PortEnd) × (slice_get qs p ≡ Some q) × (is_some q.held ≡ true)
held-there [] p t e = absurd (cc)
held-there (q ∷ qs) zero t e = (q, refl, by q.held (cc))
  where
    by : (o : Option Packet) → option_map (λ (m : Packet). time_of m.body) o ≡ Some t → is_some o ≡ true
    by None f = absurd (cc (f))
    by (Some m) f = refl
held-there (q ∷ qs) (suc p) t e = held-there qs p t e

-- the held request that comes first
pub first-held : (qs : List PortEnd) (p : ℕ) → Some p ≡ option_map (λ r. r.0) (least (map held_time qs))
    → (t : ℕ) × (least (map held_time qs) ≡ Some (p, t)) × ((q : PortEnd) × (slice_get qs p ≡ Some q) × (is_some q.held ≡ true))
first-held qs p e = by (least (map held_time qs)) refl e
  where
    by : (o : Option (ℕ × ℕ)) → least (map held_time qs) ≡ o → Some p ≡ option_map (λ r. r.0) o
        → (t : ℕ) × (least (map held_time qs) ≡ Some (p, t)) × ((q : PortEnd) × (slice_get qs p ≡ Some q) × (is_some q.held ≡ true))
    by None found f = absurd (cc (f))
    by (Some r) found f =
        let same : r.0 ≡ p = cc in
        let here = least-there (map held_time qs) r found in (
          r.1,
          found ∙ ap (λ n. Some (n, r.1)) same,
          held-there qs p r.1 (ap (λ n. slice_get (map held_time qs) n) (sym same) ∙ here),
        )

-- Where all ports are known and nothing is held, all are clear.

none-least : (os : List (Option ℕ)) → least os ≡ None → (i : ℕ) (o : Option ℕ) → slice_get os i ≡ Some o → o ≡ None
none-least [] none i o e = absurd (cc)
none-least (Some t ∷ os) none i o e = absurd (by (least os) none)
  where
    by : (r : Option (ℕ × ℕ)) → lower t r ≡ None → ⊥
    by None f = absurd (cc (f))
    by (Some q) f = test (nat_le t q.1) f
      where
        test : (b : Bool) → if◌then◌else◌ {A = Option (ℕ × ℕ)} b (Some (0, t)) (Some (suc q.0, q.1)) ≡ None → ⊥
        test true g = absurd (cc (g))
        test false g = absurd (cc (g))
none-least (None ∷ os) none i o e = by (least os) refl none (λ f j. none-least os f j o) i e
  where
    by : (r : Option (ℕ × ℕ)) → least os ≡ r → later r ≡ None
        → (least os ≡ None → (j : ℕ) → slice_get os j ≡ Some o → o ≡ None) → (i : ℕ) → slice_get (None ∷ os) i ≡ Some o
        → o ≡ None
    by (Some q) found f more i e = absurd (cc (f))
    by None found f more zero e = cc
    by None found f more (suc i) e = more found i e

clear-by : (held : Option Packet) (own : Option OwnRequest) → is_none held && is_some own ≡ false
    → option_map (λ (m : Packet). time_of m.body) held ≡ None → is_none held && is_none own ≡ true
clear-by None None known none = refl
clear-by None (Some o) known none = absurd (cc (known))
clear-by (Some m) own known none = absurd (cc (none))

all-by : (qs : List PortEnd) → ((i : ℕ) (q : PortEnd) → slice_get qs i ≡ Some q → is_clear q ≡ true)
    → all_on (map is_clear qs) ≡ true
all-by [] each = refl
all-by (q ∷ qs) each =
    ap (λ b. b && all_on (map is_clear qs)) (each 0 q refl) ∙ all-by qs (λ i x at. each (suc i) x at)

time-there : (qs : List PortEnd) (i : ℕ) (q : PortEnd) → slice_get qs i ≡ Some q
    → slice_get (map held_time qs) i ≡ Some (held_time q)
time-there [] i q e = absurd (cc)
time-there (x ∷ qs) zero q e = (let same : x ≡ q = cc in ap (λ y. Some (held_time y)) same)
time-there (x ∷ qs) (suc i) q e = time-there qs i q e

all-clear : (qs : List PortEnd) → first_true (map is_unknown qs) ≡ None → least (map held_time qs) ≡ None
    → all_on (map is_clear qs) ≡ true
all-clear qs known none =
    all-by qs (λ i q at.
    clear-by q.held q.session.own_sync (first-never is_unknown qs i q known at)
    (none-least (map held_time qs) none i (held_time q) (time-there qs i q at)))

no-least : (o : Option (ℕ × ℕ)) → None ≡ option_map (λ r. r.0) o → o ≡ None
no-least None e = refl
no-least (Some r) e = absurd (cc (e))

pub never-idle : {M : Type 0} (k : MasterModel M) (h : MachineEnd M Cause) → h.phase ≡ Gather
    → first_true (map is_unknown h.ports) ≡ None → None ≡ option_map (λ r. r.0) (least (map held_time h.ports))
    → IsMachine k h → ⊥
never-idle k h phase known none machine =
    let clear = all-clear h.ports known (no-least (least (map held_time h.ports)) none) in
    let not_clear = (in-phase k h Gather phase machine).0 in
    absurd (cc (clear, not_clear))

-- The service of a held request.

line-keeps : {M : Type 0} (k : MasterModel M) → IsMaster k → (m : M) (number : ℕ) (level is : Bool)
    → (k.issued (lined k m number level is) ≡ k.issued m) × (k.reach (lined k m number level is) ≤ k.reach m)
line-keeps k law m number level true =
    let keeps = law.line_keeps m number level in (keeps.1, keeps.2)
line-keeps k law m number level false = (refl, omega arith)

read-keeps : {M : Type 0} (k : MasterModel M) (m : M) (tick port : ℕ) (f : BusFields) (size : Bool)
    → (serve_read k m tick port f size).master ≡ m
read-keeps k m tick port f true = refl
read-keeps k m tick port f false = refl

write-keeps : {M : Type 0} (k : MasterModel M) → IsMaster k → (m : M) (tick port : ℕ) (f : BusFields) (size : Bool)
    → (k.issued (serve_write k m tick port f size).master ≡ k.issued m)
    × (k.reach (serve_write k m tick port f size).master ≤ k.reach m)
write-keeps k law m tick port f true =
    let keeps = law.write_keeps m f.addr f.payload (enabled f) in (keeps.1, keeps.2)
write-keeps k law m tick port f false = (refl, omega arith)

body-keeps : {M : Type 0} (k : MasterModel M) → IsMaster k → (m : M) (tick port : ℕ) (b : Body)
    → (k.issued (serve_body k m tick port b).master ≡ k.issued m)
    × (k.reach (serve_body k m tick port b).master ≤ k.reach m)
body-keeps k law m tick port (Read f) =
    let same = read-keeps k m tick port f (is_master_size f) in
    let falls = ap k.reach same in (ap k.issued same, omega (arith, falls))
body-keeps k law m tick port (Write f) = write-keeps k law m tick port f (is_master_size f)
body-keeps k law m tick port (Interrupt time vector line val) =
    line-keeps k law m line (not (nat_eq val 0)) (nat_le line 31)
body-keeps k law m tick port Nop = (refl, omega arith)
body-keeps k law m tick port (Hello major minor caps) = (refl, omega arith)
body-keeps k law m tick port (Cfg opt set) = (refl, omega arith)
body-keeps k law m tick port (Sync time) = (refl, omega arith)

pub some-of : {A : Type 0} (o : Option A) → is_some o ≡ true → (x : A) × (o ≡ Some x)
some-of None is = absurd (cc (is))
some-of (Some x) is = (x, refl)

pub held-same : (qs : List PortEnd) (p : ℕ) (q x : PortEnd) → slice_get qs p ≡ Some q → slice_get qs p ≡ Some x
    → is_some q.held ≡ true → is_some x.held ≡ true
held-same qs p q x one other held =
    let both : Some q ≡ Some x = sym one ∙ other in
    let same : q ≡ x = cc in
    ap (λ y. is_some y.held) (sym same) ∙ held

served-port : (p : ℕ) (q : PortEnd) (answered : Bool) → IsPortIn Gather p q
    → IsPortIn Gather p (record q { held = None; session = session_after q.session answered })
served-port p q true one =
    record { greeted = one.greeted; other = one.other; sync = λ held. absurd (cc (held)) }
served-port p q false one =
    record { greeted = one.greeted; other = one.other; sync = λ held. absurd (cc (held)) }

after-sync : (s : Session) (answered : Bool) → (session_after s answered).own_sync ≡ s.own_sync
after-sync s true = refl
after-sync s false = refl

module _ {M : Type 0} (k : MasterModel M) (h : MachineEnd M Cause) (p : ℕ) (q r : PortEnd) (m : Packet) (new : M)
    (cs : List Call) (before after : List ℕ) (answered : Bool) (at : slice_get h.ports p ≡ Some q)
    (held : q.held ≡ Some m)
    (serves : Serves k h.tick p q m h.master h.calls before r new cs after answered) where
  pub serve-machine : IsMaster k → h.phase ≡ Gather → IsMachine k h
      → IsMachine k (record h { master = new; ports = set h.ports p r; calls = cs })
  serve-machine law phase machine =
      let ports = ports-in k h Gather phase machine in
      let was = in-phase k h Gather phase machine in
      let within = slice_get_within h.ports p q at in
      let size = length-set h.ports p r in
      let one = ports p q at in
      let synced = one.sync (ap (λ o. is_some o) held) in
      let own = some-of q.session.own_sync synced in
      let open_sync : r.session.own_sync ≡ Some own.0 =
      ap (λ x. x.session.own_sync) serves.end ∙ after-sync q.session answered ∙ own.1 in
      let keeps = body-keeps k law h.master h.tick p m.body in
      let falls = keeps.1 in
      let had = machine.reach in
      let few = machine.few in
      let reach : k.reach new ≤ length h.ports =
      subst (λ y. k.reach y ≤ length h.ports) (sym serves.does) (omega (arith, falls, had)) in
      let served : IsPortIn Gather p r =
      subst (λ x. IsPortIn Gather p x) (sym serves.end) (served-port p q answered one) in
      record {
        quantum = machine.quantum;
        ticks = machine.ticks;
        reach = omega (arith, reach, size);
        few = omega (arith, few, size);
        ports = subst (λ x. ArePortsIn x (set h.ports p r)) (sym phase) (same-phase Gather h.ports p r ports served);
        phase = subst (λ x. IsIn k (record h { master = new; ports = set h.ports p r; calls = cs }) x) (sym phase) (
          unclear (set h.ports p r) p r (set-there h.ports p r within) (open-port r own.0 open_sync),
          ap k.issued serves.does ∙ keeps.0 ∙ was.1,
        );
      }

  served-by : (posted : Bool) → is_posted q.session.common m ≡ posted → (room more : ℕ) (t : Turn)
      → t ≡ (if answered then turn.Sent p else turn.Served p)
      → Does (serves_held k h p q (Some m)) (record { end = h; room = room })
      (record { end = record h { master = new; ports = set h.ports p r; calls = cs }; room = more }) before after t
  served-by true test room more t is =
      let no : answered ≡ false = serves.kind ∙ ap not test in
      let port = serves.end ∙ ap (λ a. record q { held = None; session = session_after q.session a }) no in
      subst (λ b. Does (serves_as k h p q m b) (record { end = h; room = room })
      (record { end = record h { master = new; ports = set h.ports p r; calls = cs }; room = more }) before after t) (sym test) (
        is ∙ ap (λ a. if a then turn.Sent p else turn.Served p) no,
        (λ i. record h { master = serves.does i; ports = set h.ports p (port i); calls = serves.keeps i }),
        serves.sends ∙ ap (λ a. before ++ sent_for m (serve_body k h.master h.tick p m.body).answer a) no ∙ append-nil before,
      )
  served-by false test room more t is =
      let yes_ : answered ≡ true = serves.kind ∙ ap not test in
      let port = serves.end ∙ ap (λ a. record q { held = None; session = session_after q.session a }) yes_ in
      subst (λ b. Does (serves_as k h p q m b) (record { end = h; room = room })
      (record { end = record h { master = new; ports = set h.ports p r; calls = cs }; room = more }) before after t) (sym test) (
        is ∙ ap (λ a. if a then turn.Sent p else turn.Served p) yes_,
        (λ i. record h { master = serves.does i; ports = set h.ports p (port i); calls = serves.keeps i }),
        serves.sends ∙ ap (λ a. before ++ sent_for m (serve_body k h.master h.tick p m.body).answer a) yes_,
      )

  pub serve-does : (room more : ℕ) (old : Core M) → record { end = h; room = room } ≡ old → (t : Turn)
      → t ≡ (if answered then turn.Sent p else turn.Served p)
      → Does (at_port (slice_get old.end.ports p) (λ x. serves_held k old.end p x x.held)) old
      (record { end = record h { master = new; ports = set h.ports p r; calls = cs }; room = more }) before after t
  serve-does room more old view t is =
      does-seen (λ e. at_port (slice_get e.ports p) (λ x. serves_held k e p x x.held)) h room old _ before after t view
      (subst (λ o. Does (at_port o (λ x. serves_held k h p x x.held)) (record { end = h; room = room })
      (record { end = record h { master = new; ports = set h.ports p r; calls = cs }; room = more }) before after t) (sym at)
      (subst (λ o. Does (serves_held k h p q o) (record { end = h; room = room })
      (record { end = record h { master = new; ports = set h.ports p r; calls = cs }; room = more }) before after t) (sym held)
      (served-by (is_posted q.session.common m) refl room more t is)))
