-- Units of a machine end: local ones, and accesses.
use Rattle.std.proofs.Common.{◌≡◌, inl, inr, ℕ, ◌+◌, ◌<◌, ◌≤◌, Bool, true, false, List, ◌++◌, length, set, refl, sym, ap, ◌∙◌, subst, arith}
use Rattle.std.specs.Prelude.{not, ◌&&◌, ◌||◌, nat_eq, Option, Some, None, is_some, slice_get}
use Rattle.std.proofs.lemmas.Bool.Decides.{nat_tests}
use Rattle.std.proofs.lemmas.List.{length-set}
use Rattle.cosim_model.specs.declared.session.OwnRequest.{OwnRequest}
use Rattle.cosim_model.specs.declared.values.Access.{Access}
use Rattle.cosim_model.specs.declared.values.Answer.{Answer}
use Rattle.cosim_model.specs.declared.values.Bus.{Bus}
use Rattle.cosim_model.specs.declared.values.Call.{Call}
use Rattle.cosim_model.specs.Packets.{BusFields}
use Rattle.cosim_model.specs.Parts.{MasterModel, IsMaster, IsAccess, IsSize}
use Rattle.cosim_model.specs.Sessions.{request_of}
use Rattle.cosim_model.specs.Values.{plain}
use Rattle.ends_model.specs.declared.ends.Phase.TheVariants.{Run, AnswerFrom}
use Rattle.ends_model.specs.declared.ends.Turn.TheVariants as turn
use Rattle.ends_model.specs.MachineTurn.{PortEnd, MachineEnd, access_body, access_fields, accesses, at_port, bus_body, finished, is_due, is_last, requested, with_wait}
use Rattle.rp_packet.specs.declared.fault.Cause.{Cause}
use Rattle.rp_packet.specs.Spelling.{packet_bytes}
use Rattle.machine_core.specs.Machines.{Core, Does, IsMachine, ArePortsIn}
use Rattle.machine_core.proofs.Frames.{does-seen, same-phase, put-there, set-set, wait-ports, in-phase, ports-in, with-ports}

pub few-bytes : (n : ℕ) → IsSize n → n ≤ 8
few-bytes n (inl e) = omega (arith, e)
few-bytes n (inr (inl e)) = omega (arith, e)
few-bytes n (inr (inr (inl e))) = omega (arith, e)
few-bytes n (inr (inr (inr e))) = omega (arith, e)

pub free-of : (o : Option OwnRequest) → ((x : OwnRequest) → o ≡ Some x → ⊥) → o ≡ None
free-of None never = refl
free-of (Some x) never = absurd (never x refl)

-- A unit that is to be done is not the last boundary.

not-last : (marked last quantum : Bool) → (marked ≡ true → last ≡ false) → not marked && (last || quantum) ≡ false → last ≡ false
not-last true last quantum run due = run refl
not-last false true quantum run due = absurd (cc (due))
not-last false false quantum run due = refl

more-units : (tick units : ℕ) (stopped : Bool) → tick ≤ units → stopped || nat_eq tick units ≡ false → tick < units
more-units tick units true most last = absurd (cc (last))
more-units tick units false most last = grind (arith, nat_tests)

module _ {M : Type 0} (k : MasterModel M) where
  pub on-by : (h : MachineEnd M Cause) → h.phase ≡ Run → IsMachine k h → is_due k h ≡ false → is_last k h ≡ false
  on-by h phase machine due = not-last h.marked (is_last k h) _ (in-phase k h Run phase machine).1 due

  -- An access ends.
  pub finish-machine : IsMaster k → (h : MachineEnd M Cause) (p : ℕ) (a : Access) (m : M) (x : Answer) (cs : List Call)
      → h.phase ≡ AnswerFrom p a → ((q : PortEnd) → slice_get h.ports p ≡ Some q → q.session.own_other ≡ None)
      → m ≡ k.finish h.master x → IsMachine k h
      → IsMachine k (record h { phase = Run; master = m; calls = cs; tick = h.tick + 1; marked = false })
  finish-machine law h p a m x cs phase free is machine =
      let was = in-phase k h (AnswerFrom p a) phase machine in
      let units = was.2 in
      let had = machine.reach in
      let falls = law.finish_reach h.master x in
      let reach : k.reach m ≤ length h.ports = subst (λ y. k.reach y ≤ length h.ports) (sym is) (omega (arith, had, falls)) in
      record {
        quantum = machine.quantum;
        ticks = omega (arith, units);
        reach = reach;
        few = machine.few;
        ports = λ i q at.
            (let one = ports-in k h (AnswerFrom p a) phase machine i q at in record {
              greeted = one.greeted;
              other = free-of q.session.own_other (λ o out.
                  let here = (one.other o out).0 in
                  let none = free q (ap (λ n. slice_get h.ports n) (sym here) ∙ at) in
                  absurd (cc (out, none)));
              sync = one.sync;
            });
        phase = (ap k.issued is ∙ law.finish_issued h.master x, λ marked. absurd (cc (marked)));
      }

  -- An access that the master issued is to be sent.
  pub issue-machine : IsMaster k → (h : MachineEnd M Cause) (m : M) (b : Bus) → h.phase ≡ Run → is_last k h ≡ false
      → k.issue h.master ≡ (m, Some b) → IsMachine k h
      → IsMachine k (record h { phase = AnswerFrom b.port b.access; master = m })
  issue-machine law h m b phase on is machine =
      let was = in-phase k h Run phase machine in
      let ports = ports-in k h Run phase machine in
      let issued = law.issue_access h.master b (ap (λ r. r.1) is) in
      let near = issued.0 in
      let now : (k.issue h.master).0 ≡ m = ap (λ r. r.0) is in
      let had = machine.reach in
      let falls = law.issue_reach h.master in
      let reach : k.reach m ≤ length h.ports = subst (λ y. k.reach y ≤ length h.ports) now (omega (arith, had, falls)) in
      record {
        quantum = machine.quantum;
        ticks = machine.ticks;
        reach = reach;
        few = machine.few;
        ports = λ i q at. record {
          greeted = (ports i q at).greeted;
          other = λ o out. absurd (cc (out, (ports i q at).other));
          sync = (ports i q at).sync;
        };
        phase = (
          omega (arith, had, near),
          ap k.issued (sym now) ∙ issued.2,
          more-units h.tick h.plan.units (is_some (k.stopped h.master)) machine.ticks on,
          few-bytes b.access.size issued.1.size,
        );
      }

-- What a request leaves of a port.
record Asked (q r : PortEnd) (len : ℕ) : Type 0 where
  greeted : r.session.hello_went ≡ q.session.hello_went
  sync : r.session.own_sync ≡ q.session.own_sync
  held : r.held ≡ q.held
  other : (o : OwnRequest) → r.session.own_other ≡ Some o → o.len ≡ len

asked-facts : (q : PortEnd) (write posted : Bool) (f : BusFields) (len tick : ℕ) → q.session.own_other ≡ None
    → Asked q (requested q posted (bus_body write f) len tick) len
asked-facts q true true f len tick free =
    record { greeted = refl; sync = refl; held = refl; other = λ o out. absurd (cc (free, out)) }
asked-facts q true false f len tick free =
    record { greeted = refl; sync = refl; held = refl; other = λ o out. ap len-of (sym out) }
  where
    len-of : Option OwnRequest → ℕ
    len-of None = 0
    len-of (Some o) = o.len
asked-facts q false posted f len tick free =
    record { greeted = refl; sync = refl; held = refl; other = λ o out. ap len-of (sym out) }
  where
    len-of : Option OwnRequest → ℕ
    len-of None = 0
    len-of (Some o) = o.len

posted-free : (q : PortEnd) (write posted : Bool) (f : BusFields) (len tick : ℕ) → write ≡ true → posted ≡ true
    → (requested q posted (bus_body write f) len tick).session.own_other ≡ q.session.own_other
posted-free q true true f len tick is is2 = refl
posted-free q true false f len tick is is2 = absurd (cc (is2))
posted-free q false posted f len tick is is2 = absurd (cc (is))

module _ {M : Type 0} (k : MasterModel M) (h : MachineEnd M Cause) (p : ℕ) (a : Access) (q r : PortEnd)
    (phase : h.phase ≡ AnswerFrom p a) (at : slice_get h.ports p ≡ Some q) (free : q.session.own_other ≡ None)
    (is : r ≡ requested q a.posted (access_body q.session.common h.tick a) a.size h.tick) (machine : IsMachine k h) where
  asked : Asked q r a.size
  asked =
      subst (λ x. Asked q x a.size) (sym is)
      (asked-facts q a.write a.posted (access_fields q.session.common h.tick a) a.size h.tick free)

  asked-ports : ArePortsIn (AnswerFrom p a) (set h.ports p r)
  asked-ports =
      let one = ports-in k h (AnswerFrom p a) phase machine p q at in
      let now = asked in
      same-phase (AnswerFrom p a) h.ports p r (ports-in k h (AnswerFrom p a) phase machine) (record {
        greeted = now.greeted ∙ one.greeted;
        other = λ o out. (refl, now.other o out);
        sync = ap (λ s. is_some s) now.sync ∙ one.sync;
      })

  pub asked-machine : (qs : List PortEnd) → length qs ≡ length h.ports → ArePortsIn (AnswerFrom p a) qs
      → IsMachine k (record h { ports = qs })
  asked-machine qs size ports =
      let was = in-phase k h (AnswerFrom p a) phase machine in
      let within = was.0 in
      subst (λ x. IsMachine k (record h { phase = x; ports = qs })) (sym phase)
      (with-ports k h (AnswerFrom p a) qs machine size ports (omega (arith, size, within), was.1, was.2, was.3))

  pub send-machine : IsMachine k (record h { ports = set h.ports p r })
  send-machine = asked-machine (set h.ports p r) (length-set h.ports p r) asked-ports

  pub await-machine : (x w : PortEnd) → slice_get (set h.ports p r) p ≡ Some x → w ≡ with_wait x
      → IsMachine k (record h { ports = set (set h.ports p r) p w })
  await-machine x w here waits =
      asked-machine (set (set h.ports p r) p w) (length-set (set h.ports p r) p w ∙ length-set h.ports p r)
      (wait-ports (AnswerFrom p a) (set h.ports p r) p x w here waits asked-ports)

  pub posted-none : IsAccess a → a.posted ≡ true → (x : PortEnd) → slice_get (set h.ports p r) p ≡ Some x
      → x.session.own_other ≡ None
  posted-none access posted x here =
      ap (λ y. y.session.own_other) (put-there h.ports p r x here ∙ is)
      ∙ posted-free q a.write a.posted (access_fields q.session.common h.tick a) a.size h.tick (access.posted posted) posted
      ∙ free

  -- what was done

  module _ (m : ℕ) (old : Core M) (view : record { end = h; room = m } ≡ old) (n : ℕ) (before after : List ℕ)
      (bytes : after ≡ before ++ packet_bytes (request_of q.session a.posted (access_body q.session.common h.tick a))) where
    abbrev Asks : MachineEnd M Cause → Type 0
    Asks e =
        Does (at_port (slice_get old.end.ports p) (accesses k old.end old.end.master p a a.posted)) old
        (record { end = e; room = n }) before after (turn.Sent p)

    asks-by : (e : MachineEnd M Cause) (posted : Bool) → a.posted ≡ posted
        → Does (accesses k h h.master p a posted q) (record { end = h; room = m }) (record { end = e; room = n }) before after (turn.Sent p)
        → Asks e
    asks-by e posted test does =
        does-seen (λ x. at_port (slice_get x.ports p) (accesses k x x.master p a a.posted)) h m old _ before after (turn.Sent p) view
        (subst (λ o. Does (at_port o (accesses k h h.master p a a.posted)) (record { end = h; room = m })
        (record { end = e; room = n }) before after (turn.Sent p)) (sym at)
        (subst (λ b. Does (accesses k h h.master p a b q) (record { end = h; room = m })
        (record { end = e; room = n }) before after (turn.Sent p)) (sym test) does))

    request-as : (posted : Bool) → a.posted ≡ posted
        → after ≡ before ++ packet_bytes (request_of q.session posted (access_body q.session.common h.tick a))
    request-as posted test =
        subst (λ b. after ≡ before ++ packet_bytes (request_of q.session b (access_body q.session.common h.tick a))) test bytes

    port-as : (posted : Bool) → a.posted ≡ posted
        → r ≡ requested q posted (access_body q.session.common h.tick a) a.size h.tick
    port-as posted test =
        subst (λ b. r ≡ requested q b (access_body q.session.common h.tick a) a.size h.tick) test is

    pub sends-posted : (x : Answer) → a.posted ≡ true → x ≡ plain a (record { code = 0; value = 0 }) → (e : MachineEnd M Cause)
        → e ≡ finished k (record h { ports = set h.ports p r }) p a x → Asks e
    sends-posted x test answer e end =
        asks-by e true test
        (refl, end ∙ (λ i. finished k (record h { ports = set h.ports p (port-as true test i) }) p a (answer i)), request-as true test)

    pub sends-awaited : (x w : PortEnd) → a.posted ≡ false → slice_get (set h.ports p r) p ≡ Some x → w ≡ with_wait x
        → Asks (record h { ports = set (set h.ports p r) p w })
    sends-awaited x w test here waits =
        asks-by _ false test (
          refl,
          (λ i. record h { phase = phase i; ports = set (set h.ports p r) p (waits i) })
              ∙ ap (λ qs. record h { phase = AnswerFrom p a; ports = qs }) (set-set h.ports p r (with_wait x))
              ∙ ap (λ y. record h { phase = AnswerFrom p a; ports = set h.ports p (with_wait y) })
              (put-there h.ports p r x here ∙ port-as false test),
          request-as false test,
        )
