-- The syncs of a boundary.
use Rattle.std.proofs.Common.{◌≡◌, ℕ, zero, suc, ◌+◌, ◌<◌, ◌≤◌, Bool, true, false, List, [], ◌∷◌, ◌++◌, length, map, set, refl, sym, ap, ◌∙◌, subst, arith, add-one}
use Rattle.std.specs.Prelude.{◌&&◌, nat_lt, Option, Some, None, is_some, is_none, slice_get}
use Rattle.std.specs.Bool.{◌==◌}
use Rattle.std.proofs.lemmas.Bool.Decides.{nat_tests}
use Rattle.std.proofs.lemmas.List.{length-set, length-map}
use Rattle.cosim_model.specs.declared.session.OwnRequest.{OwnRequest}
use Rattle.cosim_model.specs.Packets.Body.{Sync}
use Rattle.cosim_model.specs.Parts.{MasterModel}
use Rattle.cosim_model.specs.Sessions.{request_of}
use Rattle.cosim_model.specs.Values.{all_on}
use Rattle.ends_model.specs.declared.ends.Phase.{Phase}
use Rattle.ends_model.specs.declared.ends.Phase.TheVariants.{Run, SyncTo, Gather}
use Rattle.ends_model.specs.declared.ends.Turn.TheVariants as turn
use Rattle.ends_model.specs.MachineTurn.{PortEnd, MachineEnd, at_port, requested, syncs, after_sync, put_port, with_wait, is_clear}
use Rattle.rp_packet.specs.declared.fault.Cause.{Cause}
use Rattle.rp_packet.specs.Spelling.{packet_bytes}
use Rattle.machine_core.specs.Machines.{Core, Does, IsMachine, IsPortIn, ArePortsIn}
use Rattle.machine_core.proofs.Frames.{does-seen, put-ports, set-there, wait-port, unclear, in-phase, ports-in, with-ports}
use Rattle.machine_core.proofs.Greeting.{lower-more, lower-here, lower-last, not-lower, test-more, test-last}

pub not-none : (n : ℕ) → false ≡ (n == 0) → 0 < n
not-none zero is = absurd (cc (is))
not-none (suc n) is = omega arith

pub none-of : {A : Type 0} (o : Option A) → is_some o ≡ false → o ≡ None
none-of None is = refl
none-of (Some x) is = absurd (cc)

-- a list of which every element is changed

pub map-at : {A : Type 0} (f : A → A) (xs : List A) (i : ℕ) (y : A) → slice_get (map f xs) i ≡ Some y
    → (x : A) × (slice_get xs i ≡ Some x) × (y ≡ f x)
map-at f [] i y e = absurd (cc)
map-at f (x ∷ xs) zero y e = (x, refl, cc)
map-at f (x ∷ xs) (suc i) y e = map-at f xs i y e

pub map-there : {A : Type 0} (f : A → A) (xs : List A) (i : ℕ) (x : A) → slice_get xs i ≡ Some x
    → slice_get (map f xs) i ≡ Some (f x)
map-there f [] i x e = absurd (cc)
map-there f (y ∷ xs) zero x e = let same : y ≡ x = cc in ap (λ z. Some (f z)) same
map-there f (y ∷ xs) (suc i) x e = map-there f xs i x e

wait-all : (now : Phase) (qs : List PortEnd) → ArePortsIn now qs → ArePortsIn now (map with_wait qs)
wait-all now qs ports i q at =
    let was = map-at with_wait qs i q at in wait-port now i was.0 q was.2 (ports i was.0 was.1)

pub open-port : (q : PortEnd) (o : OwnRequest) → q.session.own_sync ≡ Some o → is_clear q ≡ false
open-port q o is = ap (λ s. is_none q.held && is_none s) is ∙ never (is_none q.held)
  where
    never : (b : Bool) → b && false ≡ false
    never true = refl
    never false = refl

sync-port : (next : Phase) (p : ℕ) (r x : PortEnd) → r ≡ x → IsPortIn next p x → IsPortIn next p r
sync-port next p r x is one = subst (λ y. IsPortIn next p y) (sym is) one

pub none-lower : (i : ℕ) → false ≡ nat_lt i 0
none-lower i = grind (arith, nat_tests)

-- A boundary that begins.
pub begin-syncs : {M : Type 0} (k : MasterModel M) (h : MachineEnd M Cause) → h.phase ≡ Run → 0 < length h.ports
    → IsMachine k h → IsMachine k (record h { phase = SyncTo 0 })
begin-syncs k h phase some machine =
    let was = in-phase k h Run phase machine in
    let ports = ports-in k h Run phase machine in
    with-ports k h (SyncTo 0) h.ports machine refl
    (λ i q at. record {
      greeted = (ports i q at).greeted;
      other = (ports i q at).other;
      sync = (ports i q at).sync ∙ none-lower i;
    }) (some, was.0)

module _ {M : Type 0} (k : MasterModel M) (h : MachineEnd M Cause) (p : ℕ) (q : PortEnd) (phase : h.phase ≡ SyncTo p)
    (at : slice_get h.ports p ≡ Some q) (machine : IsMachine k h) where
  one-port : IsPortIn (SyncTo p) p q
  one-port = ports-in k h (SyncTo p) phase machine p q at

  pub sync-greeted : q.session.hello_went ≡ true
  sync-greeted = one-port.greeted

  pub sync-free : q.session.own_sync ≡ None
  sync-free = none-of q.session.own_sync (one-port.sync ∙ not-lower p)

  module _ (r : PortEnd) (is : r ≡ requested q false (Sync h.tick) 0 h.tick) where
    pub sync-more : p + 1 < length h.ports
        → IsMachine k (record h { phase = SyncTo (p + 1); ports = set h.ports p r })
    sync-more more =
        let was = in-phase k h (SyncTo p) phase machine in
        let size = length-set h.ports p r in
        with-ports k h (SyncTo (p + 1)) (set h.ports p r) machine size
        (put-ports (SyncTo p) (SyncTo (p + 1)) h.ports p r (ports-in k h (SyncTo p) phase machine) (λ i x other within had. record {
          greeted = had.greeted;
          other = had.other;
          sync = had.sync ∙ lower-more i p other;
        }) (sync-port (SyncTo (p + 1)) p r _ is (record {
          greeted = one-port.greeted;
          other = one-port.other;
          sync = lower-here p;
        })))
        (omega (arith, size, more), was.1)

    gather-ports : length h.ports ≤ p + 1 → ArePortsIn Gather (set h.ports p r)
    gather-ports last =
        put-ports (SyncTo p) Gather h.ports p r (ports-in k h (SyncTo p) phase machine) (λ i x other within had. record {
          greeted = had.greeted;
          other = had.other;
          sync = λ held. had.sync ∙ lower-last i p (length h.ports) other within last;
        }) (sync-port Gather p r _ is (record {
          greeted = one-port.greeted;
          other = one-port.other;
          sync = λ held. refl;
        }))

    pub sync-last : (ws : List PortEnd) → ws ≡ map with_wait (set h.ports p r) → length h.ports ≤ p + 1
        → IsMachine k (record h { phase = Gather; ports = ws })
    sync-last ws waits last =
        let was = in-phase k h (SyncTo p) phase machine in
        let size : length ws ≡ length h.ports =
        ap length waits ∙ length-map (set h.ports p r) with_wait ∙ length-set h.ports p r in
        let here = map-there with_wait (set h.ports p r) p r (set-there h.ports p r was.0) in
        let waiting : is_clear (with_wait r) ≡ false =
        open-port (with_wait r) _ (ap (λ x. x.session.own_sync) is) in
        with-ports k h Gather ws machine size
        (subst (λ qs. ArePortsIn Gather qs) (sym waits) (wait-all Gather (set h.ports p r) (gather-ports last))) (
          ap (λ qs. all_on (map is_clear qs)) waits
              ∙ unclear (map with_wait (set h.ports p r)) p (with_wait r) here waiting,
          was.1,
        )

-- what was done

module _ {M : Type 0} (k : MasterModel M) (h : MachineEnd M Cause) (p : ℕ) (q r : PortEnd)
    (at : slice_get h.ports p ≡ Some q) (is : r ≡ requested q false (Sync h.tick) 0 h.tick) (m : ℕ) (old : Core M)
    (view : record { end = h; room = m } ≡ old) (n : ℕ) (before after : List ℕ)
    (bytes : after ≡ before ++ packet_bytes (request_of q.session false (Sync h.tick))) where
  abbrev Syncs : MachineEnd M Cause → Type 0
  Syncs e = Does (at_port (slice_get old.end.ports p) (syncs k old.end p)) old (record { end = e; room = n }) before after
      (turn.Sent p)

  syncs-by : (e : MachineEnd M Cause) (b : Bool) → nat_lt (suc p) (length h.ports) ≡ b
      → e ≡ after_sync k (put_port k h p (requested q false (Sync h.tick) 0 h.tick)) p b → Syncs e
  syncs-by e b test end =
      does-seen (λ x. at_port (slice_get x.ports p) (syncs k x p)) h m old _ before after (turn.Sent p) view
      (subst (λ o. Does (at_port o (syncs k h p)) (record { end = h; room = m }) (record { end = e; room = n }) before after
      (turn.Sent p)) (sym at)
      (refl, end ∙ ap (after_sync k (put_port k h p (requested q false (Sync h.tick) 0 h.tick)) p) (sym test), bytes))

  pub syncs-more : p + 1 < length h.ports → Syncs (record h { phase = SyncTo (p + 1); ports = set h.ports p r })
  syncs-more more =
      syncs-by _ true (test-more p (length h.ports) more)
      (λ i. record h { phase = SyncTo (add-one p i); ports = set h.ports p (is i) })

  pub syncs-last : (ws : List PortEnd) → ws ≡ map with_wait (set h.ports p r) → length h.ports ≤ p + 1
      → Syncs (record h { phase = Gather; ports = ws })
  syncs-last ws waits last =
      syncs-by _ false (test-last p (length h.ports) last)
      ((λ i. record h { phase = Gather; ports = waits i })
      ∙ ap (λ x. record h { phase = Gather; ports = map with_wait (set h.ports p x) }) is)
