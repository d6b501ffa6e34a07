-- The hellos of a machine end.
use Rattle.std.proofs.Common.{◌≡◌, ℕ, suc, ◌+◌, ◌<◌, ◌≤◌, Bool, true, false, List, ◌++◌, length, set, refl, sym, ap, ◌∙◌, subst, arith, add-one}
use Rattle.std.specs.Prelude.{nat_lt, Some, slice_get}
use Rattle.std.proofs.lemmas.Bool.Decides.{nat_tests}
use Rattle.std.proofs.lemmas.List.{length-set}
use Rattle.cosim_model.specs.Parts.{MasterModel}
use Rattle.cosim_model.specs.Sessions.{hello_of}
use Rattle.ends_model.specs.declared.ends.Phase.{Phase}
use Rattle.ends_model.specs.declared.ends.Phase.TheVariants.{Greet, Meet}
use Rattle.ends_model.specs.declared.ends.Turn.TheVariants as turn
use Rattle.ends_model.specs.MachineTurn.{PortEnd, MachineEnd, at_port, greeted, greets, after_greet, put_port, waits_at, with_wait}
use Rattle.rp_packet.specs.declared.fault.Cause.{Cause}
use Rattle.rp_packet.specs.Spelling.{packet_bytes}
use Rattle.machine_core.specs.Machines.{Core, Does, IsMachine, IsPortIn, ArePortsIn}
use Rattle.machine_core.proofs.Frames.{does-seen, put-ports, wait-ports, in-phase, ports-in, with-ports}

pub lower-more : (i p : ℕ) → (i ≡ p → ⊥) → nat_lt i p ≡ nat_lt i (p + 1)
lower-more i p other = grind (arith, nat_tests, other)

pub lower-here : (p : ℕ) → true ≡ nat_lt p (p + 1)
lower-here p = grind (arith, nat_tests)

pub lower-last : (i p n : ℕ) → (i ≡ p → ⊥) → i < n → n ≤ p + 1 → nat_lt i p ≡ true
lower-last i p n other within last = grind (arith, nat_tests, other)

pub test-more : (p n : ℕ) → p + 1 < n → nat_lt (suc p) n ≡ true
test-more p n more = grind (arith, nat_tests)

pub test-last : (p n : ℕ) → n ≤ p + 1 → nat_lt (suc p) n ≡ false
test-last p n last = grind (arith, nat_tests)

pub not-lower : (p : ℕ) → nat_lt p p ≡ false
not-lower p = grind (arith, nat_tests)

greeted-port : (next : Phase) (p : ℕ) (q r : PortEnd) → r ≡ greeted q → IsPortIn next p (greeted q) → IsPortIn next p r
greeted-port next p q r is one = subst (λ x. IsPortIn next p x) (sym is) one

pub not-greeted : {M : Type 0} (k : MasterModel M) (h : MachineEnd M Cause) (p : ℕ) (q : PortEnd) → h.phase ≡ Greet p
    → slice_get h.ports p ≡ Some q → IsMachine k h → q.session.hello_went ≡ false
not-greeted k h p q phase at machine =
    let one = ports-in k h (Greet p) phase machine p q at in one.greeted ∙ not-lower p

module _ {M : Type 0} (k : MasterModel M) (h : MachineEnd M Cause) (p : ℕ) (q r : PortEnd) (phase : h.phase ≡ Greet p)
    (at : slice_get h.ports p ≡ Some q) (is : r ≡ greeted q) (machine : IsMachine k h) where
  pub greet-more : p + 1 < length h.ports
      → IsMachine k (record h { phase = Greet (p + 1); ports = set h.ports p r })
  greet-more more =
      let was = in-phase k h (Greet p) phase machine in
      let ports = ports-in k h (Greet p) phase machine in
      let one = ports p q at in
      let size = length-set h.ports p r in
      with-ports k h (Greet (p + 1)) (set h.ports p r) machine size
      (put-ports (Greet p) (Greet (p + 1)) h.ports p r ports (λ i x other within had. record {
        greeted = had.greeted ∙ lower-more i p other;
        other = had.other;
        sync = had.sync;
      }) (greeted-port (Greet (p + 1)) p q r is (record {
        greeted = lower-here p;
        other = one.other;
        sync = one.sync;
      })))
      (omega (arith, size, more), was.1, was.2)

  met-ports : length h.ports ≤ p + 1 → ArePortsIn (Meet 0) (set h.ports p r)
  met-ports last =
      let ports = ports-in k h (Greet p) phase machine in
      let one = ports p q at in
      put-ports (Greet p) (Meet 0) h.ports p r ports (λ i x other within had. record {
        greeted = had.greeted ∙ lower-last i p (length h.ports) other within last;
        other = had.other;
        sync = had.sync;
      }) (greeted-port (Meet 0) p q r is (record { greeted = refl; other = one.other; sync = one.sync }))

  pub greet-last : (a w : PortEnd) → length h.ports ≤ p + 1 → slice_get (set h.ports p r) 0 ≡ Some a → w ≡ with_wait a
      → IsMachine k (record h { phase = Meet 0; ports = set (set h.ports p r) 0 w })
  greet-last a w last first waits =
      let was = in-phase k h (Greet p) phase machine in
      let size : length (set (set h.ports p r) 0 w) ≡ length h.ports =
      length-set (set h.ports p r) 0 w ∙ length-set h.ports p r in
      let within = was.0 in
      with-ports k h (Meet 0) (set (set h.ports p r) 0 w) machine size
      (wait-ports (Meet 0) (set h.ports p r) 0 a w first waits (met-ports last))
      (omega (arith, size, within), was.1, was.2)

-- what was done

module _ {M : Type 0} (k : MasterModel M) (h : MachineEnd M Cause) (p : ℕ) (q r : PortEnd)
    (at : slice_get h.ports p ≡ Some q) (is : r ≡ greeted q) (m : ℕ) (old : Core M)
    (view : record { end = h; room = m } ≡ old) (n : ℕ) (before after : List ℕ)
    (bytes : after ≡ before ++ packet_bytes (hello_of q.session)) where
  abbrev Greets : MachineEnd M Cause → Type 0
  Greets e = Does (at_port (slice_get old.end.ports p) (greets k old.end p)) old (record { end = e; room = n }) before after
      (turn.Sent p)

  greets-by : (e : MachineEnd M Cause) (b : Bool) → nat_lt (suc p) (length h.ports) ≡ b
      → e ≡ after_greet k (put_port k h p (greeted q)) p b → Greets e
  greets-by e b test end =
      does-seen (λ x. at_port (slice_get x.ports p) (greets k x p)) h m old _ before after (turn.Sent p) view
      (subst (λ o. Does (at_port o (greets k h p)) (record { end = h; room = m }) (record { end = e; room = n }) before after
      (turn.Sent p)) (sym at) (refl, end ∙ ap (after_greet k (put_port k h p (greeted q)) p) (sym test), bytes))

  pub greets-more : p + 1 < length h.ports → Greets (record h { phase = Greet (p + 1); ports = set h.ports p r })
  greets-more more =
      greets-by _ true (test-more p (length h.ports) more)
      (λ i. record h { phase = Greet (add-one p i); ports = set h.ports p (is i) })

  pub greets-last : (a w : PortEnd) → length h.ports ≤ p + 1 → slice_get (set h.ports p r) 0 ≡ Some a → w ≡ with_wait a
      → Greets (record h { phase = Meet 0; ports = set (set h.ports p r) 0 w })
  greets-last a w last first waits =
      greets-by _ false (test-last p (length h.ports) last)
      ((λ i. record h { phase = Meet 0; ports = set (set h.ports p r) 0 (waits i) })
      ∙ ap (λ o. record h { phase = Meet 0; ports = waits_at (set h.ports p r) 0 o }) (sym first)
      ∙ ap (λ x. record h { phase = Meet 0; ports = waits_at (set h.ports p x) 0 (slice_get (set h.ports p x) 0) }) is)
