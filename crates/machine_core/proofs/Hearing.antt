-- A machine end takes a packet.
use Rattle.std.proofs.Common.{◌≡◌, ℕ, suc, ◌+◌, ◌<◌, Bool, true, length, set, refl, sym, ap, ◌∙◌, arith, add-one}
use Rattle.std.specs.Prelude.{nat_lt, Some, slice_get}
use Rattle.std.proofs.lemmas.List.{length-set}
use Rattle.cosim_model.specs.Parts.{MasterModel}
use Rattle.ends_model.specs.declared.ends.Phase.TheVariants.{Meet, Run}
use Rattle.ends_model.specs.MachineTurn.{PortEnd, MachineEnd, met, to_meet, waits_at, with_wait}
use Rattle.rp_packet.specs.declared.fault.Cause.{Cause}
use Rattle.machine_core.specs.Machines.{Core, IsMachine, ArePortsIn}
use Rattle.machine_core.proofs.Frames.{in-phase, ports-in, with-ports, wait-ports}
use Rattle.machine_core.proofs.Greeting.{test-more}

module _ {M : Type 0} (k : MasterModel M) (h : MachineEnd M Cause) (p : ℕ) (phase : h.phase ≡ Meet p) where
  meet-ports : (n : ℕ) → IsMachine k h → ArePortsIn (Meet n) h.ports
  meet-ports n machine i q at =
      let one = ports-in k h (Meet p) phase machine i q at in
      record { greeted = one.greeted; other = one.other; sync = one.sync }

  pub meet-more : (q w : PortEnd) → p + 1 < length h.ports → slice_get h.ports (p + 1) ≡ Some q → w ≡ with_wait q
      → IsMachine k h → IsMachine k (record h { phase = Meet (p + 1); ports = set h.ports (p + 1) w })
  meet-more q w more at is machine =
      let was = in-phase k h (Meet p) phase machine in
      let size = length-set h.ports (p + 1) w in
      with-ports k h (Meet (p + 1)) (set h.ports (p + 1) w) machine size
      (wait-ports (Meet (p + 1)) h.ports (p + 1) q w at is (meet-ports (p + 1) machine))
      (omega (arith, size, more), was.1, was.2)

  pub meet-last : IsMachine k h → IsMachine k (record h { phase = Run })
  meet-last machine =
      let was = in-phase k h (Meet p) phase machine in
      with-ports k h Run h.ports machine refl
      (λ i q at.
      (let one = ports-in k h (Meet p) phase machine i q at in
      record { greeted = one.greeted; other = one.other; sync = one.sync }))
      (was.1, λ marked. absurd (cc (marked, was.2)))

  met-by : (m : ℕ) (old : Core M) → record { end = h; room = m } ≡ old → (b : Bool) → nat_lt (suc p) (length h.ports) ≡ b
      → to_meet k h (suc p) b ≡ met k old.end old.end.phase
  met-by m old view b test =
      ap (to_meet k h (suc p)) (sym test) ∙ ap (met k h) (sym phase) ∙ ap (λ (x : Core M). met k x.end x.end.phase) view

  pub meets-more : (m : ℕ) (old : Core M) → record { end = h; room = m } ≡ old → (q w : PortEnd) → p + 1 < length h.ports
      → slice_get h.ports (p + 1) ≡ Some q → w ≡ with_wait q
      → record h { phase = Meet (p + 1); ports = set h.ports (p + 1) w } ≡ met k old.end old.end.phase
  meets-more m old view q w more at is =
      (λ i. record h { phase = Meet (p + 1); ports = set h.ports (p + 1) (is i) })
      ∙ ap (λ o. record h { phase = Meet (p + 1); ports = waits_at h.ports (p + 1) o }) (sym at)
      ∙ ap (λ n. record h { phase = Meet n; ports = waits_at h.ports n (slice_get h.ports n) }) (add-one p)
      ∙ met-by m old view true (test-more p (length h.ports) more)
