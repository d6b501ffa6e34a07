-- Which phases await a packet of a port.
use Rattle.std.proofs.Common.{◌≡◌, ◌⊎◌, inl, inr, ℕ, ◌<◌, Bool, true, false, List, [], ◌∷◌, length, map, refl, sym, ap, ◌∙◌}
use Rattle.std.specs.Prelude.{Option, Some, None, slice_get}
use Rattle.std.proofs.lemmas.Option.{slice_get_within}
use Rattle.cosim_model.specs.declared.values.Access.{Access}
use Rattle.cosim_model.specs.declared.values.Bus.{Bus}
use Rattle.cosim_model.specs.Order.{least}
use Rattle.cosim_model.specs.Packets.{Packet}
use Rattle.cosim_model.specs.Parts.{MasterModel}
use Rattle.cosim_model.specs.Sessions.{is_posted}
use Rattle.ends_model.specs.declared.ends.Phase.{Phase}
use Rattle.ends_model.specs.declared.ends.Phase.TheVariants.{Greet, Meet, Run, AnswerFrom, SyncTo, Gather, Done}
use Rattle.ends_model.specs.MachineTurn.{PortEnd, MachineEnd, accesses, acts_in, acts_unless, at_port, first_true, gathers, greets, held_time, is_due, is_unknown, machine_acts, runs, serves, serves_held, serves_least, syncs, works}
use Rattle.rp_packet.specs.declared.fault.Cause.{Cause}
use Rattle.machine_core.specs.Machines.{Core, IsMachine, awaited}
use Rattle.machine_core.proofs.Frames.{in-phase}
use Rattle.machine_core.proofs.Gathering.{first-there}

-- a hello, an access's answer, or a request or answer in a boundary
abbrev pub IsAwaiting : {M : Type 0} → MachineEnd M Cause → ℕ → Type 0
IsAwaiting h p = (h.phase ≡ Meet p) ⊎ ((a : Access) × (h.phase ≡ AnswerFrom p a))
    ⊎ ((h.phase ≡ Gather) × ((q : PortEnd) × (slice_get h.ports p ≡ Some q) × (is_unknown q ≡ true)))

same-some : (m n : ℕ) → Some m ≡ Some n → m ≡ n
same-some m n e = cc

module _ {M : Type 0} (k : MasterModel M) (h : MachineEnd M Cause) where
  no-greet : (n : ℕ) (o : Option PortEnd) → awaited (at_port {M = M} {F = Cause} o (greets k h n)) ≡ None
  no-greet n None = refl
  no-greet n (Some q) = refl

  no-sync : (n : ℕ) (o : Option PortEnd) → awaited (at_port {M = M} {F = Cause} o (syncs k h n)) ≡ None
  no-sync n None = refl
  no-sync n (Some q) = refl

  no-access : (m : M) (b : Bus) (posted : Bool) (o : Option PortEnd)
      → awaited (at_port {M = M} {F = Cause} o (accesses k h m b.port b.access posted)) ≡ None
  no-access m b posted None = refl
  no-access m b true (Some q) = refl
  no-access m b false (Some q) = refl

  no-work : (m : M) (o : Option Bus) → awaited (works k h m o) ≡ None
  no-work m None = refl
  no-work m (Some b) = no-access m b b.access.posted (slice_get h.ports b.port)

  no-run : (due : Bool) (qs : List PortEnd) → awaited (runs k h due qs) ≡ None
  no-run true [] = refl
  no-run true (q ∷ qs) = refl
  no-run false qs = no-work (k.issue h.master).0 (k.issue h.master).1

  no-serve : (p : ℕ) (q : PortEnd) (m : Packet) (posted : Bool) → awaited (serves k h p q m posted) ≡ None
  no-serve p q m true = refl
  no-serve p q m false = refl

  no-held : (p : ℕ) (q : PortEnd) (o : Option Packet) → awaited (serves_held k h p q o) ≡ None
  no-held p q None = refl
  no-held p q (Some m) = no-serve p q m (is_posted q.session.common m)

  no-least : (o : Option (ℕ × ℕ)) → awaited (serves_least k h o) ≡ None
  no-least None = refl
  no-least (Some r) = by (slice_get h.ports r.0)
    where
      by : (o : Option PortEnd) → awaited (at_port {M = M} {F = Cause} o (λ q. serves_held k h r.0 q q.held)) ≡ None
      by None = refl
      by (Some q) = no-held r.0 q q.held

  gather-awaits : (o : Option ℕ) (p : ℕ) → awaited (gathers k h o) ≡ Some p → o ≡ Some p
  gather-awaits None p e = absurd (cc (e, no-least (least (map held_time h.ports))))
  gather-awaits (Some n) p e = e

  awaiting-in : (now : Phase) (p : ℕ) → h.phase ≡ now → awaited (acts_in k h now) ≡ Some p → IsAwaiting h p
  awaiting-in (Greet n) p is e = absurd (cc (e, no-greet n (slice_get h.ports n)))
  awaiting-in (Meet n) p is e = inl (is ∙ ap (λ x. Meet x) (same-some n p e))
  awaiting-in Run p is e = absurd (cc (e, no-run (is_due k h) h.ports))
  awaiting-in (AnswerFrom n a) p is e = inr (inl (a, is ∙ ap (λ x. AnswerFrom x a) (same-some n p e)))
  awaiting-in (SyncTo n) p is e = absurd (cc (e, no-sync n (slice_get h.ports n)))
  awaiting-in Gather p is e =
      inr (inr (is, first-there is_unknown h.ports p (gather-awaits (first_true (map is_unknown h.ports)) p e)))
  awaiting-in Done p is e = absurd (cc (e))

  awaiting : (p : ℕ) → h.fault ≡ None → awaited (machine_acts k h) ≡ Some p → IsAwaiting h p
  awaiting p clear e =
      awaiting-in h.phase p refl (ap (λ o. awaited (acts_unless k h o)) (sym clear) ∙ e)

  pub awaiting-there : (p : ℕ) → IsMachine k h → IsAwaiting h p → p < length h.ports
  awaiting-there p machine (inl phase) = (in-phase k h (Meet p) phase machine).0
  awaiting-there p machine (inr (inl answer)) = (in-phase k h (AnswerFrom p answer.0) answer.1 machine).0
  awaiting-there p machine (inr (inr gather)) = slice_get_within h.ports p gather.1.0 gather.1.1

pub awaiting-seen : {M : Type 0} (k : MasterModel M) (h : MachineEnd M Cause) (p room : ℕ) (old : Core M)
    → record { end = h; room = room } ≡ old → h.fault ≡ None → awaited (machine_acts k old.end) ≡ Some p → IsAwaiting h p
awaiting-seen k h p room old view clear e =
    awaiting k h p clear (ap (λ (x : Core _). awaited (machine_acts k x.end)) view ∙ e)
