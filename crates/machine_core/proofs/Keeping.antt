-- A request that was taken is held, or is too late.
use Rattle.std.proofs.Common.{◌≡◌, ℕ, zero, suc, true, false, List, [], ◌∷◌, set, refl, sym, ap, ◌∙◌, subst, arith, Result, Ok, Err}
use Rattle.std.specs.Prelude.{IfErr, OnOk, Some, is_some, slice_get}
use Rattle.std.proofs.lemmas.List.{length-set}
use Rattle.std.proofs.lemmas.Option.{slice_get_within}
use Rattle.cosim_model.specs.declared.session.EndFault.TheVariants as end_fault
use Rattle.cosim_model.specs.Packets.{Packet}
use Rattle.cosim_model.specs.Parts.{MasterModel}
use Rattle.ends_model.specs.declared.ends.Phase.{Phase}
use Rattle.ends_model.specs.declared.ends.Phase.TheVariants.{Greet, Meet, Run, AnswerFrom, SyncTo, Gather, Done}
use Rattle.ends_model.specs.MachineTurn.{PortEnd, MachineEnd, hold_request, time_of}
use Rattle.rp_packet.specs.declared.fault.Cause.{Cause}
use Rattle.machine_core.specs.declared.fault.HearFault.{HearFault}
use Rattle.machine_core.specs.declared.fault.HearFault.TheVariants as hear
use Rattle.machine_core.specs.Machines.{Becomes, Core, IsIn, IsMachine, IsPortIn, is_late}
use Rattle.machine_core.proofs.Frames.{only, same-phase, set-there, unclear}

set-same : (qs : List PortEnd) (n : ℕ) (q : PortEnd) → slice_get qs n ≡ Some q → set qs n q ≡ qs
set-same [] n q at = refl
set-same (x ∷ qs) zero q at = (let same : x ≡ q = cc in ap (λ y. y ∷ qs) (sym same))
set-same (x ∷ qs) (suc n) q at = ap (λ ys. x ∷ ys) (set-same qs n q at)

hold-port : (now : Phase) (p : ℕ) (q : PortEnd) (m : Packet) → IsPortIn now p q
    → (now ≡ Gather → is_some q.session.own_sync ≡ true) → IsPortIn now p (record q { held = Some m })
hold-port (Greet n) p q m one synced = record { greeted = one.greeted; other = one.other; sync = one.sync }
hold-port (Meet n) p q m one synced = record { greeted = one.greeted; other = one.other; sync = one.sync }
hold-port Run p q m one synced = record { greeted = one.greeted; other = one.other; sync = one.sync }
hold-port (AnswerFrom n a) p q m one synced = record { greeted = one.greeted; other = one.other; sync = one.sync }
hold-port (SyncTo n) p q m one synced = record { greeted = one.greeted; other = one.other; sync = one.sync }
hold-port Gather p q m one synced =
    record { greeted = one.greeted; other = one.other; sync = λ held. synced refl }
hold-port Done p q m one synced = record { greeted = one.greeted; other = one.other; sync = one.sync }

module _ {M : Type 0} (k : MasterModel M) (h : MachineEnd M Cause) (p : ℕ) (q : PortEnd) (m : Packet)
    (at : slice_get h.ports p ≡ Some q) where
  hold-in : (now : Phase) → IsIn k h now → IsIn k (record h { ports = set h.ports p (record q { held = Some m }) }) now
  hold-in (Greet n) was = let size = length-set h.ports p (record q { held = Some m }) in let within = was.0 in (omega (arith, size, within), was.1, was.2)
  hold-in (Meet n) was = let size = length-set h.ports p (record q { held = Some m }) in let within = was.0 in (omega (arith, size, within), was.1, was.2)
  hold-in Run was = was
  hold-in (AnswerFrom n a) was = let size = length-set h.ports p (record q { held = Some m }) in let within = was.0 in (omega (arith, size, within), was.1, was.2, was.3)
  hold-in (SyncTo n) was = let size = length-set h.ports p (record q { held = Some m }) in let within = was.0 in (omega (arith, size, within), was.1)
  hold-in Gather was = (
    unclear (set h.ports p (record q { held = Some m })) p (record q { held = Some m })
        (set-there h.ports p (record q { held = Some m }) (slice_get_within h.ports p q at)) refl,
    was.1,
  )
  hold-in Done was = was

  hold-put : IsMachine k h → (h.phase ≡ Gather → is_some q.session.own_sync ≡ true)
      → IsMachine k (record h { ports = set h.ports p (record q { held = Some m }) })
  hold-put machine synced =
      let size = length-set h.ports p (record q { held = Some m }) in
      let reach = machine.reach in
      let few = machine.few in
      record {
        quantum = machine.quantum;
        ticks = machine.ticks;
        reach = omega (arith, size, reach);
        few = omega (arith, size, few);
        ports = same-phase h.phase h.ports p (record q { held = Some m }) machine.ports
            (hold-port h.phase p q m (machine.ports p q at) synced);
        phase = hold-in h.phase machine.phase;
      }

  hold-same : set h.ports p q ≡ h.ports
  hold-same = set-same h.ports p q at

  pub hold-machine : (r : PortEnd) (v : Result Unit HearFault)
      → OnOk v ((is_late q m ≡ false) × (r ≡ record q { held = Some m }))
      → IfErr v (λ f. (is_late q m ≡ true) × (f ≡ hear.LateWant q.last (time_of m.body)) × (r ≡ q))
      → IsMachine k h → (h.phase ≡ Gather → is_some q.session.own_sync ≡ true)
      → IsMachine k (record h { ports = set h.ports p r })
  hold-machine r (Ok u) ok err machine synced =
      subst (λ x. IsMachine k (record h { ports = set h.ports p x })) (sym ok.1) (hold-put machine synced)
  hold-machine r (Err f) ok err machine synced =
      subst (λ x. IsMachine k (record h { ports = set h.ports p x })) (sym err.2)
      (subst (λ qs. IsMachine k (record h { ports = qs })) (sym hold-same) machine)

  hold-becomes : (r : PortEnd) (v : Result Unit HearFault)
      → OnOk v ((is_late q m ≡ false) × (r ≡ record q { held = Some m }))
      → IfErr v (λ f. (is_late q m ≡ true) × (f ≡ hear.LateWant q.last (time_of m.body)) × (r ≡ q))
      → Becomes (hold_request k h p q m (is_late q m)) (record h { ports = set h.ports p r }) p v
  hold-becomes r (Ok u) ok err =
      ap (λ x. record h { ports = set h.ports p x }) ok.1 ∙ ap (hold_request k h p q m) (sym ok.0)
  hold-becomes r (Err f) ok err =
      subst (λ x. Becomes (hold_request k h p q m (is_late q m)) (record h { ports = set h.ports p r }) p (Err x)) (sym err.1)
      (ap (λ x. record h { ports = set h.ports p x; fault = Some (p, end_fault.LateWant q.last (time_of m.body)) }) err.2
      ∙ ap (hold_request k h p q m) (sym err.0))

  pub hold-seen : (r : PortEnd) (v : Result Unit HearFault)
      → OnOk v ((is_late q m ≡ false) × (r ≡ record q { held = Some m }))
      → IfErr v (λ f. (is_late q m ≡ true) × (f ≡ hear.LateWant q.last (time_of m.body)) × (r ≡ q))
      → (room : ℕ) (old : Core M) → record { end = h; room = room } ≡ old → (x : PortEnd)
      → slice_get old.end.ports p ≡ Some x
      → Becomes (hold_request k old.end p x m (is_late x m)) (record h { ports = set h.ports p r }) p v
  hold-seen r v ok err room old view x here =
      let one = ap (λ (y : Core M). slice_get y.end.ports p) view ∙ here in
      let same : q ≡ x = only h.ports p q x at one in
      subst (λ (y : Core M). Becomes (hold_request k y.end p x m (is_late x m)) (record h { ports = set h.ports p r }) p v) view
      (subst (λ y. Becomes (hold_request k h p y m (is_late y m)) (record h { ports = set h.ports p r }) p v) same
      (hold-becomes r v ok err))
