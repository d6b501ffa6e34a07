use Rattle.std.proofs.Common.{refl, sym, ap, ◌∙◌, subst, length, Ok}
use Rattle.ends_model.specs.MachineTurn.{machine_acts}
use Rattle.machine_core.specs.Machines.{Does, awaited}
use Rattle.machine_turns.specs.Ends.{IsAtFront}
use Rattle.machine_turns.proofs.Fronts.{acted-front}
use Rattle.machine_turns.proofs.Ports.{acts-size}
use Rattle.machine_turns.proofs.Turning.{acted, made, acts-at, all-counted, of-same}
use Rattle.machine_turns.proofs.machine.MachineEnd.act.Goals as goal

pub invariant_of-self-2 : goal.invariant_of-self-2
invariant_of-self-2 g c = (
  c.self.invariant.0,
  c.act.ensures.clear,
  c.self.invariant.2 ∙ ap (λ h. length h.ports) (sym c.reserve_calls.ensures.end)
      ∙ sym (acts-size g.M.Master.model c.reserve_calls.new.self c.act.new.self _ _ _ c.act.ensures.acts),
)

pub returns-clause-turns : goal.returns-clause-turns
returns-clause-turns g c =
    let i = c.self.inside in
    let k = g.M.Master.model in
    let e = made i.core.end i.fault i.framers.items in
    let new = made c.act.new.self.end i.fault i.framers.items in
    let o = c.reserve_calls.new.self in
    let n = c.act.new.self in
    let after = c.act.new.out.bytes in
    let kept = ap (λ e. e.kept) c.self.view_is ∙ c.requires.kept in
    let clear = c.self.invariant.1 in
    let room = c.reserve_calls.ensures.end in
    let t = c.in-Ok-act.turn in
    let does = subst (λ h. Does (machine_acts k h) o n c.reserve.new.self.bytes after t) room c.in-Ok-act.ensures.acts in
    of-same k _ _ _ _ _ _ _ c.self.view_is
    (acted k e new o n c.args.out.now.bytes after (machine_acts k i.core.end) t
    (record {
      kept = kept;
      clear = clear;
      counts = all-counted i.framers.items c.self.invariant.0;
      new_kept = kept;
      core = refl;
      new_clear = c.act.ensures.clear;
      ports = refl;
    })
    (sym room) (acts-at k e _ kept clear refl)
    (ap (λ e. awaited (machine_acts k e.clear)) c.self.view_is ∙ c.requires.acts)
    (subst (λ b. Does (machine_acts k i.core.end) o n b after t) c.reserve.ensures.bytes does))

pub returns-clause-front : goal.returns-clause-front
returns-clause-front g c =
    let i = c.self.inside in
    let k = g.M.Master.model in
    let o = c.reserve_calls.new.self in
    let n = c.act.new.self in
    let after = c.act.new.out.bytes in
    let t = c.in-Ok-act.turn in
    let does = subst (λ h. Does (machine_acts k h) o n c.reserve.new.self.bytes after t) c.reserve_calls.ensures.end
    c.in-Ok-act.ensures.acts in
    subst (λ e. IsAtFront e (Ok t)) c.self.view_is
    (acted-front k i.core.end i.fault i.framers.items o n c.reserve.new.self.bytes after t c.self.invariant.2
    (ap (λ e. awaited (machine_acts k e.clear)) c.self.view_is ∙ c.requires.acts) does)
