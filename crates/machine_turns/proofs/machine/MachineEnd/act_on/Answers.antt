use Rattle.std.proofs.Common.{refl, sym, ap, ◌∙◌, subst, length, Err, Ok}
use Rattle.ends_model.specs.MachineTurn.{machine_acts}
use Rattle.machine_core.specs.Machines.{awaited}
use Rattle.machine_turns.specs.declared.fault.TurnFault.TheVariants as turn_fault
use Rattle.machine_turns.specs.Ends.{Advances, IsAtFront}
use Rattle.machine_turns.proofs.Advancing.{advanced, advanced-front, advances-size, no-units, stopped}
use Rattle.machine_turns.proofs.Turning.{all-counted, made}
use Rattle.machine_turns.proofs.machine.MachineEnd.act_on.Goals as goal

pub returns-in-Err-clause-advances : goal.returns-in-Err-clause-advances
returns-in-Err-clause-advances g c =
    no-units g.M.Master.model c.args.self.now c.args.self.now c.args.out.now.bytes c.reserve.new.self.bytes _
    (refl, c.reserve.ensures.bytes)

pub returns-in-Err-reserve_calls-clause-advances : goal.returns-in-Err-reserve_calls-clause-advances
returns-in-Err-reserve_calls-clause-advances g c =
    no-units g.M.Master.model c.args.self.now _ c.args.out.now.bytes c.reserve.new.self.bytes _ (
      ap (λ h. made h c.self.inside.fault c.self.inside.framers.items) c.reserve_calls.ensures.end ∙ c.self.view_is,
      c.reserve.ensures.bytes,
    )

pub invariant_of-self-2 : goal.invariant_of-self-2
invariant_of-self-2 g c = (
  c.self.invariant.0,
  c.advance.ensures.clear,
  c.self.invariant.2 ∙ ap (λ h. length h.ports) (sym c.reserve_calls.ensures.end)
      ∙ sym (advances-size g.M.Master.model c.advance.new.units c.reserve_calls.new.self c.advance.new.self _ _ _ c.advance.ensures.advances),
)

pub invariant_of-self-in-Err-advance : goal.invariant_of-self-in-Err-advance
invariant_of-self-in-Err-advance g c = (
  c.self.invariant.0,
  c.advance.ensures.clear,
  c.self.invariant.2 ∙ ap (λ h. length h.ports) (sym c.reserve_calls.ensures.end)
      ∙ sym (advances-size g.M.Master.model c.advance.new.units c.reserve_calls.new.self c.advance.new.self _ _ _ c.advance.ensures.advances),
)

pub returns-clause-advances : goal.returns-clause-advances
returns-clause-advances g c =
    let i = c.self.inside in
    let k = g.M.Master.model in
    let kept = ap (λ e. e.kept) c.self.view_is ∙ c.requires.kept in
    let awaits = ap (λ e. awaited (machine_acts k e.clear)) c.self.view_is ∙ c.requires.acts in
    let t = c.in-Ok-advance.turn in
    let new = made c.advance.new.self.end i.fault i.framers.items in
    subst (λ e. Advances k c.advance.new.units e new c.args.out.now.bytes c.advance.new.out.bytes (Ok t)) c.self.view_is
    (subst (λ b. Advances k c.advance.new.units (made i.core.end i.fault i.framers.items) new b c.advance.new.out.bytes (Ok t))
    c.reserve.ensures.bytes
    (advanced k i.fault i.framers.items kept (all-counted i.framers.items c.self.invariant.0) i.core.end
    c.reserve_calls.new.self c.advance.new.self c.reserve.new.self.bytes c.advance.new.out.bytes c.self.invariant.1
    c.reserve_calls.ensures.end awaits t c.advance.new.units c.advance.ensures.clear c.in-Ok-advance.ensures.advances))

pub returns-in-Err-advance-clause-advances : goal.returns-in-Err-advance-clause-advances
returns-in-Err-advance-clause-advances g c =
    let i = c.self.inside in
    let k = g.M.Master.model in
    let kept = ap (λ e. e.kept) c.self.view_is ∙ c.requires.kept in
    let awaits = ap (λ e. awaited (machine_acts k e.clear)) c.self.view_is ∙ c.requires.acts in
    let new = made c.advance.new.self.end i.fault i.framers.items in
    subst (λ e. Advances k c.advance.new.units e new c.args.out.now.bytes c.advance.new.out.bytes (Err turn_fault.NoMemory)) c.self.view_is
    (subst (λ b. Advances k c.advance.new.units (made i.core.end i.fault i.framers.items) new b c.advance.new.out.bytes (Err
    turn_fault.NoMemory)) c.reserve.ensures.bytes
    (stopped k i.fault i.framers.items kept (all-counted i.framers.items c.self.invariant.0) i.core.end
    c.reserve_calls.new.self c.advance.new.self c.reserve.new.self.bytes c.advance.new.out.bytes c.self.invariant.1
    c.reserve_calls.ensures.end awaits _ c.advance.new.units c.in-Err-advance.ensures.advances))

pub returns-clause-front : goal.returns-clause-front
returns-clause-front g c =
    let i = c.self.inside in
    let k = g.M.Master.model in
    let awaits = ap (λ e. awaited (machine_acts k e.clear)) c.self.view_is ∙ c.requires.acts in
    subst (λ e. IsAtFront e (Ok c.in-Ok-advance.turn)) c.self.view_is
    (advanced-front k i.core.end i.fault i.framers.items c.reserve_calls.new.self c.advance.new.self
    c.reserve.new.self.bytes c.advance.new.out.bytes c.in-Ok-advance.turn c.advance.new.units c.self.invariant.2
    c.reserve_calls.ensures.end awaits c.in-Ok-advance.ensures.advances)
