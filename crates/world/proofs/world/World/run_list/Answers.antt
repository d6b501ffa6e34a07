use Rattle.std.proofs.Common.{◌≡◌, ◌⊎◌, inl, inr, ℕ, ◌+◌, ◌<◌, ◌≤◌, true, false, List, [], ◌∷◌, ◌++◌, length, take, drop, get_or, refl, sym, ap, ◌∙◌, subst, arith}
use Rattle.std.proofs.lemmas.Grind.{take_at_read}
use Rattle.std.proofs.lemmas.List.{take-append-drop}
use Rattle.world.specs.Worlds.{HasTaken}
use Rattle.world.proofs.Taking.{take-both, take-none, take-one}
use Rattle.world.proofs.world.World.run_list.Goals as goal

pub steps-init : goal.steps-init
steps-init g c =
    (omega arith, take-none g.M.Master.model g.D.Device.model c.args.self.now _ c.is_on_its_way.ensures.reached.effective)

pub steps-preserved : goal.steps-preserved
steps-preserved g c =
    let k = g.M.Master.model in
    let d = g.D.Device.model in
    let one = take-one k d c.steps.self c.step.new.self _ c.in-Ok.field-0
    (λ done. let is = c.is_finished.ensures.is.1 done in cc (is, c.if-not-is_finished.true)) c.in-Ok.ensures.ok in
    let within = c.steps-test.true in
    let next = (take_at_read c.args.steps.now c.steps.at _ (omega (arith, within))).1 in (
      omega (arith, within),
      subst (λ l. HasTaken k d c.args.self.now c.step.new.self l) (sym next)
          (take-both k d c.args.self.now c.steps.self c.step.new.self (take c.steps.at c.args.steps.now) _ c.steps.invariant.1 one),
    )

pub returns-in-Err : goal.returns-in-Err
returns-in-Err g c = (
  take c.steps.at c.args.steps.now,
  drop c.steps.at c.args.steps.now,
  sym (take-append-drop c.steps.at c.args.steps.now),
  subst (λ w. HasTaken g.M.Master.model g.D.Device.model c.args.self.now w (take c.steps.at c.args.steps.now))
      (sym c.in-Err.ensures.err) c.steps.invariant.1,
  tt,
)

pub returns-else-not-is_finished : goal.returns-else-not-is_finished
returns-else-not-is_finished g c = (
  take c.steps.at c.args.steps.now,
  drop c.steps.at c.args.steps.now,
  sym (take-append-drop c.steps.at c.args.steps.now),
  c.steps.invariant.1,
  inr (c.if-not-is_finished.ensures.is.0 refl),
)
