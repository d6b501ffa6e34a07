use Rattle.std.proofs.Common.{[], ◌∷◌, ◌++◌, ◌∙◌, sym, refl}
use Rattle.cos_schedules.proofs.Passing.{gives-both, left-falls, others-both}
use Rattle.cos_schedules.proofs.rounds.Rounds.pass_each.Goals as goal

pub others-preserved : goal.others-preserved
others-preserved c =
    let so_far = c.others.invariant in
    let other = sym c.is_machine.ensures ∙ c.others-test.true in (
      so_far.0 ++ c.others.step ∷ [],
      others-both so_far.0 (c.others.step ∷ []) so_far.1 (other, tt),
      gives-both c.args.self.now c.others.self c.next-step-in-others.new.self (so_far.0 ++ c.others.step ∷ [])
          (c.next-step-in-others.result ∷ []) so_far.2 (c.next-step-in-others.new.self, c.next-step-in-others.ensures, refl),
    )

pub others-smaller : goal.others-smaller
others-smaller c =
    let other = sym c.is_machine.ensures ∙ c.others-test.true in
    left-falls c.others.self c.next-step-in-others.new.self c.others.step c.next-step-in-others.result
    c.next-step-in-others.ensures other
