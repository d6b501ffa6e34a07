-- A master with steps left has not stopped.
use Rattle.std.proofs.Common.{◌≡◌, ℕ, zero, suc, ◌<◌, List, [], ◌∷◌, length, drop, Option, None, refl, arith}
use Rattle.cosim_model.specs.declared.values.Bus.{Bus}
use Rattle.cos_script.specs.declared.step.ScriptStep.{ScriptStep}
use Rattle.cos_script.specs.Masters.{stopped_of}

pub stopped-left : (steps : List ScriptStep) (n wait : ℕ) (issued : Option Bus) → n < length steps → stopped_of wait (drop n steps) issued ≡ None
stopped-left [] n wait issued h = absurd (omega arith)
stopped-left (s ∷ ss) zero zero issued h = refl
stopped-left (s ∷ ss) zero (suc wait) issued h = refl
stopped-left (s ∷ ss) (suc n) wait issued h = stopped-left ss n wait issued (omega arith)
