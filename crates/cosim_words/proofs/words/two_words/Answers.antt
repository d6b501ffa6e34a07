use Rattle.std.proofs.Common.{[], ◌∷◌, refl, inl}
use Rattle.cosim_words.specs.Forms.{Any}
use Rattle.cosim_words.proofs.Reading.{faulty-end}
use Rattle.cosim_words.proofs.words.two_words.Goals as goal

pub returns-in-None-clause-err : goal.returns-in-None-clause-err
returns-in-None-clause-err c = faulty-end ((Any ∷ Any ∷ []) ∷ []) _ c.in-None.ensures refl ([] ∷ [] ∷ [], inl (tt, (tt, tt)))
