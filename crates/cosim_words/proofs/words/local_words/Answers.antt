use Rattle.std.proofs.Common.{[], ◌∷◌, refl, inl}
use Rattle.cosim_words.specs.Forms.{locals, orders}
use Rattle.cosim_words.proofs.Reading.{behind-any, faulty-end, faulty-word}
use Rattle.cosim_words.proofs.words.local_words.Goals as goal

pub returns-in-None-clause-err : goal.returns-in-None-clause-err
returns-in-None-clause-err c = faulty-end locals _ c.in-None.ensures refl ([] ∷ [], inl (tt, tt))

pub returns-in-Err-clause-err : goal.returns-in-Err-clause-err
returns-in-Err-clause-err c = faulty-word locals orders _ _ _ _ c.in-Some.ensures (behind-any _ orders) c.in-Err.ensures.err
