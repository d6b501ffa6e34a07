use Rattle.std.proofs.Common.{[], ◌∷◌, codes, refl, inl}
use Rattle.cosim_words.specs.Forms.{devices, kinds}
use Rattle.cosim_words.proofs.Reading.{behind-any, faulty-end, faulty-word}
use Rattle.cosim_words.proofs.words.device_words.Goals as goal

pub returns-in-None-clause-err : goal.returns-in-None-clause-err
returns-in-None-clause-err c = faulty-end devices _ c.in-None.ensures refl ([] ∷ codes "null" ∷ [], inl (tt, (refl, tt)))

pub returns-in-Err-clause-err : goal.returns-in-Err-clause-err
returns-in-Err-clause-err c = faulty-word devices kinds _ _ _ _ c.in-Some.ensures (behind-any _ kinds) c.in-Err.ensures.err
