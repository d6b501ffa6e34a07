use Rattle.std.proofs.Common.{[], ◌∷◌, codes, refl, inl}
use Rattle.cosim_words.specs.Forms.{kinds}
use Rattle.cosim_words.proofs.Devices.{timer-tails, behind-timer, faulty-kind}
use Rattle.cosim_words.proofs.Reading.{faulty-end, faulty-word}
use Rattle.cosim_words.proofs.words.device_kind.Goals as goal

pub returns-in-None-clause-err : goal.returns-in-None-clause-err
returns-in-None-clause-err c = faulty-end kinds _ c.in-None.ensures refl (codes "null" ∷ [], inl (refl, tt))

pub returns-in-Err-clause-err : goal.returns-in-Err-clause-err
returns-in-Err-clause-err c = faulty-word kinds timer-tails _ _ _ _ c.in-Some.ensures (behind-timer _ (c.is_word.ensures.yes c.if-is_word.true)) c.in-Err.ensures.err

pub returns-in-Err-number_word-clause-err : goal.returns-in-Err-number_word-clause-err
returns-in-Err-number_word-clause-err c =
    faulty-kind _ _ _ _ c.in-Some.ensures (c.is_word.ensures.no c.if-is_word.false) (c.is_null.ensures.no c.if-is_null.false) c.in-Err-number_word.ensures.err
