use Rattle.std.proofs.Common.{[], ◌∷◌, codes, refl}
use Rattle.cosim_words.specs.Forms.{Any, Number, devices, locals, forms}
use Rattle.cosim_words.proofs.Reading.{faulty-end, faulty-here, faulty-verb, behind-others}
use Rattle.cosim_words.proofs.Faulty.{faulty-of, begins-forms}
use Rattle.cosim_words.proofs.words.command_of.Goals as goal

pub returns-in-None-clause-err : goal.returns-in-None-clause-err
returns-in-None-clause-err c = faulty-of _ _ (faulty-end forms _ c.in-None.ensures refl begins-forms)

pub returns-in-Err-clause-err : goal.returns-in-Err-clause-err
returns-in-Err-clause-err c =
    faulty-of _ _ (faulty-verb forms devices (codes "device") _ _ _ _ c.in-Some.ensures (c.is_word.ensures.yes c.if-is_word.true) refl refl c.in-Err.ensures.err)

-- show
pub returns-in-Err-one_word-clause-err : goal.returns-in-Err-one_word-clause-err
returns-in-Err-one_word-clause-err c =
    faulty-of _ _ (faulty-verb forms ((Any ∷ []) ∷ []) (codes "show") _ _ _ _ c.in-Some.ensures (c.is_word-2.ensures.yes c.if-is_word-2.true) refl refl c.in-Err-one_word.ensures.err)

-- pack
pub returns-in-Err-one_word-2-clause-err : goal.returns-in-Err-one_word-2-clause-err
returns-in-Err-one_word-2-clause-err c =
    faulty-of _ _ (faulty-verb forms ((Any ∷ []) ∷ []) (codes "pack") _ _ _ _ c.in-Some.ensures (c.is_word-3.ensures.yes c.if-is_word-3.true) refl refl c.in-Err-one_word-2.ensures.err)

-- asm
pub returns-in-Err-two_words-clause-err : goal.returns-in-Err-two_words-clause-err
returns-in-Err-two_words-clause-err c =
    faulty-of _ _ (faulty-verb forms ((Any ∷ Any ∷ []) ∷ []) (codes "asm") _ _ _ _ c.in-Some.ensures (c.is_word-4.ensures.yes c.if-is_word-4.true) refl refl c.in-Err-two_words.ensures.err)

-- dis
pub returns-in-Err-one_word-3-clause-err : goal.returns-in-Err-one_word-3-clause-err
returns-in-Err-one_word-3-clause-err c =
    faulty-of _ _ (faulty-verb forms ((Any ∷ []) ∷ []) (codes "dis") _ _ _ _ c.in-Some.ensures (c.is_word-5.ensures.yes c.if-is_word-5.true) refl refl c.in-Err-one_word-3.ensures.err)

-- direct
pub returns-in-Err-one_word-4-clause-err : goal.returns-in-Err-one_word-4-clause-err
returns-in-Err-one_word-4-clause-err c =
    faulty-of _ _ (faulty-verb forms ((Any ∷ []) ∷ []) (codes "direct") _ _ _ _ c.in-Some.ensures (c.is_word-6.ensures.yes c.if-is_word-6.true) refl refl c.in-Err-one_word-4.ensures.err)

-- local
pub returns-in-Err-local_words-clause-err : goal.returns-in-Err-local_words-clause-err
returns-in-Err-local_words-clause-err c =
    faulty-of _ _ (faulty-verb forms locals (codes "local") _ _ _ _ c.in-Some.ensures (c.is_word-7.ensures.yes c.if-is_word-7.true) refl refl c.in-Err-local_words.ensures.err)

-- gen
pub returns-in-Err-number_word-clause-err : goal.returns-in-Err-number_word-clause-err
returns-in-Err-number_word-clause-err c =
    faulty-of _ _ (faulty-verb forms ((Number 4294967295 ∷ []) ∷ []) (codes "gen") _ _ _ _ c.in-Some.ensures (c.is_word-8.ensures.yes c.if-is_word-8.true) refl refl c.in-Err-number_word.ensures.err)

-- run
pub returns-in-Err-two_words-2-clause-err : goal.returns-in-Err-two_words-2-clause-err
returns-in-Err-two_words-2-clause-err c =
    faulty-of _ _ (faulty-verb forms ((Any ∷ Any ∷ []) ∷ []) (codes "run") _ _ _ _ c.in-Some.ensures (c.is_word-9.ensures.yes c.if-is_word-9.true) refl refl c.in-Err-two_words-2.ensures.err)

-- help
pub returns-in-Err-no_word-clause-err : goal.returns-in-Err-no_word-clause-err
returns-in-Err-no_word-clause-err c =
    faulty-of _ _ (faulty-verb forms ([] ∷ []) (codes "help") _ _ _ _ c.in-Some.ensures (c.is_word-10.ensures.yes c.if-is_word-10.true) refl refl c.in-Err-no_word.ensures.err)

pub returns-clause-err : goal.returns-clause-err
returns-clause-err c =
    let device = c.is_word.ensures.no c.if-is_word.false in
    let local = c.is_word-7.ensures.no c.if-is_word-7.false in
    faulty-of _ _ (faulty-here forms _ _ _ c.in-Some.ensures
    (behind-others _ forms (
      device,
      (
        device,
        (
          device,
          (
            c.is_word-2.ensures.no c.if-is_word-2.false,
            (
              c.is_word-3.ensures.no c.if-is_word-3.false,
              (
                c.is_word-4.ensures.no c.if-is_word-4.false,
                (
                  c.is_word-5.ensures.no c.if-is_word-5.false,
                  (
                    c.is_word-6.ensures.no c.if-is_word-6.false,
                    (
                      local,
                      (
                        local,
                        (
                          local,
                          (
                            c.is_word-8.ensures.no c.if-is_word-8.false,
                            (
                              c.is_word-9.ensures.no c.if-is_word-9.false,
                              (
                                c.is_word-10.ensures.no c.if-is_word-10.false,
                                tt,
                              ),
                            ),
                          ),
                        ),
                      ),
                    ),
                  ),
                ),
              ),
            ),
          ),
        ),
      ),
    ))
    begins-forms)
