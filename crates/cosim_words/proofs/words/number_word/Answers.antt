use Rattle.std.proofs.Common.{ℕ, [], ◌∷◌, decimal, refl, inl, arith, ◌∙◌}
use Rattle.cosim_words.specs.Forms.{Number, BeginsSome}
use Rattle.cosim_words.proofs.Reading.{behind-none, behind-off, faulty-end, faulty-here}
use Rattle.cosim_words.proofs.words.number_word.Goals as goal

begins : (most : ℕ) → BeginsSome ((Number most ∷ []) ∷ []) []
begins most = (decimal 0 ∷ [], inl ((0, omega arith, refl), tt))

pub returns-in-None-clause-err : goal.returns-in-None-clause-err
returns-in-None-clause-err c = faulty-end ((Number c.args.most ∷ []) ∷ []) _ c.in-None.ensures refl (begins c.args.most)

pub returns-in-None-read_decimal-clause-err : goal.returns-in-None-read_decimal-clause-err
returns-in-None-read_decimal-clause-err c =
    faulty-here ((Number c.args.most ∷ []) ∷ []) _ _ _ c.in-Some.ensures
    (behind-off _ (Number c.args.most) [] [] []
    (λ number. cc (c.in-None-read_decimal.ensures.exact number.0 (omega (arith, number.1)) (c.as_bytes.ensures.value ∙ number.2)))
    (behind-none _)) (begins c.args.most)
