use Rattle.std.proofs.Common.{[], ◌∷◌, codes, refl}
use Rattle.cosim_words.specs.Forms.{Any, Number}
use Rattle.cosim_words.proofs.Orders.{order-forms, begins-order, faulty-order}
use Rattle.cosim_words.proofs.Reading.{behind-others, faulty-here, faulty-verb}
use Rattle.cosim_words.proofs.words.order_of.Goals as goal

-- schedule
pub returns-in-Err-clause-err : goal.returns-in-Err-clause-err
returns-in-Err-clause-err c =
    faulty-order _ _ _ _ c.in-Some.ensures
    (faulty-verb order-forms ((Number 4294967295 ∷ []) ∷ []) (codes "schedule") _ _ _ _ c.in-Some.ensures
    (c.is_word.ensures.yes c.if-is_word.true) refl refl c.in-Err.ensures.err)

-- steps
pub returns-in-Err-one_word-clause-err : goal.returns-in-Err-one_word-clause-err
returns-in-Err-one_word-clause-err c =
    faulty-order _ _ _ _ c.in-Some.ensures
    (faulty-verb order-forms ((Any ∷ []) ∷ []) (codes "steps") _ _ _ _ c.in-Some.ensures
    (c.is_word-2.ensures.yes c.if-is_word-2.true) refl refl c.in-Err-one_word.ensures.err)

pub returns-clause-err : goal.returns-clause-err
returns-clause-err c =
    faulty-order _ _ _ _ c.in-Some.ensures
    (faulty-here order-forms _ _ _ c.in-Some.ensures
    (behind-others _ order-forms
    (c.is_word.ensures.no c.if-is_word.false, (c.is_word-2.ensures.no c.if-is_word-2.false, tt))) begins-order)
