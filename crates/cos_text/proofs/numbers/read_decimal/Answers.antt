use Rattle.std.proofs.Common.{◌≡◌, ap, ◌∙◌, Some, arith}
use Rattle.cos_text.proofs.Digits.{decimal-of, is-decimal}
use Rattle.cos_text.proofs.numbers.read_decimal.Goals as goal

pub returns-then-not-is_plain-clause-exact : goal.returns-then-not-is_plain-clause-exact
returns-then-not-is_plain-clause-exact c = λ n le e.
    let facts = is-decimal c.args.word.now n (omega arith) e in cc (c.is_plain.ensures.1 facts.plain)

pub returns-in_err-number-clause-exact : goal.returns-in_err-number-clause-exact
returns-in_err-number-clause-exact c = λ n le e.
    let facts = is-decimal c.args.word.now n (omega arith) e in
    let value = facts.value in
    cc (c.in_err-number.ensures.exact facts.all (omega arith))

pub returns-then-number-most-clause-some : goal.returns-then-number-most-clause-some
returns-then-number-most-clause-some c =
    (omega arith, decimal-of c.args.word.now c.in_ok-number.number c.in_ok-number.ensures.some.0 c.in_ok-number.ensures.some.1 (c.is_plain.ensures.0 (cc)) (omega arith))

pub returns-then-number-most-clause-exact : goal.returns-then-number-most-clause-exact
returns-then-number-most-clause-exact c = λ n le e.
    let facts = is-decimal c.args.word.now n (omega arith) e in ap Some (c.in_ok-number.ensures.some.1 ∙ facts.value)

pub returns-else-number-most-clause-exact : goal.returns-else-number-most-clause-exact
returns-else-number-most-clause-exact c = λ n le e.
    let facts = is-decimal c.args.word.now n (omega arith) e in
    let same : c.in_ok-number.number ≡ n = c.in_ok-number.ensures.some.1 ∙ facts.value in
    absurd (omega arith)
