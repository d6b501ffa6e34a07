use Rattle.std.proofs.Common.{◌≡◌, sym, ap, ◌∙◌, Some, drop, arith}
use Rattle.std.proofs.lemmas.Slice.Eq.{slice_eq-Decides}
use Rattle.std.proofs.lemmas.Bool.Decides.{Decides-eqb}
use Rattle.cos_text.specs.Numbers.{hexadecimal}
use Rattle.cos_text.proofs.Digits.{is-hex}
use Rattle.cos_text.proofs.numbers.read_hexadecimal.Goals as goal

pub returns-in_err-number-clause-exact : goal.returns-in_err-number-clause-exact
returns-in_err-number-clause-exact c = λ n small e.
    let facts = is-hex c.args.word.now c.in_ok-digits.digits.now n small e c.in_ok-digits.ensures.cases.1 in
    let value = facts.value in
    cc (c.in_err-number.ensures.exact facts.all (omega arith))

pub returns-then-eq-clause-exact : goal.returns-then-eq-clause-exact
returns-then-eq-clause-exact c = λ n small e.
    let facts = is-hex c.args.word.now c.in_ok-digits.digits.now n small e c.in_ok-digits.ensures.cases.1 in ap Some (c.in_ok-number.ensures.some.1 ∙ facts.value)

pub returns-else-eq-clause-exact : goal.returns-else-eq-clause-exact
returns-else-eq-clause-exact c = λ n small e.
    let facts = is-hex c.args.word.now c.in_ok-digits.digits.now n small e c.in_ok-digits.ensures.cases.1 in
    let same : c.in_ok-number.number ≡ n = c.in_ok-number.ensures.some.1 ∙ facts.value in
    let text = c.as_slice.ensures.bytes ∙ c.of.ensures ∙ ap hexadecimal same ∙ sym (c.in_ok-digits.ensures.cases.1 ∙ ap (drop 2) e) in
    cc ((slice_eq-Decides Decides-eqb _ _ _ c.eq.ensures).1 text)
