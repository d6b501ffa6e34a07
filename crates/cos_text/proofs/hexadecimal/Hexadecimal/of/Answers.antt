use Rattle.std.proofs.Common.{length-set, refl, sym, ◌∙◌, arith}
use Rattle.std.specs.Fmt.{digits}
use Rattle.cos_text.proofs.HexDigits.{written-more, written-all}
use Rattle.cos_text.proofs.hexadecimal.Hexadecimal.of.Goals as goal

pub digits-init : goal.digits-init
unfolding digits
digits-init c = (refl, omega arith, omega arith, refl)

pub digits-preserved : goal.digits-preserved
digits-preserved c =
    let inv = c.digits.invariant in
    let step = written-more c.args.number c.digits.front c.digits.start c.digits.digits c.digit.result inv.0 c.digits-test.true inv.1 inv.2 c.digit.ensures inv.3 in
    (length-set c.digits.digits c.digits.start c.digit.result ∙ inv.0, step.0, step.1, step.2)

pub returns : goal.returns
returns c =
    let inv = c.digits.invariant in
    sym (written-all c.args.number c.digits.front c.digits.start c.digits.digits c.digit-2.result inv.0 c.digits-test.false inv.1 c.digit-2.ensures inv.3)
