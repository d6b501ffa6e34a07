use Rattle.std.proofs.Common.{◌<◌, arith}
use Rattle.std.proofs.lemmas.Int.Digits.{digits_more}
use Rattle.cos_text.proofs.Digits.{digit-at, too-large, more-value}
use Rattle.cos_text.proofs.numbers.value_of.Goals as goal

pub returns-then-next-radix-clause-exact : goal.returns-then-next-radix-clause-exact
returns-then-next-radix-clause-exact c = λ all small.
    let digit = digit-at c.args.radix c.args.digits.now c.loop-byte.byte-index all (omega arith) in absurd (omega arith)

pub returns-in_err-checked_mul-clause-exact : goal.returns-in_err-checked_mul-clause-exact
returns-in_err-checked_mul-clause-exact c = λ all small.
    absurd (too-large c.args.radix c.loop-byte.value c.args.digits.now c.loop-byte.byte-index c.requires.low (omega arith) c.loop-byte.invariant.value (omega (arith, c.in_err-checked_mul.ensures)) small)

pub returns-in_err-value-clause-exact : goal.returns-in_err-value-clause-exact
returns-in_err-value-clause-exact c = λ all small.
    absurd (too-large c.args.radix c.loop-byte.value c.args.digits.now c.loop-byte.byte-index c.requires.low (omega arith) c.loop-byte.invariant.value (omega (arith, c.in_ok-checked_mul.ensures, c.in_err-value.ensures)) small)

pub loop-byte-preserved : goal.loop-byte-preserved
loop-byte-preserved c =
    let l = c.loop-byte in
    let digit : c.digit-next.result < c.args.radix = omega arith in
    record {
      value = more-value c.args.radix l.value _ _ _ c.args.digits.now l.byte-index (omega arith) l.invariant.value c.in_ok-checked_mul.ensures.1 c.digit-next.ensures c.in_ok-value.ensures.1;
      digits = digits_more c.args.radix c.args.digits.now l.byte-index (omega arith) l.invariant.digits (omega arith);
    }
