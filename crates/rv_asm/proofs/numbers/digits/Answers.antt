use Rattle.std.proofs.Common.{◌∙◌, arith}
use Rattle.rv_asm.proofs.Capped.{numeral_after-step}
use Rattle.rv_asm.proofs.numbers.digits.Goals as goal

pub loop-byte-preserved : goal.loop-byte-preserved
loop-byte-preserved c =
    (omega arith, c.loop-byte.invariant.1 ∙ numeral_after-step c.args.radix c.loop-byte.value c.min-value.result c.args.text.now c.loop-byte.byte-index (omega arith) (omega arith) (omega arith) (omega arith))
