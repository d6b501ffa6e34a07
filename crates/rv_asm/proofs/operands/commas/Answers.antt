use Rattle.std.proofs.Common.{arith}
use Rattle.rv_asm.proofs.Commas.{length-drop_comma}
use Rattle.rv_asm.proofs.operands.commas.Goals as goal

pub loop-byte-preserved : goal.loop-byte-preserved
loop-byte-preserved c =
    (omega (arith, length-drop_comma c.args.text.now c.loop-byte.byte-index c.loop-byte-test.true), omega arith)
