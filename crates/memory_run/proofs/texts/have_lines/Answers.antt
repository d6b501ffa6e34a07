use Rattle.std.proofs.Common.{All, subst}
use Rattle.std.proofs.lemmas.List.{take_all}
use Rattle.transcript.specs.CallLines.{HasLine}
use Rattle.memory_run.proofs.Counting.{all-next}
use Rattle.memory_run.proofs.texts.have_lines.Goals as goal

pub loop-call-preserved : goal.loop-call-preserved
loop-call-preserved c =
    all-next HasLine c.loop-call.call-index c.args.calls.now _ c.loop-call-test.true c.loop-call.invariant
    (c.has_line.ensures c.if-not-has_line.false)

pub returns : goal.returns
returns c = λ yes. subst (All HasLine) (take_all c.loop-call.call-index c.args.calls.now c.loop-call-test.false) c.loop-call.invariant
