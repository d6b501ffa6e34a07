use Rattle.std.proofs.Common.{All, take}
use Rattle.transcript.specs.CallLines.{HasLine}
use Rattle.memory_run.proofs.texts.have_lines.Given as goal

abbrev pub invariant-loop-call : goal.invariant-loop-call
invariant-loop-call l = All HasLine (take l.call-index l.calls)
