use Rattle.std.proofs.Common.{◌≡◌, ◌+◌, take, sum_by}
use Rattle.transcript.specs.ClosingLines.{out_room}
use Rattle.transcript.proofs.closing.room_of.Given as goal

abbrev pub invariant-loop-uart : goal.invariant-loop-uart
invariant-loop-uart l = l.room ≡ 500 + sum_by out_room (take l.uart-index l.uarts)
