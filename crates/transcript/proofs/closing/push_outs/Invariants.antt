use Rattle.std.proofs.Common.{◌≡◌, ◌+◌, ◌≤◌, ◌++◌, take, sum_by}
use Rattle.std.specs.List.{flat_map}
use Rattle.transcript.specs.ClosingLines.{out_line, out_room}
use Rattle.transcript.proofs.closing.push_outs.Given as goal

abbrev pub invariant-loop-uart : goal.invariant-loop-uart
invariant-loop-uart l =
    (l.out.bytes ≡ l.fn.out.bytes ++ flat_map out_line (take l.uart-index l.uarts))
    × (l.fn.out.spare ≤ l.out.spare + sum_by out_room (take l.uart-index l.uarts))
