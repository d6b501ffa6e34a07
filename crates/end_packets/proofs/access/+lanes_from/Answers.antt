use Rattle.std.proofs.Common.{◌<◌, ◌≤◌, arith}
use Rattle.end_packets.proofs.Values.{bits-small}
use Rattle.end_packets.proofs.access.+lanes_from.Goals as goal
use Rattle.end_packets.proofs.access.+lanes_from.Goals.{then-enabled, else-enabled}

pub returns-clause-small : goal.returns-clause-small
returns-clause-small t c =
    let low : c.if-enabled.first ≤ 1 = elim c.if-enabled.branch [ then-enabled w ↦ omega arith | else-enabled w ↦ omega arith ] in
    bits-small c.args.count c.lanes_from.result c.if-enabled.first (omega arith) low c.lanes_from.ensures.small
