use Rattle.std.proofs.Common.{◌≤◌, arith}
use Rattle.end_packets.proofs.Values.{bits-small}
use Rattle.machine_core.proofs.EnabledBytes.{bits-few, bits-fit}
use Rattle.machine_core.proofs.lanes.+mask_from.Goals as goal
use Rattle.machine_core.proofs.lanes.+mask_from.Goals.{then-enabled, else-enabled}

pub overflow_mul-result : goal.overflow_mul-result
overflow_mul-result t c =
    let fits = bits-fit c.args.count c.mask_from.result (omega arith) c.requires.few c.mask_from.ensures.small in
    omega (arith, fits)

pub overflow_add-result : goal.overflow_add-result
overflow_add-result t c =
    let low : c.if-enabled.first ≤ 1 = elim c.if-enabled.branch [ then-enabled w ↦ omega arith | else-enabled w ↦ omega arith ] in
    let fits = bits-few c.args.count c.mask_from.result c.if-enabled.first (omega arith) low c.requires.few c.mask_from.ensures.small in
    omega (arith, fits)

pub returns-clause-small : goal.returns-clause-small
returns-clause-small t c =
    let low : c.if-enabled.first ≤ 1 = elim c.if-enabled.branch [ then-enabled w ↦ omega arith | else-enabled w ↦ omega arith ] in
    bits-small c.args.count c.mask_from.result c.if-enabled.first (omega arith) low c.mask_from.ensures.small
