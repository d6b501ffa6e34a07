use Rattle.std.proofs.Common.{◌<◌, arith}
use Rattle.cos_api.proofs.Digits.{digits-fit, digits-small}
use Rattle.cos_api.proofs.answers.+enabled_bytes.Goals as goal
use Rattle.cos_api.proofs.answers.+enabled_bytes.Goals.{then-lanes-eq1, else-lanes-eq1}

pub overflow_mul-result : goal.overflow_mul-result
overflow_mul-result t c = omega (arith, digits-fit c.args.size c.enabled_bytes-rest.result 0 c.requires (omega arith) c.enabled_bytes-rest.ensures.small (omega arith), digits-small c.args.size c.requires)

pub overflow_add-result : goal.overflow_add-result
overflow_add-result t c =
    let low : c.if-lanes-eq1.byte < 256 = elim c.if-lanes-eq1.branch [ then-lanes-eq1 w ↦ omega arith | else-lanes-eq1 w ↦ omega arith ] in
    omega (arith, digits-fit c.args.size c.enabled_bytes-rest.result c.if-lanes-eq1.byte c.requires (omega arith) c.enabled_bytes-rest.ensures.small low, digits-small c.args.size c.requires)

pub returns-clause-small : goal.returns-clause-small
returns-clause-small t c =
    let low : c.if-lanes-eq1.byte < 256 = elim c.if-lanes-eq1.branch [ then-lanes-eq1 w ↦ omega arith | else-lanes-eq1 w ↦ omega arith ] in
    digits-fit c.args.size c.enabled_bytes-rest.result c.if-lanes-eq1.byte c.requires (omega arith) c.enabled_bytes-rest.ensures.small low
