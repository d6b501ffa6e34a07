use Rattle.std.proofs.Common.{◌≡◌, ◌∷◌, ◌<◌, ◌≤◌, ◌+◌, ◌*◌, ◌^◌, length, get_or, arith}
use Rattle.end_packets.proofs.Values.{leads, Leads}
use Rattle.end_packets.proofs.access.+value_of.Goals as goal

pub value_of-requires : goal.value_of-requires
value_of-requires t c =
    let size = c.in-Some.ensures.cases.1 in
    let few : length c.in-Some.rest.now ≤ 8 = omega arith in
    (let d = c.decreases in omega (arith, d), few)

pub overflow_mul-result : goal.overflow_mul-result
overflow_mul-result t c =
    let byte : get_or c.args.bytes.now 0 0 < 256 = omega (arith, c.type_inv.bytes 0) in
    let is = leads c.args.bytes.now c.in-Some.rest.now c.in-Some.first.now c.from.result c.value_of.result c.in-Some.ensures.cases.0 c.from.ensures c.requires byte c.value_of.ensures.small in
    omega (arith, is.fits, is.small)

pub overflow_add-result : goal.overflow_add-result
overflow_add-result t c =
    let byte : get_or c.args.bytes.now 0 0 < 256 = omega (arith, c.type_inv.bytes 0) in
    let is = leads c.args.bytes.now c.in-Some.rest.now c.in-Some.first.now c.from.result c.value_of.result c.in-Some.ensures.cases.0 c.from.ensures c.requires byte c.value_of.ensures.small in
    omega (arith, is.fits, is.small)

pub returns-in-Some-clause-small : goal.returns-in-Some-clause-small
returns-in-Some-clause-small t c =
    let byte : get_or c.args.bytes.now 0 0 < 256 = omega (arith, c.type_inv.bytes 0) in
    (leads c.args.bytes.now c.in-Some.rest.now c.in-Some.first.now c.from.result c.value_of.result c.in-Some.ensures.cases.0 c.from.ensures c.requires byte c.value_of.ensures.small).fits
