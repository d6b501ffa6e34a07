use Rattle.std.proofs.Common.{◌≡◌, ◌+◌, ◌≤◌, ◌++◌, true, not, [], length, ap, ◌∙◌, arith}
use Rattle.cosim_model.specs.Values.{bits_of}
use Rattle.cosim_model.specs.Packets.{BusFields}
use Rattle.ends_model.specs.DeviceTurn.{request_fields}
use Rattle.rp_busaccess.specs.Bits.{fields_of}
use Rattle.rp_busaccess.specs.Writing.{write_fault}
use Rattle.end_packets.proofs.Requests.{Asks, asks, with_payload, length-bits}
use Rattle.end_packets.proofs.bus_place.BusPlace.put_write_request.Goals as goal

pub put_write-requires-clause-lawful : goal.put_write-requires-clause-lawful
put_write-requires-clause-lawful c =
    let r = c.args.request in
    let lanes : length (bits_of r.mask r.lanes) ≤ 64 = let n = length-bits r.mask r.lanes in let few = c.requires.lanes in omega (arith, n, few) in
    let f = with_payload (fields_of c.fill_request.new.bus) c.push_spare.new.self.bytes in
    let is = ap (λ b. with_payload b c.push_spare.new.self.bytes) c.fill_request.ensures.fields
    ∙ ap (λ x. with_payload (request_fields c.args.common r.time r.addr r.len [] (bits_of r.mask r.lanes)) x) (c.push_spare.ensures.bytes ∙ ap (λ o. o.bytes ++ c.args.bytes.now) c.fill_request.ensures.payload ∙ ap (λ x. x ++ c.args.bytes.now) c.self.invariant.0) in
    ap (λ t. write_fault (not t) f) c.requires.asks
    ∙ (asks true f c.args.common r.time r.addr r.len c.args.bytes.now (bits_of r.mask r.lanes) is c.requires.size c.requires.few lanes).lawful

pub put_write-requires-clause-room : goal.put_write-requires-clause-room
put_write-requires-clause-room c =
    let r = c.args.request in
    let lanes : length (bits_of r.mask r.lanes) ≤ 64 = let n = length-bits r.mask r.lanes in let few = c.requires.lanes in omega (arith, n, few) in
    let f = with_payload (fields_of c.fill_request.new.bus) c.push_spare.new.self.bytes in
    let is = ap (λ b. with_payload b c.push_spare.new.self.bytes) c.fill_request.ensures.fields
    ∙ ap (λ x. with_payload (request_fields c.args.common r.time r.addr r.len [] (bits_of r.mask r.lanes)) x) (c.push_spare.ensures.bytes ∙ ap (λ o. o.bytes ++ c.args.bytes.now) c.fill_request.ensures.payload ∙ ap (λ x. x ++ c.args.bytes.now) c.self.invariant.0) in
    let few = (asks true f c.args.common r.time r.addr r.len c.args.bytes.now (bits_of r.mask r.lanes) is c.requires.size c.requires.few lanes).few in
    let room = c.requires.room in
    omega (arith, few, room)

pub returns-clause-spare : goal.returns-clause-spare
returns-clause-spare c =
    let r = c.args.request in
    let lanes : length (bits_of r.mask r.lanes) ≤ 64 = let n = length-bits r.mask r.lanes in let few = c.requires.lanes in omega (arith, n, few) in
    let f = with_payload (fields_of c.fill_request.new.bus) c.push_spare.new.self.bytes in
    let is = ap (λ b. with_payload b c.push_spare.new.self.bytes) c.fill_request.ensures.fields
    ∙ ap (λ x. with_payload (request_fields c.args.common r.time r.addr r.len [] (bits_of r.mask r.lanes)) x) (c.push_spare.ensures.bytes ∙ ap (λ o. o.bytes ++ c.args.bytes.now) c.fill_request.ensures.payload ∙ ap (λ x. x ++ c.args.bytes.now) c.self.invariant.0) in
    let few = (asks true f c.args.common r.time r.addr r.len c.args.bytes.now (bits_of r.mask r.lanes) is c.requires.size c.requires.few lanes).few in
    let spare = c.put_write.ensures.spare in
    omega (arith, few, spare)
