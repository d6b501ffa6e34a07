use Rattle.std.proofs.Common.{◌≡◌, ◌+◌, ◌≤◌, false, [], length, ap, ◌∙◌, arith}
use Rattle.cosim_model.specs.Values.{bits_of}
use Rattle.rp_busaccess.specs.Bits.{fields_of}
use Rattle.rp_busaccess.specs.Writing.{write_fault}
use Rattle.end_packets.proofs.Requests.{Asks, asks, length-bits}
use Rattle.end_packets.proofs.bus_place.BusPlace.put_read_request.Goals as goal

pub put_read-requires-clause-lawful : goal.put_read-requires-clause-lawful
put_read-requires-clause-lawful c =
    let r = c.args.request in
    let lanes : length (bits_of r.mask r.lanes) ≤ 64 = let n = length-bits r.mask r.lanes in let few = c.requires.lanes in omega (arith, n, few) in
    ap (λ t. write_fault t (fields_of c.fill_request.new.bus)) c.requires.asks
    ∙ (asks false (fields_of c.fill_request.new.bus) c.args.common r.time r.addr r.len [] (bits_of r.mask r.lanes) c.fill_request.ensures.fields (omega arith) (omega arith) lanes).lawful

pub put_read-requires-clause-room : goal.put_read-requires-clause-room
put_read-requires-clause-room c =
    let r = c.args.request in
    let lanes : length (bits_of r.mask r.lanes) ≤ 64 = let n = length-bits r.mask r.lanes in let few = c.requires.lanes in omega (arith, n, few) in
    let few = (asks false (fields_of c.fill_request.new.bus) c.args.common r.time r.addr r.len [] (bits_of r.mask r.lanes) c.fill_request.ensures.fields (omega arith) (omega arith) lanes).few in
    let room = c.requires.room in
    omega (arith, few, room)

pub returns-clause-spare : goal.returns-clause-spare
returns-clause-spare c =
    let r = c.args.request in
    let lanes : length (bits_of r.mask r.lanes) ≤ 64 = let n = length-bits r.mask r.lanes in let few = c.requires.lanes in omega (arith, n, few) in
    let few = (asks false (fields_of c.fill_request.new.bus) c.args.common r.time r.addr r.len [] (bits_of r.mask r.lanes) c.fill_request.ensures.fields (omega arith) (omega arith) lanes).few in
    let spare = c.put_read.ensures.spare in
    omega (arith, few, spare)
