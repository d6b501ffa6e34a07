use Rattle.std.proofs.Common.{ap}
use Rattle.rp_busaccess.specs.Bits.{fields_of}
use Rattle.rp_packet.specs.Values.{value_of}
use Rattle.end_answers.proofs.Buses.{asked-write}
use Rattle.machine_core.proofs.services.serve_packet.Goals as goal

pub serve_write-requires-clause-data : goal.serve_write-requires-clause-data
serve_write-requires-clause-data g c =
    let held = c.requires.held in
    (asked-write (value_of c.args.packet.now) (fields_of c.in-Write.bus) (ap (λ p. (value_of p).body) c.in-Write.is)
    held.asks held.read).1
