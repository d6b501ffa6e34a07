use Rattle.std.proofs.Common.{ap}
use Rattle.rp_busaccess.specs.Bits.{fields_of}
use Rattle.rp_packet.specs.Values.{value_of}
use Rattle.end_answers.proofs.Buses.{asked-write}
use Rattle.device_core.proofs.device.DeviceCore.answer.Goals as goal

pub answer_write-requires-clause-data : goal.answer_write-requires-clause-data
answer_write-requires-clause-data g c =
    (asked-write (value_of c.args.packet.now) (fields_of c.in-Write.bus) (ap (λ p. (value_of p).body) c.in-Write.is)
    c.requires.taken.0 c.requires.read).1
