use Rattle.std.proofs.Common.{ap}
use Rattle.std.specs.Prelude.{option_map}
use Rattle.rp_packet.specs.Values.{value_of}
use Rattle.machine_core.proofs.Few.{few-served}
use Rattle.machine_core.proofs.port.MachinePort.serve.Goals as goal

pub serve_packet-requires-clause-held : goal.serve_packet-requires-clause-held
serve_packet-requires-clause-held g c =
    c.self.invariant.held (value_of c.in-Some.packet) (ap (λ o. option_map value_of o) c.in-Some.is)

pub returns-clause-few : goal.returns-clause-few
returns-clause-few g c =
    let p = value_of c.in-Some.packet in
    let held = c.self.invariant.held p (ap (λ o. option_map value_of o) c.in-Some.is) in
    few-served g.M.Master.model g.met.M.Master.lawful c.args.master.now c.args.tick c.args.port p held.kind
    c.args.out.now.bytes c.serve_packet.new.out.bytes c.in_ok-answered-in-Some.answered
    (c.in_ok-answered-in-Some.ensures.bytes)
