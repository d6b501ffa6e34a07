use Rattle.std.proofs.Common.{ap, ◌∙◌}
use Rattle.process_network.specs.CalmRun.{moves_taken}
use Rattle.process_network.specs.PacketStar.{star_of, packets_start}
use Rattle.process_network.proofs.PacketRuns.{ends_monotone, every_packet_run, start_in_bytes, turns_in_bytes}
use Rattle.process_network.proofs.PacketRunEnd.{packets_halted}
use Rattle.process_network.proofs.every_packet_schedule.Goals as goal

pub returns-clause-monotone : goal.returns-clause-monotone
returns-clause-monotone g c = ends_monotone g.H.PacketHub.ends g.met.H.PacketHub.decided

pub returns-clause-result : goal.returns-clause-result
returns-clause-result g c hub leaves moves good over = every_packet_run g.H.PacketHub.ends g.met.H.PacketHub.decided hub leaves moves good over

pub returns-clause-turns : goal.returns-clause-turns
returns-clause-turns g c hub leaves moves good =
    let e = g.H.PacketHub.ends in
    ap (λ v. moves_taken (star_of e) v moves) (start_in_bytes e g.met.H.PacketHub.decided hub leaves) ∙ turns_in_bytes e g.met.H.PacketHub.decided (packets_start hub leaves) moves good

pub returns-clause-halted : goal.returns-clause-halted
returns-clause-halted g c hub leaves moves good over ends steps halted = packets_halted g.H.PacketHub.ends g.met.H.PacketHub.decided hub leaves moves good over ends steps halted
