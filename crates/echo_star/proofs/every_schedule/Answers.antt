use Rattle.std.proofs.Common.{[], ◌∷◌, ℕ, map, ap}
use Rattle.process_network.specs.Star.{StarWorld}
use Rattle.process_network.specs.PacketStar.{HubEnd, LeafEnd}
use Rattle.process_network.proofs.PacketRuns.{every_packet_run}
use Rattle.process_network.proofs.PacketRunEnd.{packets_halted}
use Rattle.echo_star.specs.Echoes.{Count, echo_ends, fresh_count, three_exchanges}
use Rattle.echo_star.proofs.Exchanges.{start, all_readable, over, ends, decided}
use Rattle.echo_star.proofs.every_schedule.Goals as goal

pub returns-clause-result : goal.returns-clause-result
returns-clause-result c = every_packet_run echo_ends decided (fresh_count 3) (0 ∷ 0 ∷ []) three_exchanges (all_readable start three_exchanges) over

pub returns-clause-halted : goal.returns-clause-halted
returns-clause-halted c steps halted =
    ap (λ (w : StarWorld (HubEnd Count) (LeafEnd ℕ)). map (λ (l : LeafEnd ℕ). l.core) w.leaves)
    (packets_halted echo_ends decided (fresh_count 3) (0 ∷ 0 ∷ []) three_exchanges (all_readable start three_exchanges) over ends steps halted)
