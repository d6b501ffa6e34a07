use Rattle.std.proofs.Common.{[], ◌∷◌, false}
use Rattle.relay_network.proofs.RelayRun.{every_relayed_run}
use Rattle.relay_network.proofs.RelayDone.{hub_stops, relays_halted}
use Rattle.echo_star.specs.Echoes.{echo_ends, fresh_count, three_exchanges}
use Rattle.echo_star.specs.Relayed.{echo_relays}
use Rattle.echo_star.proofs.Exchanges.{start, all_readable, all_pass, over, ends, decided}
use Rattle.echo_star.proofs.every_relayed_schedule.Goals as goal

pub returns-clause-result : goal.returns-clause-result
returns-clause-result c = every_relayed_run echo_ends decided echo_relays (fresh_count 3) false (0 ∷ 0 ∷ []) three_exchanges all_pass over

pub returns-clause-halted : goal.returns-clause-halted
returns-clause-halted c steps h here halted =
    relays_halted echo_ends decided echo_relays (fresh_count 3) false (0 ∷ 0 ∷ []) three_exchanges all_pass over (all_readable start three_exchanges) ends steps
    (hub_stops echo_ends echo_relays (fresh_count 3) false (0 ∷ 0 ∷ []) steps h here halted)
