use Rattle.relay_network.proofs.RelayPackets.{relays_monotone}
use Rattle.relay_network.proofs.RelayRun.{every_relayed_run, relayed_end, relayed_bound}
use Rattle.relay_network.proofs.RelayDone.{hub_stops, relays_halted}
use Rattle.relay_network.proofs.every_relayed_schedule.Goals as goal

pub returns-clause-monotone : goal.returns-clause-monotone
returns-clause-monotone g c = relays_monotone g.H.RelayedHub.ends g.H.RelayedHub.relays g.met.H.RelayedHub.decided

pub returns-clause-result : goal.returns-clause-result
returns-clause-result g c hub relay leaves moves pass over = every_relayed_run g.H.RelayedHub.ends g.met.H.RelayedHub.decided g.H.RelayedHub.relays hub relay leaves moves pass over

pub returns-clause-same : goal.returns-clause-same
returns-clause-same g c hub relay leaves moves pass over = relayed_end g.H.RelayedHub.ends g.met.H.RelayedHub.decided g.H.RelayedHub.relays hub relay leaves moves pass over

pub returns-clause-bound : goal.returns-clause-bound
returns-clause-bound g c hub relay leaves moves pass over steps = relayed_bound g.H.RelayedHub.ends g.met.H.RelayedHub.decided g.H.RelayedHub.relays hub relay leaves moves pass over steps

pub returns-clause-halted : goal.returns-clause-halted
returns-clause-halted g c hub relay leaves moves pass over good ends steps h here halted =
    let e = g.H.RelayedHub.ends in
    let k = g.H.RelayedHub.relays in
    relays_halted e g.met.H.RelayedHub.decided k hub relay leaves moves pass over good ends steps (hub_stops e k hub relay leaves steps h here halted)
