use Rattle.process_network.specs.Network.{outcome, turns}
use Rattle.process_network.proofs.ReachableWorlds.{final_closed}
use Rattle.process_network.proofs.QuiescentWorlds.{script_final}
use Rattle.process_network.proofs.TalkFixedPoint.{talk_settles}
use Rattle.process_network.proofs.talk_settles.Goals as goal

pub returns : goal.returns
returns g c script nodes quiescent small node said honest =
    let net = g.S.Node.net in
    let monotone = g.met.S.Node.monotone in
    let f = outcome net script in
    talk_settles net monotone f.sent (final_closed net f (turns net script) (script_final net monotone script quiescent)) node said honest nodes (λ j l. small.sent_from j node l)
