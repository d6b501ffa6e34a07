use Rattle.std.proofs.Common.{◌≡◌, [], take, length}
use Rattle.outcomes.specs.Seen.{seen}
use Rattle.port_children.specs.Peers.{sockets_of}
use Rattle.port_children.specs.Steps.{IsGiven}
use Rattle.port_children.proofs.opening.listen_all.Given as goal

abbrev pub invariant-ports : goal.invariant-ports
invariant-ports g l = record {
  given : IsGiven (sockets_of (take l.port-index l.ports)) [] (seen g.N.Network.count g.N.Network.told l.fn.net l.net);
  each : length l.listeners ≡ l.port-index;
  is_sound : g.N.Network.sound l.fn.net → g.N.Network.sound l.net;
}
