use Rattle.std.proofs.Common.{◌≡◌, take, length, All, IfSome}
use Rattle.cos_base.specs.Links.{IsFresh}
use Rattle.outcomes.specs.Seen.{seen}
use Rattle.port_children.specs.Peers.{sockets_of, words_from}
use Rattle.port_children.specs.Steps.{IsGiven, AreStarted}
use Rattle.port_children.proofs.opening.open_links.Given as goal

abbrev pub invariant-ports : goal.invariant-ports
invariant-ports g l = record {
  given : IsGiven (sockets_of l.ports) l.links.items (seen g.N.Network.count g.N.Network.told l.fn.net l.net);
  started : AreStarted (take l.index (words_from l.program l.config 0 (sockets_of l.ports))) l.numbers.items
      (seen g.S.Spawner.count g.S.Spawner.told l.fn.children l.children);
  each_link : length l.links.items ≡ l.index;
  each_child : length l.numbers.items ≡ l.index;
  each_listener : length l.listeners ≡ length l.ports;
  fresh : All (λ x. IfSome (g.N.Link.Link.told x) IsFresh) l.links.items;
  sound_net : g.N.Network.sound l.fn.net → g.N.Network.sound l.net × All g.N.Link.Link.sound l.links.items;
  sound_children : g.S.Spawner.sound l.fn.children → g.S.Spawner.sound l.children;
}
