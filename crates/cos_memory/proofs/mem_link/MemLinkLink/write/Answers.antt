use Rattle.cos_memory.specs.MemLinkLaws.{within-hears}
use Rattle.cos_memory.proofs.mem_link.MemLinkLink.write.Goals as goal

pub invariant_of-self-2 : goal.invariant_of-self-2
invariant_of-self-2 g c = record {
  within = within-hears (g.P.Peer.told c.args.self.now.peer) _ c.args.self.now.received.bytes c.args.from.now c.in-Ok.ensures.ok (g.met.P.Peer.grows c.args.self.now.peer) c.args.self.now.within;
}
