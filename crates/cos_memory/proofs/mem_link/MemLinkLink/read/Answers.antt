use Rattle.cos_memory.specs.MemLinkLaws.{within-reads}
use Rattle.cos_memory.proofs.mem_link.MemLinkLink.read.Goals as goal

pub invariant_of-self-2 : goal.invariant_of-self-2
invariant_of-self-2 g c = record {
  within = within-reads _ _ _ _ _ _ _ _ _ c.reserve.ensures.bytes c.len.ensures c.split_at.ensures.front c.push_spare.ensures.bytes c.said-count.ensures.bytes c.args.self.now.within;
}
