use Rattle.std.proofs.Common.{ℕ, ◌+◌, List, sym, subst, ◌∙◌}
use Rattle.packet_counts.proofs.Counting.{Counting, none-found, counting-goes, counting-ends}
use Rattle.packet_counts.proofs.count.count_packets.Goals as goal

pub packets-preserved : goal.packets-preserved
packets-preserved c =
    subst (λ (b : List ℕ). Counting c.args.bytes.now b (c.packets.count + 1)) (sym c.split_at.ensures.back)
    (counting-goes c.args.bytes.now c.packets.rest.now c.packets.count c.in-Some.size
    (sym c.front_size.ensures ∙ c.in-Some.is) c.packets.invariant)

pub returns : goal.returns
returns c =
    counting-ends c.args.bytes.now c.packets.rest.now c.packets.count
    (none-found c.packets.rest.now c.front_size.result c.front_size.ensures c.in_default.not-Some) c.packets.invariant
