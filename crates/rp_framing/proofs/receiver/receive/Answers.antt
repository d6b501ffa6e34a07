use Rattle.std.proofs.Common.{◌∙◌}
use Rattle.rp_framing.proofs.ReceiveLaws.{goes-more, gives-failure}
use Rattle.rp_framing.proofs.receiver.receive.Goals as goal

pub reads-preserved : goal.reads-preserved
reads-preserved g c =
    let none = rw c.in-Ok-None.field-0-is at c.in-Ok-None.ensures.nexts in
    let more = rw c.in-Ok-More.field-0-is at c.in-Ok-More.ensures.pulls in
    record {
      counts = c.in-Ok-More.ensures.counts ∙ c.reads.invariant.counts;
      is_sound = λ sound. (c.in-Ok-More.ensures.is_sound (c.reads.invariant.is_sound sound)).0;
      goes = goes-more _ _ _ _ _ _ _ c.reads.invariant.goes none more;
    }

pub returns-in-Err-clause-receives : goal.returns-in-Err-clause-receives
returns-in-Err-clause-receives g c =
    let none = rw c.in-Ok-None.field-0-is at c.in-Ok-None.ensures.nexts in
    gives-failure _ _ _ _ _ _ _ _ c.reads.invariant.goes none c.in-Err.ensures.pulls
