use Rattle.std.proofs.Common.{arith, length-drop, ◌∙◌}
use Rattle.rp_framing.proofs.SendLaws.{Sent-more}
use Rattle.rp_framing.proofs.sender.send.Goals as goal

pub pieces-preserved : goal.pieces-preserved
pieces-preserved g c =
    let wrote = c.in-Bytes.ensures in
    let back = c.split_at.ensures.back in (
      grind (arith, length-drop),
      wrote.counts ∙ c.pieces.invariant.1,
      Sent-more _ _ _ c.args.bytes.now _ c.pieces.at c.in-Bytes.count back c.pieces.invariant.2 wrote.tells,
      λ sound. (wrote.is_sound (c.pieces.invariant.3 sound)).0,
    )
