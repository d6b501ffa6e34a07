use Rattle.std.proofs.Common.{◌∙◌, arith}
use Rattle.cos_script.proofs.Fits.{line-more}
use Rattle.cos_script.proofs.lines.steps_of.Goals as goal

pub lines-preserved : goal.lines-preserved
lines-preserved c =
    let more = c.in_ok-add.ensures in
    record {
      counted = (let a = c.lines.invariant.counted in let b = c.first_line.ensures.shorter in omega arith);
      leads = c.lines.invariant.leads ∙ line-more c.args.ports c.lines.passed c.first_line.result.0.now c.lines.rest.now c.first_line.result.1.now _ _ more.0 c.first_line.ensures.lines more.1 more.2;
    }
