use Rattle.std.proofs.Common.{ap, ◌∙◌, take}
use Rattle.end_answers.proofs.Padding.{take-min}
use Rattle.end_answers.proofs.replies.front.Goals as goal

pub returns-clause-front : goal.returns-clause-front
returns-clause-front c =
    c.split_at.ensures.front ∙ ap (λ n. take n c.args.bytes.now) c.min.ensures ∙ take-min c.args.bytes.now
