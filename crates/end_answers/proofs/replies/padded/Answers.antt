use Rattle.std.proofs.Common.{ap, ◌∙◌, ◌-◌, ◌++◌, List, ℕ, length}
use Rattle.std.specs.Prelude.{replicate}
use Rattle.end_answers.proofs.Padding.{front-padded}
use Rattle.end_answers.proofs.replies.padded.Goals as goal

pub returns : goal.returns
returns c = c.with_zeros.ensures
    ∙ ap (λ (bytes : List ℕ). bytes ++ replicate (64 - length bytes) 0) c.front.ensures.front
    ∙ front-padded c.args.bytes.now
