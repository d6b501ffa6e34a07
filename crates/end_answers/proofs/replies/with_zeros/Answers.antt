use Rattle.std.proofs.Common.{ap, ◌∙◌, ◌++◌, List, ℕ, length, drop}
use Rattle.std.specs.Prelude.{replicate}
use Rattle.std.proofs.lemmas.List.{drop-replicate}
use Rattle.end_answers.proofs.replies.with_zeros.Goals as goal

pub returns : goal.returns
returns c =
    let bytes = c.args.bytes.now in
    ap (λ (front : List ℕ). front ++ drop (length bytes) (replicate 64 0)) c.copy_from_slice.ensures.after
    ∙ ap (λ (rest : List ℕ). bytes ++ rest) (drop-replicate (length bytes) 64 0)
