use Rattle.std.proofs.Common.{sym, ap, arith, ◌∙◌, ◌++◌, List, ℕ, length, drop, replicate}
use Rattle.std.proofs.lemmas.List.{drop-replicate}
use Rattle.dev_line.specs.Chunks.{chunk_of, chunk_of-is}
use Rattle.dev_line.proofs.chunks.chunk.Goals as goal

pub returns : goal.returns
returns c =
    let bytes = c.args.bytes.now in
    ap (λ (front : List ℕ). front ++ drop (length bytes) (replicate 64 0)) c.copy_from_slice.ensures.after
    ∙ ap (λ (rest : List ℕ). bytes ++ rest) (drop-replicate (length bytes) 64 0)
    ∙ sym (chunk_of-is bytes c.requires (λ i. omega (arith, c.type_inv.bytes i)))
