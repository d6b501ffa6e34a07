use Rattle.std.proofs.Common.{ℕ, List, ◌++◌, ap, ◌∙◌, arith}
use Rattle.rv_asm.specs.Listings.{line_text}
use Rattle.rv_asm.proofs.ReadBack.{line-means}
use Rattle.rv_asm.proofs.disassembly.disassemble.Goals as goal

pub returns-clause-assembles : goal.returns-clause-assembles
returns-clause-assembles c =
    let line : List ℕ = line_text c.args.word c.put_line.ensures.0 in
    (line, c.put_line.ensures.2 ∙ ap (λ bytes. bytes ++ line) c.reserve.ensures.bytes, line-means c.args.word c.put_line.ensures.0 (omega arith) c.put_line.ensures.1)
