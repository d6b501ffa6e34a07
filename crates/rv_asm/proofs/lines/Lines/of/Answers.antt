use Rattle.std.proofs.Common.{rules}
use Rattle.rv_asm.specs.Programs.{program}
use Rattle.rv_asm.proofs.lines.Lines.of.Goals as goal

pub returns : goal.returns
unfolding program
returns c = search rules
