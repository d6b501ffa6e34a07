use Rattle.std.proofs.Common.{◌≡◌, ◌++◌, List, length}
use Rattle.rv_asm.specs.Programs.{Placed, program}
use Rattle.rv_asm.specs.Statements.{Assembles}
use Rattle.rv_asm.specs.Views.{left}
use Rattle.rv_asm.proofs.assembly.assemble.Given as goal

abbrev pub invariant-lines : goal.invariant-lines
invariant-lines l =
    (passed : List Placed) × (program l.origin l.text ≡ passed ++ left l.lines) × Assembles (program l.origin l.text) passed l.words

abbrev pub decreases-lines : goal.decreases-lines
decreases-lines l = length (left l.lines)
