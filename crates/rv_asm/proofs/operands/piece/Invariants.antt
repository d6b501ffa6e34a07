use Rattle.std.proofs.Common.{◌≡◌}
use Rattle.std.specs.List.{slice_get}
use Rattle.rv_asm.specs.Texts.{between_commas}
use Rattle.rv_asm.proofs.operands.piece.Given as goal

abbrev pub invariant-commas : goal.invariant-commas
invariant-commas l = slice_get (between_commas l.text) l.index ≡ slice_get (between_commas l.rest) l.left

abbrev pub decreases-commas : goal.decreases-commas
decreases-commas l = l.left
