-- The program whose labels are kept.
use Rattle.std.specs.Prelude.{List}
use Rattle.rv_asm.specs.declared.labels.Labels.{Labels}
use Rattle.rv_asm.specs.Programs.{Placed, program}

abbrev pub lines_of : Labels → List Placed
lines_of labels = program labels.origin labels.text.now
