-- What lines of the program's own types stand for.
use Rattle.std.specs.Prelude.{◌+◌, List, option_copied}
use Rattle.rv_asm.specs.declared.lines.Line.{Line}
use Rattle.rv_asm.specs.declared.lines.Lines.{Lines}
use Rattle.cos_text.specs.Lines.{lines}
use Rattle.rv_asm.specs.Programs.{Placed, placed_from}

abbrev pub seen : Line → Placed
seen line =
    record {
      number = line.number;
      address = line.address;
      label = option_copied line.label;
      statement = line.statement.now;
    }

-- the lines that are left
abbrev pub left : Lines → List Placed
left l = placed_from (l.passed + 1) l.address (lines l.rest.now)
