use Rattle.std.proofs.Common.{◌∙◌, sym, arith}
use Rattle.rv_asm.specs.Numbers.{number}
use Rattle.rv_asm.proofs.Capped.{plain_of-read}
use Rattle.rv_asm.proofs.numbers.plain.Goals as goal

pub returns-in-Some : goal.returns-in-Some
returns-in-Some c =
    c.ranged.ensures ∙ plain_of-read c.args.low c.args.high (number c.args.text.now) c.in-Some.number (omega arith) (omega arith) (sym c.in-Some.is ∙ c.read_number.ensures)
