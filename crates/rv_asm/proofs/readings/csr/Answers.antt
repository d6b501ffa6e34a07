use Rattle.std.proofs.Common.{◌∙◌, sym}
use Rattle.rv_asm.proofs.Capped.{csr-read}
use Rattle.rv_asm.proofs.readings.csr.Goals as goal

pub returns-in-Some-read_number : goal.returns-in-Some-read_number
returns-in-Some-read_number c =
    c.ranged.ensures ∙ csr-read c.args.text.now c.in-Some-read_number.number (sym c.numbered.ensures ∙ c.in_default.is) (sym c.in-Some-read_number.is ∙ c.read_number.ensures)
