use Rattle.std.proofs.Common.{◌∙◌, arith}
use Rattle.rp_control.specs.ControlLaws.{IsInterrupt-there, IsInterrupt-read}
use Rattle.rp_control.proofs.interrupt.Interrupt.read.Goals as goal

pub returns-clause-ok : goal.returns-clause-ok
returns-clause-ok c =
    rw (c.u64_at.ensures, c.u64_at-2.ensures, c.u32_at.ensures, c.u8_at.ensures)
    (IsInterrupt-there c.args.body.now (record { each = λ i. omega (arith, c.type_inv.body i) }) c.if-body-lt21.false)

pub returns-clause-exact : goal.returns-clause-exact
returns-clause-exact c = λ time vector line val is.
    let read = IsInterrupt-read time vector line val c.args.body.now is in
    (c.u64_at.ensures ∙ read.0, c.u64_at-2.ensures ∙ read.1, c.u32_at.ensures ∙ read.2, c.u8_at.ensures ∙ read.3)
