use Rattle.std.proofs.Common.{◌∙◌, arith}
use Rattle.rp_control.specs.ControlLaws.{IsCfg-there, IsCfg-read}
use Rattle.rp_control.proofs.cfg.Cfg.read.Goals as goal

pub returns-clause-ok : goal.returns-clause-ok
returns-clause-ok c = rw (c.u32_at.ensures, c.u8_at.ensures) (IsCfg-there c.args.body.now (record { each = λ i. omega (arith, c.type_inv.body i) }) c.if-body-lt5.false)

pub returns-clause-exact : goal.returns-clause-exact
returns-clause-exact c = λ opt set is.
    let read = IsCfg-read opt set c.args.body.now is in
    (c.u32_at.ensures ∙ read.0, c.u8_at.ensures ∙ read.1)
