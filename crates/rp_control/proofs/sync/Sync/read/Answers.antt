use Rattle.std.proofs.Common.{◌∙◌, arith}
use Rattle.rp_control.specs.ControlLaws.{IsSync-there, IsSync-read}
use Rattle.rp_control.proofs.sync.Sync.read.Goals as goal

pub returns-clause-ok : goal.returns-clause-ok
returns-clause-ok c = rw (c.u64_at.ensures) (IsSync-there c.args.body.now (record { each = λ i. omega (arith, c.type_inv.body i) }) c.if-body-lt8.false)

pub returns-clause-exact : goal.returns-clause-exact
returns-clause-exact c = λ time is. c.u64_at.ensures ∙ IsSync-read time c.args.body.now is
