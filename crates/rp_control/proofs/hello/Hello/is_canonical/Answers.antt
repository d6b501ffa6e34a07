use Rattle.std.proofs.Common.{arith}
use Rattle.rp_control.specs.ControlLaws.{tight-read, tight-there}
use Rattle.rp_control.proofs.hello.Hello.is_canonical.Goals as goal

pub returns-in-Ok-clause-exact : goal.returns-in-Ok-clause-exact
returns-in-Ok-clause-exact c = λ major minor caps is. (
  λ canonical. tight-there major minor caps c.args.body.now (record { each = λ i. omega (arith, c.type_inv.body i) }) is (c.is_tight.ensures.0 canonical),
  λ tight. c.is_tight.ensures.1 (tight-read major minor caps c.args.body.now is tight),
)
