use Rattle.std.proofs.Common.{arith}
use Rattle.rp_busaccess.specs.BusLaws.{tight-bus}
use Rattle.rp_busaccess.proofs.bus.BusAccess.is_canonical.Goals as goal

pub returns-in-Ok-clause-exact : goal.returns-in-Ok-clause-exact
returns-in-Ok-clause-exact c = λ f is.
    let tight = tight-bus c.args.carries f c.args.body.now (record { each = λ i. omega (arith, c.type_inv.body i) }) is in
    (λ canonical. tight.0 (c.is_tight.ensures.0 canonical), λ is_tight. c.is_tight.ensures.1 (tight.1 is_tight))
