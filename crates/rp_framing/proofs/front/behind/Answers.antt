use Rattle.std.proofs.Common.{sym, subst, arith, List, ℕ}
use Rattle.rp_header.specs.Numbers.{AreBytes}
use Rattle.rp_header.specs.NumberLaws.{AreBytes-drop}
use Rattle.rp_framing.proofs.front.behind.Goals as goal

pub returns-clause-bytes : goal.returns-clause-bytes
returns-clause-bytes c =
    subst (λ (b : List ℕ). AreBytes b) (sym c.split_at.ensures.back) (AreBytes-drop c.args.begin c.args.bytes.now (record { each = λ i. omega (arith, c.type_inv.bytes i) }))
