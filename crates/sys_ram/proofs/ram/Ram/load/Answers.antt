use Rattle.std.proofs.Common.{arith, length, ◌≤◌, ◌∙◌, sym}
use Rattle.std.proofs.lemmas.Bool.{eqb-false}
use Rattle.sys_ram.proofs.Writing.{written_from-all}
use Rattle.sys_ram.proofs.ram.Ram.load.Goals as goal

pub returns : goal.returns
returns c =
    let some = eqb-false (length c.args.image.now) 0 (sym c.is_empty.ensures ∙ c.if-is_empty.false) in
    let room : length c.args.image.now ≤ length c.args.self.now = omega (arith, c.size-size.ensures.size) in (
      omega (arith, some),
      room,
      c.in_ok-put.ensures.ok ∙ written_from-all c.args.self.now 0 c.args.image.now 0 (omega (arith, room)),
    )
