use Rattle.std.proofs.Common.{◌≡◌, ◌+◌, ◌*◌, ◌-◌, ◌≤◌, ◌++◌, length, drop}
use Rattle.rv_asm.specs.Listings.{more_operands}
use Rattle.rv_asm.proofs.listing.Operand.put_more.Given as goal

abbrev pub invariant-loop-operand : goal.invariant-loop-operand
invariant-loop-operand l =
    (l.out.bytes ++ more_operands (drop l.operand-index l.operands) ≡ l.initial.out.bytes ++ more_operands l.operands) × (26 * (length l.operands - l.operand-index) ≤ l.out.spare) × (l.initial.out.spare ≤ l.out.spare + 26 * l.operand-index)
