use Rattle.std.proofs.Common.{◌≡◌, ◌+◌, ◌*◌, ◌≤◌, ◌++◌, length, take}
use Rattle.std.specs.List.{flat_map}
use Rattle.transcript.specs.ClosingLines.{register_text}
use Rattle.transcript.proofs.closing.push_registers.Given as goal

abbrev pub invariant-loop-register : goal.invariant-loop-register
invariant-loop-register l =
    (l.out.bytes ≡ l.fn.out.bytes ++ flat_map register_text (take l.register-index l.registers))
    × (l.fn.out.spare ≤ l.out.spare + 9 * l.register-index)
    × (length l.out.bytes + l.out.spare ≡ length l.fn.out.bytes + l.fn.out.spare)
