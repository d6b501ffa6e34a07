use Rattle.std.proofs.Common.{◌≡◌, ◌++◌, ◌+◌, ◌*◌, take}
use Rattle.rp_control.specs.Controls.{caps_bytes}
use Rattle.rp_control.proofs.hello.put_numbers.Given as goal

abbrev pub invariant-loop-number : goal.invariant-loop-number
invariant-loop-number l =
    (l.out.bytes ≡ l.fn.out.bytes ++ caps_bytes (take l.number-index l.numbers))
    × (l.out.spare + 4 * l.number-index ≡ l.fn.out.spare)
