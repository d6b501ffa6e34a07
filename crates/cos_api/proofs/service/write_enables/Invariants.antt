use Rattle.std.proofs.Common.{◌≡◌, ◌-◌, ◌++◌, length, take}
use Rattle.cos_api.specs.Lanes.{bit_bytes}
use Rattle.cos_api.proofs.service.write_enables.Given as goal

abbrev pub invariant-loop-at : goal.invariant-loop-at
invariant-loop-at l = take l.at l.out ++ bit_bytes l.left (length l.out - l.at) ≡ bit_bytes l.fn.mask (length l.fn.out)
