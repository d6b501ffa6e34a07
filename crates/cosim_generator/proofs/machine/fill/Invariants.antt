use Rattle.std.proofs.Common.{◌≡◌, take}
use Rattle.cosim_generator.specs.Programs.{after, drawn_bytes}
use Rattle.cosim_generator.proofs.machine.fill.Given as goal

abbrev pub invariant-loop-byte : goal.invariant-loop-byte
invariant-loop-byte l = record {
  filled : take l.byte-index l.bytes ≡ drawn_bytes l.byte-index l.fn.draws.x;
  drawn : l.draws.x ≡ after l.byte-index l.fn.draws.x;
}
