use Rattle.std.proofs.Common.{◌≡◌, ◌+◌, ◌*◌, ◌++◌}
use Rattle.cosim_generator.specs.Programs.{after, drawn_blocks, image_of}
use Rattle.cosim_generator.proofs.program.push_blocks.Given as goal

abbrev pub invariant-loop-number : goal.invariant-loop-number
invariant-loop-number l = record {
  put : l.image.bytes ≡ l.fn.image.bytes ++ image_of (drawn_blocks l.number l.fn.draws.x);
  room : l.image.spare + 4 * l.number ≡ l.fn.image.spare;
  drawn : l.draws.x ≡ after (2 * l.number) l.fn.draws.x;
}
