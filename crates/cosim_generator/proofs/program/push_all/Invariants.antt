use Rattle.std.proofs.Common.{◌≡◌, ◌+◌, ◌*◌, ◌++◌, take}
use Rattle.cosim_generator.specs.Programs.{image_of}
use Rattle.cosim_generator.proofs.program.push_all.Given as goal

abbrev pub invariant-loop-instr : goal.invariant-loop-instr
invariant-loop-instr l = record {
  put : l.image.bytes ≡ l.fn.image.bytes ++ image_of (take l.instr-index l.instrs);
  room : l.image.spare + 4 * l.instr-index ≡ l.fn.image.spare;
}
