use Rattle.std.proofs.Common.{◌≡◌, take}
use Rattle.cosim_assembly.specs.Images.{image_of}
use Rattle.cosim_assembly.proofs.assembly.image_of.Given as goal

abbrev pub invariant-loop-word : goal.invariant-loop-word
invariant-loop-word l = l.image.bytes ≡ image_of (take l.word-index l.words)
