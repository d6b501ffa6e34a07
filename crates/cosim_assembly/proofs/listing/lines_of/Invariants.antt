use Rattle.std.proofs.Common.{◌≡◌, ◌++◌, length}
use Rattle.cosim_assembly.specs.Images.{words_of}
use Rattle.cosim_assembly.specs.Listings.{lines_of}
use Rattle.cosim_assembly.proofs.listing.lines_of.Given as goal

abbrev pub invariant-words : goal.invariant-words
invariant-words l = l.text.bytes ++ lines_of (words_of l.rest) ≡ lines_of (words_of l.bytes)

abbrev pub decreases-words : goal.decreases-words
decreases-words l = length l.rest
