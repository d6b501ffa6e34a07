use Rattle.std.proofs.Common.{◌≡◌, drop}
use Rattle.cos_map.specs.Parts.{overlap_found}
use Rattle.cos_map.proofs.parts.overlap.Given as goal

abbrev pub invariant-parts : goal.invariant-parts
invariant-parts l = overlap_found 0 l.all ≡ overlap_found l.a (drop l.a l.all)
