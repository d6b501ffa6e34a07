use Rattle.std.proofs.Common.{◌≡◌, ◌+◌, ◌*◌, ◌≤◌, ◌++◌, ◌∷◌, drop, map, decimal}
use Rattle.rp_text.specs.Texts.{spaced}
use Rattle.rp_text.proofs.words_out.put_hello.Given as goal

abbrev pub invariant-loop-cap : goal.invariant-loop-cap
invariant-loop-cap l = record {
  put : l.out.bytes ++ spaced (map decimal (drop l.cap-index l.cap-items)) ≡ l.fn.out.bytes ++ spaced (decimal l.hello.major ∷ decimal l.hello.minor ∷ map decimal l.hello.caps);
  room : l.fn.out.spare ≤ l.out.spare + 42 + 21 * l.cap-index;
  items : l.cap-items ≡ l.hello.caps;
}
