use Rattle.std.proofs.Common.{◌≡◌, ℕ, ◌++◌, List, map, decimal, Some}
use Rattle.rp_control.specs.Controls.{AreWords}
use Rattle.rp_text.specs.Texts.{spaced}
use Rattle.rp_text.specs.Words.{left}
use Rattle.rp_text.proofs.Caps.{CapsLeft}
use Rattle.rp_text.proofs.words_in.Words.read_capabilities.Given as goal

abbrev pub invariant-words : goal.invariant-words
invariant-words l = record {
  each : AreWords l.caps;
  read : (more : List ℕ) → l.self ≡ Some more → l.fn.self ≡ Some (spaced (map decimal l.caps) ++ more);
  left : (ns : List ℕ) → AreWords ns → l.fn.self ≡ Some (spaced (map decimal ns)) → CapsLeft ns l.caps l.self;
}

abbrev pub decreases-words : goal.decreases-words
decreases-words l = left l.self
