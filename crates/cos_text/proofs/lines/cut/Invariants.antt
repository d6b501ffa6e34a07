use Rattle.std.proofs.Common.{◌≡◌, ◌++◌, take, drop}
use Rattle.cos_text.specs.Lines.{before, after}
use Rattle.cos_text.proofs.lines.cut.Given as goal

abbrev pub invariant-loop-i : goal.invariant-loop-i
invariant-loop-i l =
    (before l.value l.text ≡ take l.i l.text ++ before l.value (drop l.i l.text)) × (after l.value l.text ≡ after l.value (drop l.i l.text))
