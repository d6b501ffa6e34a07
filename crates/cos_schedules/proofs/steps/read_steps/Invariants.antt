use Rattle.std.proofs.Common.{◌≡◌, ◌+◌, ◌<◌, ◌++◌, ℕ, List, length}
use Rattle.cos_text.specs.Lines.{lines}
use Rattle.cos_schedules.specs.Texts.{AllSpell}
use Rattle.cos_schedules.proofs.steps.read_steps.Given as goal

abbrev pub invariant-lines : goal.invariant-lines
invariant-lines l = record {
  counted : l.passed + length l.rest < 18446744073709551616;
  spelled : (before : List (List ℕ)) × (lines l.text ≡ before ++ lines l.rest) × (l.passed ≡ length before) × AllSpell
      l.ports before l.steps;
}

abbrev pub decreases-lines : goal.decreases-lines
decreases-lines l = length l.rest
