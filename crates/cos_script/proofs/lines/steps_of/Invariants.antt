use Rattle.std.proofs.Common.{◌≡◌, ◌+◌, ◌<◌, suc, length}
use Rattle.cos_text.specs.Lines.{lines}
use Rattle.cos_script.specs.Scripts.{lines_steps, before_steps, script_of}
use Rattle.cos_script.proofs.lines.steps_of.Given as goal

abbrev pub invariant-lines : goal.invariant-lines
invariant-lines l = record {
  counted : l.passed + length l.rest < 18446744073709551616;
  leads : script_of l.ports l.text ≡ before_steps l.steps.items (lines_steps l.ports (suc l.passed) (lines l.rest));
}

abbrev pub decreases-lines : goal.decreases-lines
decreases-lines l = length l.rest
