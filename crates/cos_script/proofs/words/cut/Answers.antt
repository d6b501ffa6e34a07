use Rattle.std.proofs.Common.{◌+◌, ◌∷◌, take, sym, ap, ◌∙◌, arith}
use Rattle.std.proofs.lemmas.List.{take_rest}
use Rattle.cos_script.specs.Scripts.{parts}
use Rattle.cos_script.proofs.Cuts.{parts-at, parts-none}
use Rattle.cos_script.proofs.words.cut.Goals as goal

pub returns-then-text-i-clause-parts : goal.returns-then-text-i-clause-parts
returns-then-text-i-clause-parts c = parts-at c.args.value c.args.text.now c.bytes.i c.bytes-test.true c.bytes.invariant c.if-text-i.true ∙ ap (λ rest. take c.bytes.i c.args.text.now ∷ parts c.args.value rest) (sym (take_rest c.args.text.now (c.bytes.i + 1)))

pub returns-clause-parts : goal.returns-clause-parts
returns-clause-parts c = parts-none c.args.value c.args.text.now (λ k h. c.bytes.invariant k (omega arith))
