use Rattle.std.proofs.Common.{List, ℕ, ◌≡◌, ◌==◌, Bool, true, false, length, ap, sym, ◌∙◌}
use Rattle.outcomes.proofs.Commands.{before-put}
use Rattle.outcomes.proofs.steps.put_before.Goals as goal

not-empty : (text : List ℕ) (b : Bool) → b ≡ (length text == 0) → b ≡ false → length text ≡ 0 → ⊥
not-empty text b is some none = let yes : (length text == 0) ≡ true = ap (λ n. n == 0) none in let bad : true ≡ false = sym yes ∙ sym is ∙ some in cc

pub returns-in-Ok-clause-puts : goal.returns-in-Ok-clause-puts
returns-in-Ok-clause-puts g c = before-put _ c.args.text.now (not-empty _ _ c.is_empty.ensures c.if-is_empty.false) (_, c.in-Ok.ensures.counts, c.in-Ok.ensures.tells)

pub returns-in-Err-clause-puts : goal.returns-in-Err-clause-puts
returns-in-Err-clause-puts g c = before-put _ c.args.text.now (not-empty _ _ c.is_empty.ensures c.if-is_empty.false) (_, c.in-Err.ensures.counts, c.in-Err.ensures.tells)
