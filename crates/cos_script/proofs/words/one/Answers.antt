use Rattle.std.proofs.Common.{sym}
use Rattle.cos_script.proofs.Cuts.{one-more}
use Rattle.cos_script.proofs.words.one.Goals as goal

pub returns-in-Some : goal.returns-in-Some
returns-in-Some c = sym (one-more c.args.text.now c.in-Some.field-0.now _ (rw c.in-Some.is at c.cut.ensures.parts))
