use Rattle.rp_text.proofs.Unique.{one-line}
use Rattle.rp_text.proofs.laws.one_line.Goals as goal

pub returns : goal.returns
returns c = one-line
