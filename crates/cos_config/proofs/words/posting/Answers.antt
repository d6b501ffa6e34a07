use Rattle.cos_config.proofs.Texts.{differs}
use Rattle.cos_config.proofs.words.posting.Goals as goal

pub returns-in_default : goal.returns-in_default
returns-in_default c = rw (differs _ _ c.in_default.not-answered, differs _ _ c.in_default.not-posted)
