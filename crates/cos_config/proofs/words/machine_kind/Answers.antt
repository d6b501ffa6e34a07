use Rattle.cos_config.proofs.Texts.{differs}
use Rattle.cos_config.proofs.words.machine_kind.Goals as goal

pub returns-in_default : goal.returns-in_default
returns-in_default c = rw (differs _ _ c.in_default.not-rv32i, differs _ _ c.in_default.not-script)
