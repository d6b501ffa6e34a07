use Rattle.std.proofs.Common.{◌∙◌}
use Rattle.cos_config.proofs.Texts.{any-text}
use Rattle.cos_config.proofs.keys.is_among.Goals as goal

pub returns : goal.returns
returns c = c.contains.ensures.value ∙ any-text c.args.name.now c.args.names.now
