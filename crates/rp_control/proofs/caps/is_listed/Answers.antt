use Rattle.std.proofs.Common.{◌∙◌}
use Rattle.rp_control.specs.ControlLaws.{list_any-lists}
use Rattle.rp_control.proofs.caps.is_listed.Goals as goal

pub returns : goal.returns
returns c = c.contains.ensures.value ∙ list_any-lists c.args.number c.args.numbers.now
