use Rattle.std.proofs.Common.{ap, ◌∙◌, sym}
use Rattle.cos_map.specs.Parts.{overlap_found}
use Rattle.cos_map.proofs.Apart.{parts-apart}
use Rattle.sys_bus.specs.Maps.{parts_of}
use Rattle.sys_bus.proofs.map.Map.make.Goals as goal

pub returns-in-Ok-clause-apart : goal.returns-in-Ok-clause-apart
returns-in-Ok-clause-apart c =
    parts-apart 0 (parts_of c.args.windows.now c.args.ram) (ap (overlap_found 0) (sym (c.deref.ensures.value ∙ c.in_ok-parts.ensures)) ∙ sym c.overlap.ensures.found ∙ c.in_default-overlap.is)
