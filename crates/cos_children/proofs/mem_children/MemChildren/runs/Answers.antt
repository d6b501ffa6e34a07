use Rattle.std.proofs.Common.{ap, ◌∙◌, ◌==◌}
use Rattle.std.specs.List.{list_any}
use Rattle.cos_children.proofs.MemLaws.{any-times}
use Rattle.cos_children.proofs.mem_children.MemChildren.runs.Goals as goal

pub returns : goal.returns
returns c =
    c.contains.ensures.value ∙ ap (λ ms. list_any (λ m. m == c.args.child) ms) c.deref.ensures.value
    ∙ any-times c.args.child c.args.self.now.running.items
