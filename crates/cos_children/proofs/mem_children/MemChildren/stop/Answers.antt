use Rattle.std.proofs.Common.{rules, ap}
use Rattle.std.proofs.lemmas.Fn.{filter_same}
use Rattle.cos_children.specs.MemChildLists.{told_of}
use Rattle.cos_children.proofs.MemLaws.{kept-stopped}
use Rattle.cos_children.proofs.mem_children.MemChildren.stop.Goals as goal

pub invariant_of-self : goal.invariant_of-self
invariant_of-self c =
    let are = kept-stopped c.args.self.now c.args.child c.retain.new.self.items
    (filter_same _ _ _ (λ x b f' k. search rules) _ _ c.retain.ensures.filtered) in
    record { are_children = are.are_children; are_new = are.are_new }

pub returns : goal.returns
returns c =
    ap (λ r. told_of c.args.self.now.started.items c.args.self.now.ended.items r)
    (filter_same _ _ _ (λ x b f' k. search rules) _ _ c.retain.ensures.filtered)
