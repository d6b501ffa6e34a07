use Rattle.std.proofs.Common.{rules, ◌++◌, [], ◌∷◌, ap, refl, ◌∙◌}
use Rattle.std.proofs.lemmas.Fn.{filter_same}
use Rattle.cos_children.specs.MemChildLists.{told_of}
use Rattle.cos_children.proofs.MemLaws.{kept, kept-ended}
use Rattle.cos_children.proofs.mem_children.MemChildren.end.Goals as goal

pub invariant_of-self : goal.invariant_of-self
invariant_of-self c =
    let are = kept c.args.self.now _ _ _ refl c.reserve.ensures.items refl in
    record { are_children = are.are_children; are_new = are.are_new }

pub invariant_of-self-2 : goal.invariant_of-self-2
invariant_of-self-2 c =
    let are = kept-ended c.args.self.now c.args.child c.args.status c.push_spare.new.list.items c.retain.new.self.items
    c.requires (c.push_spare.ensures ∙ ap (λ l. l ++ (c.args.child, c.args.status) ∷ []) c.reserve.ensures.items)
    (filter_same _ _ _ (λ x b f' k. search rules) _ _ c.retain.ensures.filtered) in
    record { are_children = are.are_children; are_new = are.are_new }

pub returns-clause-ok : goal.returns-clause-ok
returns-clause-ok c =
    ap (λ e. told_of c.args.self.now.started.items e c.retain.new.self.items)
    (c.push_spare.ensures ∙ ap (λ l. l ++ (c.args.child, c.args.status) ∷ []) c.reserve.ensures.items)
    ∙ ap (λ r. told_of c.args.self.now.started.items (c.args.self.now.ended.items ++ (c.args.child, c.args.status) ∷ []) r)
    (filter_same _ _ _ (λ x b f' k. search rules) _ _ c.retain.ensures.filtered)
