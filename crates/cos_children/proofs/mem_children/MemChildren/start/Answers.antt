use Rattle.std.proofs.Common.{rules, ◌≡◌, ◌++◌, [], ◌∷◌, ap, refl, ◌∙◌, length, string_bytes}
use Rattle.cos_children.specs.declared.mem_children.MemChild.{MemChild}
use Rattle.cos_children.specs.Children.{with_started}
use Rattle.cos_children.specs.MemChildLists.{told_of}
use Rattle.cos_children.proofs.MemLaws.{kept, kept-started, told-started, same-texts}
use Rattle.cos_children.proofs.mem_children.MemChildren.start.Goals as goal

pub invariant_of-self : goal.invariant_of-self
invariant_of-self c =
    let are = kept c.args.self.now _ _ _ c.reserve.ensures.items refl refl in
    record { are_children = are.are_children; are_new = are.are_new }

pub invariant_of-self-in-Break-branch-3 : goal.invariant_of-self-in-Break-branch-3
invariant_of-self-in-Break-branch-3 c =
    let are = kept c.args.self.now _ _ _ c.reserve.ensures.items refl c.reserve-2.ensures.items in
    record { are_children = are.are_children; are_new = are.are_new }

pub invariant_of-self-2 : goal.invariant_of-self-2
invariant_of-self-2 c =
    let m : MemChild = record { words = c.in_ok-words.words; number = c.in-Ok.number } in
    let place : c.in-Ok.number ≡ length c.args.self.now.started.items = search rules in
    let are = kept-started c.args.self.now m c.push_spare.new.list.items c.push_spare-2.new.list.items
    (c.push_spare.ensures ∙ ap (λ l. l ++ m ∷ []) c.reserve.ensures.items)
    (c.push_spare-2.ensures ∙ ap (λ l. l ++ c.in-Ok.number ∷ []) c.reserve-2.ensures.items) place in
    record { are_children = are.are_children; are_new = are.are_new }

pub returns-clause-ok : goal.returns-clause-ok
returns-clause-ok c =
    let old = c.args.self.now in
    let m : MemChild = record { words = c.in_ok-words.words; number = c.in-Ok.number } in
    ap (λ s. told_of s old.ended.items c.push_spare-2.new.list.items)
    (c.push_spare.ensures ∙ ap (λ l. l ++ m ∷ []) c.reserve.ensures.items)
    ∙ ap (λ r. told_of (old.started.items ++ m ∷ []) old.ended.items r)
    (c.push_spare-2.ensures ∙ ap (λ l. l ++ c.in-Ok.number ∷ []) c.reserve-2.ensures.items)
    ∙ told-started old.started.items old.ended.items old.running.items m
    ∙ ap (λ words. with_started (told_of old.started.items old.ended.items old.running.items) words c.in-Ok.number)
    (same-texts string_bytes c.args.words.now c.in_ok-words.words.items c.in_ok-words.ensures.items)
