use Rattle.std.proofs.Common.{rules, sym, ap, ◌∙◌, subst, map}
use Rattle.std.proofs.lemmas.Iterator.Adapters.{YieldsList-from_vec}
use Rattle.std.proofs.lemmas.Iterator.Consumers.{YieldsList-end, YieldsList-turn}
use Rattle.process_network.specs.Star.{new_link}
use Rattle.world.specs.Seats.{IsFresh}
use Rattle.world.proofs.Making.{same-list}
use Rattle.world.proofs.ends.make_seats.Goals as goal

pub make-requires : goal.make-requires
make-requires g c =
    let turn = YieldsList-turn (YieldsList-from_vec {s = c.into_iter-end-iterator.result} c.args.devices.items (search rules) (search rules))
    c.ends.yielded c.ends.end-iterator c.ends.yielded_by c.next.result c.next.new.self c.in-Some.end c.in-Some.is c.next.ensures.steps in
    subst (λ e. IsFresh e) (sym turn.1) (c.requires _ _ turn.0)

pub returns-clause-ends : goal.returns-clause-ends
returns-clause-ends g c =
    let end = YieldsList-end (YieldsList-from_vec {s = c.into_iter-end-iterator.result} c.args.devices.items (search rules) (search rules))
    c.ends.yielded c.ends.end-iterator c.ends.yielded_by c.next.result c.next.new.self c.in-None.is c.next.ensures.steps in
    c.ends.invariant.ends ∙ same-list c.ends.yielded ∙ end.0

pub returns-clause-links : goal.returns-clause-links
returns-clause-links g c =
    let end = YieldsList-end (YieldsList-from_vec {s = c.into_iter-end-iterator.result} c.args.devices.items (search rules) (search rules))
    c.ends.yielded c.ends.end-iterator c.ends.yielded_by c.next.result c.next.new.self c.in-None.is c.next.ensures.steps in
    c.ends.invariant.links ∙ ap (map (λ e. new_link)) (same-list c.ends.yielded ∙ end.0)
