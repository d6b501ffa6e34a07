use Rattle.std.proofs.Common.{rules, map, ap, ◌∙◌}
use Rattle.std.proofs.lemmas.Iterator.{YieldsList-from_slice, YieldsList-from_zip}
use Rattle.std.proofs.lemmas.Iterator.Adapters.{YieldsList-from_vec}
use Rattle.std.proofs.lemmas.Iterator.Consumers.{YieldsList-end, YieldsList-turn}
use Rattle.cosim_ends.specs.Sides.{port_side, end_of}
use Rattle.cosim_ends.proofs.Making.{fresh-at, ends-of}
use Rattle.cosim_ends.proofs.ends.make_ends.Goals as goal

pub make-requires : goal.make-requires
make-requires c =
    let turn = YieldsList-turn (YieldsList-from_zip {s = c.into_iter-settings-iterator.result}
    (YieldsList-from_slice c.args.ports.now (search rules))
    (YieldsList-from_vec c.args.devices.items (search rules) (search rules)))
    c.ports.yielded c.ports.settings-iterator c.ports.yielded_by c.next.result c.next.new.self
    (c.in-Some.settings, c.in-Some.device) c.in-Some.is c.next.ensures.steps in
    fresh-at c.args.ports.now c.args.devices.items _ (c.in-Some.settings.now, c.in-Some.device) turn.0 turn.1 c.requires

pub returns : goal.returns
returns c =
    let end = YieldsList-end (YieldsList-from_zip {s = c.into_iter-settings-iterator.result}
    (YieldsList-from_slice c.args.ports.now (search rules))
    (YieldsList-from_vec c.args.devices.items (search rules) (search rules)))
    c.ports.yielded c.ports.settings-iterator c.ports.yielded_by c.next.result c.next.new.self c.in-None.is
    c.next.ensures.steps in
    c.ports.invariant ∙ ends-of _ c.ports.yielded ∙ ap (λ xs. map end_of (map port_side xs)) end.0
