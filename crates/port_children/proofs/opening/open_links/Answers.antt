use Rattle.std.proofs.Common.{[], ◌∷◌, ◌++◌, ◌+◌, IfSome, map, string_bytes, ap, sym, ◌∙◌, arith}
use Rattle.std.proofs.lemmas.List.Elements.{All-same}
use Rattle.std.proofs.lemmas.Result.{err_from_is_err_and}
use Rattle.cos_base.specs.Links.{IsFresh}
use Rattle.port_children.proofs.Stops.{stop-listening, stop-short, stop-starting, stop-accepting, opened}
use Rattle.port_children.proofs.Parts.{words-next, started-next, taken-next, one-longer}
use Rattle.port_children.proofs.opening.open_links.Goals as goal

pub returns-in_err-listeners-clause-opens : goal.returns-in_err-listeners-clause-opens
returns-in_err-listeners-clause-opens g c =
    let p = err_from_is_err_and c.from_residual.result c.from_residual.ensures.1 in
    rw (p.1, p.2) (stop-listening _ _ _ _ _ _ _ _ _ _ _ c.requires.no_links c.requires.no_numbers
    c.in_err-listeners.ensures.listens)

pub returns-in_err-words-clause-opens : goal.returns-in_err-words-clause-opens
returns-in_err-words-clause-opens g c =
    let p = err_from_is_err_and c.from_residual-in_err-words.result c.from_residual-in_err-words.ensures.1 in
    let at = c.ports.invariant in
    rw (p.1, p.2) (stop-short _ _ c.ports.index _ _ _ _ _ _ _ _ _ _ at.given at.started (at.each_link ∙ sym at.each_child))

pub returns-in_err-reserve-clause-opens : goal.returns-in_err-reserve-clause-opens
returns-in_err-reserve-clause-opens g c =
    let p = err_from_is_err_and c.from_residual-in_err-reserve.result c.from_residual-in_err-reserve.ensures.1 in
    let at = c.ports.invariant in
    rw (p.1, p.2, c.reserve.ensures.items)
    (stop-short _ _ c.ports.index _ _ _ _ _ _ _ _ _ _ at.given at.started (at.each_link ∙ sym at.each_child))

pub returns-in_err-start-clause-opens : goal.returns-in_err-start-clause-opens
returns-in_err-start-clause-opens g c =
    let p = err_from_is_err_and c.from_residual-in_err-start.result c.from_residual-in_err-start.ensures.1 in
    let at = c.ports.invariant in
    let none = c.in_err-start.ensures.starts in
    rw (p.1, p.2, c.reserve.ensures.items, none.0)
    (stop-starting _ _ c.ports.index _ _ _ _ _ _ _ _ _ _ _ _ _ at.given at.started none.1
    (at.each_link ∙ sym at.each_child))

pub returns-in_err-accept-clause-opens : goal.returns-in_err-accept-clause-opens
returns-in_err-accept-clause-opens g c =
    let p = err_from_is_err_and c.from_residual-in_err-accept.result c.from_residual-in_err-accept.ensures.1 in
    let at = c.ports.invariant in
    let cut = c.in_err-accept.ensures.accepts in
    let one = c.in_ok-start.ensures.starts in
    let words = words-next c.args.program.now c.args.config.now c.args.ports.now c.ports.index c.index-ports-index.result
    c.text_of-socket.result.now (map string_bytes c.as_slice.result.now) c.index-ports-index.is c.text_of-socket.ensures
    (ap (map string_bytes) c.as_slice.ensures.value ∙ c.in_ok-words.ensures) c.ports-test.true in
    let started = started-next _ _ _ _ _ _ _ _ _ _ _ words at.started one in
    let many = one-longer _ _ one.number _ one.behind at.each_child in
    rw (p.1, p.2, cut.0, c.reserve.ensures.items)
    (stop-accepting _ _ (c.ports.index + 1) _ _ _ _ _ _ _ _ _ _ _ _ _ at.given cut.1 started (omega (arith, at.each_link, many)))

pub ports-preserved : goal.ports-preserved
ports-preserved g c =
    let at = c.ports.invariant in
    let one = c.in_ok-start.ensures.starts in
    let link = c.in_ok-accept.ensures.accepts in
    let words = words-next c.args.program.now c.args.config.now c.args.ports.now c.ports.index c.index-ports-index.result
    c.text_of-socket.result.now (map string_bytes c.as_slice.result.now) c.index-ports-index.is c.text_of-socket.ensures
    (ap (map string_bytes) c.as_slice.ensures.value ∙ c.in_ok-words.ensures) c.ports-test.true in
    record {
      given = taken-next _ _ _ _ _ _ _ _ _ _ c.reserve.ensures.items at.given link;
      started = started-next _ _ _ _ _ _ _ _ _ _ _ words at.started one;
      each_link = one-longer _ _ link.link _ (link.behind ∙ ap (λ l. l ++ link.link ∷ []) c.reserve.ensures.items) at.each_link;
      each_child = one-longer _ _ one.number _ one.behind at.each_child;
      each_listener = at.each_listener;
      fresh = c.in_ok-accept.ensures.fresh (All-same (λ l. IfSome (g.N.Link.Link.told l) IsFresh) _ _ c.reserve.ensures.items at.fresh);
      sound_net = λ is.
          let before = at.sound_net is in
          let after = c.in_ok-accept.ensures.is_sound before.0 in
          (after.0, after.1 (All-same g.N.Link.Link.sound _ _ c.reserve.ensures.items before.1));
      sound_children = λ is. (c.in_ok-start.ensures.is_sound (at.sound_children is)).0;
    }

pub returns-clause-opens : goal.returns-clause-opens
returns-clause-opens g c =
    let at = c.ports.invariant in
    opened _ _ c.args.ports.now c.ports.index _ _ _ _ _ _ _ _ _ _ at.given at.started at.each_link at.each_child c.ports.auto.index-end
    c.ports-test.false
