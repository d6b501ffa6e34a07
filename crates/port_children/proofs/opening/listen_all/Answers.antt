use Rattle.std.proofs.Common.{[], ◌∷◌, ◌++◌, ◌+◌, ap, ◌∙◌, take, drop}
use Rattle.std.proofs.lemmas.Result.{err_from_is_err_and}
use Rattle.port_children.specs.Peers.{sockets_of}
use Rattle.port_children.proofs.Parts.{given-more, part-behind, part-short, sockets-all, sockets-next}
use Rattle.port_children.proofs.opening.listen_all.Goals as goal

pub returns-in_err-listener-clause-listens : goal.returns-in_err-listener-clause-listens
returns-in_err-listener-clause-listens g c =
    let p = err_from_is_err_and c.from_residual.result c.from_residual.ensures.1 in
    let i = c.ports.port-index in
    let left = sockets_of (drop (i + 1) c.args.ports.now) in
    let next = sockets-next c.args.ports.now i c.port-item.result c.text_of.result.now c.port-item.is c.text_of.ensures
    c.ports-test.true in
    rw (p.1, p.2) (part-behind (sockets_of c.args.ports.now) (sockets_of (take i c.args.ports.now))
    (c.text_of.result.now ∷ []) left _ _ _ _ _ _ _ (sockets-all c.args.ports.now (i + 1) ∙ ap (λ l. l ++ left) next)
    c.ports.invariant.given c.in_err-listener.ensures.listens)

pub returns-in_err-push-clause-listens : goal.returns-in_err-push-clause-listens
returns-in_err-push-clause-listens g c =
    let p = err_from_is_err_and c.from_residual-in_err-push.result c.from_residual-in_err-push.ensures.1 in
    let i = c.ports.port-index in
    let left = sockets_of (drop (i + 1) c.args.ports.now) in
    let next = sockets-next c.args.ports.now i c.port-item.result c.text_of.result.now c.port-item.is c.text_of.ensures
    c.ports-test.true in
    rw (p.1, p.2) (part-short (sockets_of c.args.ports.now) (sockets_of (take i c.args.ports.now) ++ c.text_of.result.now ∷ [])
    left _ _ _ _ (sockets-all c.args.ports.now (i + 1) ∙ ap (λ l. l ++ left) next)
    (given-more _ _ _ _ _ _ _ _ _ _ c.ports.invariant.given c.in_ok-listener.ensures.listens))
