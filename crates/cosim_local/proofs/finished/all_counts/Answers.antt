use Rattle.std.proofs.Common.{◌<◌, [], ◌∷◌, ◌++◌, length, ap, ◌∙◌, arith}
use Rattle.cosim_local.proofs.Counted.{counts-step}
use Rattle.cosim_local.proofs.finished.all_counts.Goals as goal

pub ports-preserved : goal.ports-preserved
ports-preserved c =
    let small : c.ports.port < length c.args.world.now.start.ports =
    omega (arith, c.ports-test.true, c.ports-in-ports.ensures) in (
      omega (arith, small),
      counts-step c.args.world.now.now c.args.world.now.start.ports c.ports.port c.ports.links.items c.push.new.self.items _
          small (c.in-Ok.ensures.items ∙ ap (λ x. c.ports.links.items ++ x ∷ []) c.link_counts.ensures)
          c.ports.invariant.1,
    )
