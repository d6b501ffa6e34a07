use Rattle.std.proofs.Common.{refl, subst}
use Rattle.run_texts.specs.Endings.{IsEnding}
use Rattle.run_texts.specs.Texts.{uarts_from}
use Rattle.cosim_local.proofs.Closing.{closed-text, closed-lines}
use Rattle.cosim_local.proofs.finished.close.Goals as goal

pub returns-clause-closed : goal.returns-clause-closed
returns-clause-closed c = record {
  world = refl;
  ports = refl;
  text = closed-text c.args.world c.requires.over c.args.config.ports c.in_ok-end.end c.in_ok-traffic.traffic.bytes
      c.is_on_its_way.ensures.reached.fit
      (subst (λ ps. IsEnding c.args.world.now.hub.core.calls c.args.world.now.hub.core.master
      c.args.world.now.hub.core.tick (uarts_from 0 ps) c.in_ok-end.end) c.as_slice.ensures c.in_ok-end.ensures)
      c.in_ok-traffic.ensures;
}

pub returns-clause-lines : goal.returns-clause-lines
returns-clause-lines c = closed-lines c.args.world c.requires.over
