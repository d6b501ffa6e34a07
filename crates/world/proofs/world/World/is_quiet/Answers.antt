use Rattle.std.proofs.Common.{◌<◌, ◌≡◌, ℕ, sym, ◌∙◌, refl, arith, length}
use Rattle.world.proofs.Quiet.{quiet-by, quiet-idle, reached-within}
use Rattle.world.proofs.Reaching.{ports-there}
use Rattle.world.proofs.world.World.is_quiet.Goals as goal

pub returns-then-is_busy : goal.returns-then-is_busy
returns-then-is_busy g c = (
  λ never. absurd (cc (never)),
  λ quiet.
      let idle = quiet-idle g.M.Master.model g.D.Device.model c.args.self.now.now quiet c.ports.port in
      sym idle ∙ sym c.is_busy.ensures ∙ c.if-is_busy.true,
)

pub returns : goal.returns
returns g c =
    let k = g.M.Master.model in
    let d = g.D.Device.model in
    let is = c.is_on_its_way.ensures.reached in
    let there = ports-there k d c.args.self.now is in (
      λ all.
          quiet-by k d c.args.self.now.now (reached-within k d c.args.self.now is) (length c.args.self.now.start.ports) there.0
          there.1
          (λ p inside.
          let past = c.ports-test.false in
          let ports = c.ports-ports.ensures in
          c.ports.invariant.1 p (omega (arith, past, ports, inside))),
      λ quiet. refl,
    )
