use Rattle.std.proofs.Common.{◌≡◌, ◌+◌, ◌<◌, ◌≤◌, List, [], ◌∷◌, ◌++◌, length, map, refl, sym, ap, ◌∙◌, subst, arith, true, false}
use Rattle.cos_schedules.specs.Courses.{Course, GivesAll, fresh_course}
use Rattle.cos_schedules.specs.Schedules.{base_length}
use Rattle.cos_schedules.specs.Stars.{star_step}
use Rattle.cos_schedules.proofs.Passing.{gives-both}
use Rattle.process_network.specs.Star.{star_all}
use Rattle.world.specs.Stars.{star}
use Rattle.world.proofs.Finishing.{course-keeps-all, measure, measure-falls-all}
use Rattle.world.proofs.Taking.{take-both, take-none}
use Rattle.world.proofs.world.World.run_rounds.Goals as goal

pub steps-init : goal.steps-init
steps-init g c =
    let n = length c.args.self.now.start.ports in
    let is = ap (fresh_course c.args.number) (sym c.ports.ensures) ∙ sym c.make-rounds.ensures in (
      [],
      is,
      take-none g.M.Master.model g.D.Device.model c.args.self.now _ c.is_on_its_way.ensures.reached.effective,
      ap (λ (x : Course). x.ports) (sym is),
      subst (λ (x : Course). length x.left ≤ base_length n) is (omega arith),
      λ quiet. absurd (cc (quiet)),
    )

pub steps-preserved : goal.steps-preserved
steps-preserved g c =
    let k = g.M.Master.model in
    let d = g.D.Device.model in
    let inv = c.steps.invariant in
    let takes = c.in-Ok.ensures.takes in
    let keeps = course-keeps-all c.steps.rounds c.take_some.new.rounds takes.0 _ takes.2 inv.3 inv.4 in (
      inv.0 ++ takes.0,
      gives-both _ c.steps.rounds c.take_some.new.rounds inv.0 takes.0 inv.1 takes.2,
      take-both k d c.args.self.now c.steps.self c.take_some.new.self inv.0 takes.0 inv.2 takes.3,
      keeps.0,
      keeps.1,
      c.in-Ok.ensures.quiet,
    )

pub steps-smaller : goal.steps-smaller
steps-smaller g c =
    let k = g.M.Master.model in
    let d = g.D.Device.model in
    let inv = c.steps.invariant in
    let takes = c.in-Ok.ensures.takes in
    let start = inv.2.start in
    let long = inv.3 ∙ ap (λ s. length s.ports) (sym start) in
    let short = subst (λ s. length c.steps.rounds.left ≤ base_length (length s.ports)) (sym start) inv.4 in
    let falls = measure-falls-all k d g.met.D.Device.lawful g.met.M.Master.lawful takes.0 c.steps.self
    c.is_on_its_way-in-steps.ensures.reached c.steps.rounds c.take_some.new.rounds takes.2 long short takes.3.unfinished in
    let some = takes.1 in
    let here = ap (λ s. measure k d s c.steps.self.now c.steps.rounds) start in
    let there = ap (λ s. measure k d s c.take_some.new.self.now c.take_some.new.rounds) start in
    let now = ap (λ w. measure k d c.steps.self.start w c.take_some.new.rounds) takes.3.now in
    omega (arith, falls, some, here, there, now)

pub returns-in-Err-clause-runs : goal.returns-in-Err-clause-runs
returns-in-Err-clause-runs g c =
    let k = g.M.Master.model in
    let d = g.D.Device.model in
    let inv = c.steps.invariant in
    let takes = c.in-Err.ensures.takes in (
      inv.0 ++ takes.0,
      (takes.1, gives-both _ c.steps.rounds takes.1 inv.0 takes.0 inv.1 takes.2),
      take-both k d c.args.self.now c.steps.self c.take_some.new.self inv.0 takes.0 inv.2 takes.3,
    )
