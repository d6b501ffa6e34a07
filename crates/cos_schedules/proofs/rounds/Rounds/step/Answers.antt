use Rattle.std.proofs.Common.{◌+◌, ◌∙◌, sym, drop, arith}
use Rattle.cos_schedules.specs.Schedules.{base, turned}
use Rattle.cos_schedules.proofs.Courses.{length-left, step-given}
use Rattle.cos_schedules.proofs.Places.{left-at}
use Rattle.cos_schedules.proofs.rounds.Rounds.step.Goals as goal

pub turned_step-step-requires-clause-place : goal.turned_step-step-requires-clause-place
turned_step-step-requires-clause-place c =
    let f = c.self.inside in
    let fits = c.self.invariant in
    let left = length-left f.number f.ports f.draws.x f.first f.given c.args.self.now fits.0 fits.1 c.self.view_is in
    omega arith

pub invariant_of-self : goal.invariant_of-self
invariant_of-self c =
    let f = c.self.inside in
    let fits = c.self.invariant in
    let left = length-left f.number f.ports f.draws.x f.first f.given c.args.self.now fits.0 fits.1 c.self.view_is in
    (fits.0, omega arith, fits.2)

pub returns : goal.returns
returns c =
    let f = c.self.inside in
    let round = turned f.first (base f.ports) in
    let after = c.counted_in.new.draws.x in
    let left = left-at round f.given (f.given + 1) c.turned_step-step.result (omega arith) c.turned_step-step.ensures in
    sym c.self.view_is
    ∙ step-given f.number f.ports f.draws.x after _ _ _ (drop (f.given + 1) round) left c.counted_in.ensures
