use Rattle.std.proofs.Common.{◌≤◌, length, sym, subst}
use Rattle.cos_schedules.proofs.Courses.{begun-left}
use Rattle.cos_schedules.proofs.rounds.Rounds.next.Goals as goal

pub step-requires : goal.step-requires
step-requires c = subst (λ s. 1 ≤ length s.left) (sym c.begin.ensures) (begun-left c.args.self.now)
