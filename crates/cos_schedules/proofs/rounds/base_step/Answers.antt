use Rattle.std.proofs.Common.{◌-◌, ◌/◌, arith}
use Rattle.cos_schedules.proofs.Places.{base-at}
use Rattle.cos_schedules.proofs.rounds.base_step.Goals as goal

pub returns-in-0 : goal.returns-in-0
returns-in-0 c = base-at c.args.ports c.args.place ((c.args.place - 1) / 3) 0 (omega arith) (omega arith) (omega arith)

pub returns-in-1 : goal.returns-in-1
returns-in-1 c = base-at c.args.ports c.args.place ((c.args.place - 1) / 3) 1 (omega arith) (omega arith) (omega arith)

pub returns-in_default : goal.returns-in_default
returns-in_default c = base-at c.args.ports c.args.place ((c.args.place - 1) / 3) 2 (omega arith) (omega arith)
    (omega arith)
