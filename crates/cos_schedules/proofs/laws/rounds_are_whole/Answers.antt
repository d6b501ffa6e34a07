use Rattle.cos_schedules.proofs.StarRounds.{star-round}
use Rattle.cos_schedules.proofs.laws.rounds_are_whole.Goals as goal

pub returns : goal.returns
returns c = star-round
