use Rattle.cos_schedules.proofs.GivenRounds.{given-rounds}
use Rattle.cos_schedules.proofs.laws.gives_its_rounds.Goals as goal

pub returns : goal.returns
returns c = given-rounds
