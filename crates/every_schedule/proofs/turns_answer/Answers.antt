use Rattle.every_schedule.proofs.Found.{run_answers}
use Rattle.every_schedule.proofs.turns_answer.Goals as goal

pub returns : goal.returns
returns g c plan m ports reach x turns h sent run whole = run_answers g.M.System.master g.met.M.System.master_laws g.M.System.device g.M.System.codec plan ports m reach x turns h sent run whole
