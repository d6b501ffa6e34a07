use Rattle.shipped_runs.proofs.Fitting.{judged-fits, same-devices}
use Rattle.shipped_runs.proofs.shipped_parts_fit.Goals as goal

pub returns-clause-devices : goal.returns-clause-devices
returns-clause-devices c = same-devices

pub returns-clause-fit : goal.returns-clause-fit
returns-clause-fit c = judged-fits
