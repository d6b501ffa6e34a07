use Rattle.cos_script.proofs.Fits.{script-fits}
use Rattle.cos_script.proofs.master.ScriptMaster.make.Goals as goal

pub invariant_of-result : goal.invariant_of-result
invariant_of-result c = script-fits c.args.ports c.as_bytes.result.now c.in_ok-steps.steps.items c.in_ok-steps.ensures
