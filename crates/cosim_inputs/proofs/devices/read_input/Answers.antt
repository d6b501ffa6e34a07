use Rattle.cosim_inputs.specs.Inputs.{AsInput}
use Rattle.cosim_inputs.proofs.devices.read_input.Goals as goal

pub returns-in-Err-clause-err : goal.returns-in-Err-clause-err
returns-in-Err-clause-err g c = rw c.in-Some.is (c.in-Err.ensures.err (AsInput c.args.port))

pub returns-in-Err-clause-is_sound : goal.returns-in-Err-clause-is_sound
returns-in-Err-clause-is_sound g c = rw c.in-Some.is (λ sound. let both = c.in-Err.ensures.is_sound sound in (both.0, both.1 (AsInput c.args.port)))
