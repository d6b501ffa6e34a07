use Rattle.cosim_inputs.specs.Inputs.{AsDisk}
use Rattle.cosim_inputs.proofs.devices.read_image.Goals as goal

pub returns-in-Err-clause-err : goal.returns-in-Err-clause-err
returns-in-Err-clause-err g c = c.in-Err.ensures.err (AsDisk c.args.port)

pub returns-in-Err-clause-is_sound : goal.returns-in-Err-clause-is_sound
returns-in-Err-clause-is_sound g c = λ sound. let both = c.in-Err.ensures.is_sound sound in (both.0, both.1 (AsDisk c.args.port))
