use Rattle.cosim_inputs.specs.Inputs.{AsImage}
use Rattle.cosim_inputs.proofs.master.read_ram.Goals as goal

pub returns-in-Err-read_named-clause-err : goal.returns-in-Err-read_named-clause-err
returns-in-Err-read_named-clause-err g c = rw c.in-Some.is (c.in-Err-read_named.ensures.err (AsImage c.args.config.now.ram))

pub returns-in-Err-read_named-clause-is_sound : goal.returns-in-Err-read_named-clause-is_sound
returns-in-Err-read_named-clause-is_sound g c = rw c.in-Some.is (λ sound. let both = c.in-Err-read_named.ensures.is_sound sound in (both.0, both.1 (AsImage c.args.config.now.ram)))
