use Rattle.cosim_assembly.proofs.assembly.image_of_bytes.Goals as goal

pub returns-in-Ok : goal.returns-in-Ok
returns-in-Ok c = rw c.in-Ok.ensures.cases.0 at c.image_of_text.ensures
