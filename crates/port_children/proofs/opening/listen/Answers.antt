use Rattle.port_children.proofs.Parts.{listen-failed}
use Rattle.port_children.proofs.opening.listen.Goals as goal

pub returns-in-Err-Failed-clause-listens : goal.returns-in-Err-Failed-clause-listens
returns-in-Err-Failed-clause-listens g c =
    let failed = c.in-Err-Failed.field-0-is in
    listen-failed c.args.name.now _ _ _ _ _ (rw failed at c.in-Err-Failed.ensures.counts)
    (rw failed at c.in-Err-Failed.ensures.tells) c.faults.ensures
