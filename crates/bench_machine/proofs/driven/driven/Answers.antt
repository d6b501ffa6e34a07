use Rattle.bench_machine.proofs.Links.{same-fresh}
use Rattle.bench_machine.proofs.driven.driven.Goals as goal

pub drive-requires-clause-unused : goal.drive-requires-clause-unused
drive-requires-clause-unused c =
    same-fresh _ c.deref_mut.result.now c.in-Ok.links.items c.deref_mut.ensures.value c.in-Ok.ensures.unused
