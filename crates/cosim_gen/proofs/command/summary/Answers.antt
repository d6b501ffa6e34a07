use Rattle.cosim_gen.proofs.Ending.{summary-comes}
use Rattle.cosim_gen.proofs.command.summary.Goals as goal

pub returns : goal.returns
returns c =
    let finished = c.in_ok-finished.ensures in
    summary-comes c.args.number c.in_ok-finished.finished c.make_summary.result finished.ends finished.calls
    finished.text c.make_summary.ensures
