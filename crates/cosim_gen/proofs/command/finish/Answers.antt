use Rattle.std.proofs.Common.{refl}
use Rattle.cosim_gen.proofs.Ending.{ends-so, calls-so, text-so}
use Rattle.cosim_gen.proofs.command.finish.Goals as goal

pub returns-clause-ends : goal.returns-clause-ends
returns-clause-ends c = ends-so _ c.args.number c.in_ok-parts.ensures.start c.run.result refl c.run.ensures.finished

pub returns-clause-calls : goal.returns-clause-calls
returns-clause-calls c = calls-so _ c.args.number c.in_ok-parts.ensures.start c.run.result c.run.ensures.finished

pub returns-clause-text : goal.returns-clause-text
returns-clause-text c =
    text-so _ c.args.number c.in_ok-parts.ensures.start c.run.result c.in_ok-parts.ensures.ports c.run.ensures.finished
