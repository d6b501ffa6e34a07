use Rattle.cosim_inputs.proofs.Judged.{judges, judged-within, judged-served, gives-ok, gives-err}
use Rattle.cosim_inputs.proofs.config.judge_text.Goals as goal

pub returns-clause-ok : goal.returns-clause-ok
returns-clause-ok c = gives-ok _ _ (judges c.args.sockets c.args.bytes.now c.judge.result c.judge.ensures.toml c.judge.ensures.ok c.judge.ensures.other)

pub returns-clause-err : goal.returns-clause-err
returns-clause-err c = gives-err _ _ (judges c.args.sockets c.args.bytes.now c.judge.result c.judge.ensures.toml c.judge.ensures.ok c.judge.ensures.other)

pub returns-clause-limits : goal.returns-clause-limits
returns-clause-limits c = judged-within c.args.sockets c.args.bytes.now c.judge.result c.judge.ensures.toml c.judge.ensures.ok

pub returns-clause-served : goal.returns-clause-served
returns-clause-served c = judged-served c.args.sockets c.args.bytes.now c.judge.result c.judge.ensures.toml c.judge.ensures.ok
