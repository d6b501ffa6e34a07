use Rattle.std.proofs.Common.{arith}
use Rattle.rp_packet.specs.Reading.{Judges}
use Rattle.rp_packet.specs.JudgingLaws.{judged-body, judged-header, judged-exact, judged-refused}
use Rattle.rp_packet.proofs.canonical.is_canonical.Goals as goal

judged : (c : goal.After-judge_body) → Judges c.args.bytes.now c.judge_body.result
judged c =
    judged-body c.args.bytes.now c.split_at.result.1.now c.in-Ok.header c.judge_body.result (record { each = λ i. omega (arith, c.type_inv.bytes i) }) c.requires
    c.in-Ok.ensures.lawful c.in-Ok.ensures.at c.split_at.ensures.back c.judge_body.ensures.lawful c.judge_body.ensures.tight c.judge_body.ensures.refused

pub returns-in-Ok-clause-judged : goal.returns-in-Ok-clause-judged
returns-in-Ok-clause-judged c = judged c

pub returns-in-Ok-clause-exact : goal.returns-in-Ok-clause-exact
returns-in-Ok-clause-exact c = judged-exact c.args.bytes.now c.judge_body.result (judged c)

pub returns-in-Ok-clause-refused : goal.returns-in-Ok-clause-refused
returns-in-Ok-clause-refused c = judged-refused c.args.bytes.now c.judge_body.result (judged c)

pub returns-in-Err-clause-judged : goal.returns-in-Err-clause-judged
returns-in-Err-clause-judged c = judged-header c.args.bytes.now c.in-Err.fault c.requires c.in-Err.ensures.refused

pub returns-in-Err-clause-refused : goal.returns-in-Err-clause-refused
returns-in-Err-clause-refused c = judged-refused c.args.bytes.now _ (judged-header c.args.bytes.now c.in-Err.fault c.requires c.in-Err.ensures.refused)
