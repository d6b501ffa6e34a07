use Rattle.std.proofs.Common.{arith}
use Rattle.rp_packet.specs.PacketLaws.{Answers, read-answers, answer-ok, answer-malformed, answer-exact, answer-refused, fault-memory, early-fault, fault-same}
use Rattle.rp_packet.proofs.packet.Packet.read.Goals as goal

answers : (c : goal.After-read_body) → Answers c.args.bytes.now c.read_body.result
answers c =
    read-answers c.args.bytes.now c.split_at.result.1.now c.in-Ok.header c.read_body.result (record { each = λ i. omega (arith, c.type_inv.bytes i) }) c.requires
    c.in-Ok.ensures.lawful c.in-Ok.ensures.at c.split_at.ensures.back c.read_body.ensures.id c.read_body.ensures.flags c.read_body.ensures.dev c.read_body.ensures.command
    c.read_body.ensures.means c.read_body.ensures.refused

pub returns-in-Ok-clause-ok : goal.returns-in-Ok-clause-ok
returns-in-Ok-clause-ok c = answer-ok c.args.bytes.now c.read_body.result (answers c)

pub returns-in-Ok-clause-malformed : goal.returns-in-Ok-clause-malformed
returns-in-Ok-clause-malformed c = answer-malformed c.args.bytes.now c.read_body.result (answers c)

pub returns-in-Ok-clause-exact : goal.returns-in-Ok-clause-exact
returns-in-Ok-clause-exact c = answer-exact c.args.bytes.now c.read_body.result (answers c)

pub returns-in-Ok-clause-refused : goal.returns-in-Ok-clause-refused
returns-in-Ok-clause-refused c = answer-refused c.args.bytes.now c.read_body.result (answers c)

pub returns-in-Err-clause-exact : goal.returns-in-Err-clause-exact
returns-in-Err-clause-exact c = λ v is. fault-memory v c.args.bytes.now c.in-Err.fault is (early-fault c.args.bytes.now c.in-Err.fault c.requires c.in-Err.ensures.refused)

pub returns-in-Err-clause-malformed : goal.returns-in-Err-clause-malformed
returns-in-Err-clause-malformed c = early-fault c.args.bytes.now c.in-Err.fault c.requires c.in-Err.ensures.refused

pub returns-in-Err-clause-refused : goal.returns-in-Err-clause-refused
returns-in-Err-clause-refused c = λ place cause bad.
    fault-same c.args.bytes.now c.in-Err.fault place cause (early-fault c.args.bytes.now c.in-Err.fault c.requires c.in-Err.ensures.refused) bad
