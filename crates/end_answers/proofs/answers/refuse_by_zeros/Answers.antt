use Rattle.std.proofs.Common.{ap, ◌∙◌, ◌++◌}
use Rattle.std.proofs.lemmas.List.{take-replicate}
use Rattle.cosim_model.specs.Sessions.{answer_of}
use Rattle.rp_busaccess.specs.Bits.{fields_of}
use Rattle.rp_packet.specs.Spelling.{packet_bytes}
use Rattle.end_answers.proofs.Padding.{zeros-sent}
use Rattle.end_answers.proofs.answers.refuse_by_zeros.Goals as goal

pub returns-clause-bytes : goal.returns-clause-bytes
returns-clause-bytes c =
    c.put_read_answer.ensures.bytes
    ∙ ap (λ b. c.args.out.now.bytes ++ packet_bytes (answer_of c.args.ticket b))
    (zeros-sent (fields_of c.args.asked.now) _ (take-replicate c.args.asked.now.len 4096 0 c.requires.few))
