use Rattle.std.proofs.Common.{ap, ◌∙◌, ◌++◌}
use Rattle.cosim_model.specs.Sessions.{answer_of}
use Rattle.rp_busaccess.specs.Bits.{fields_of}
use Rattle.rp_packet.specs.Spelling.{packet_bytes}
use Rattle.end_answers.proofs.Padding.{refused-zeros}
use Rattle.end_answers.proofs.answers.refuse_read.Goals as goal

pub returns-then-asked-le-MOST_ZEROS-clause-bytes :
    goal.returns-then-asked-le-MOST_ZEROS-clause-bytes
returns-then-asked-le-MOST_ZEROS-clause-bytes c =
    c.refuse_by_zeros.ensures.bytes
    ∙ ap (λ b. c.args.out.now.bytes ++ packet_bytes (answer_of c.args.ticket b))
    (refused-zeros (fields_of c.args.asked.now) c.if-asked-le-MOST_ZEROS.true)
