use Rattle.std.proofs.Common.{ap, ◌∙◌}
use Rattle.cosim_model.specs.Sessions.{or_else, flood}
use Rattle.rp_packet.specs.Values.{value_of}
use Rattle.rp_session.specs.Rows.{hello_rows, answer_rows}
use Rattle.rp_session.proofs.RowLaws.{rows-joined}
use Rattle.rp_session.proofs.session.Session.refusal.Goals as goal

pub returns : goal.returns
returns c =
    let s = c.args.self.now in
    let p = value_of c.args.packet.now in
    let answers = c.or_else-answers.ensures ∙ ap (λ a. or_else a c.request_refusal-requests.result) c.answer_refusal.ensures ∙ ap (or_else (answer_rows s p)) c.request_refusal-requests.ensures in
    let hellos = c.or_else-hellos.ensures ∙ ap (λ h. or_else h c.or_else-answers.result) c.hello_refusal.ensures ∙ ap (or_else (hello_rows s p)) answers in
    c.or_else.ensures ∙ ap (λ f. or_else f c.or_else-hellos.result) c.flood.ensures ∙ ap (or_else (flood s)) hellos ∙ rows-joined s p
