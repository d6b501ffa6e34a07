use Rattle.std.proofs.Common.{◌≡◌, ◌++◌, ◌∷◌, Some, decimal, sym, ap, ap₂, ◌∙◌, arith}
use Rattle.std.specs.Prelude.{option_copied}
use Rattle.std.proofs.lemmas.Option.{none-some, same_Some}
use Rattle.cos_text.specs.Lines.{after}
use Rattle.cos_schedules.specs.declared.step.Step.TheVariants.{Deliver}
use Rattle.cos_schedules.specs.Texts.{delivery_name}
use Rattle.cos_schedules.proofs.Texts.{joined, delivery-of}
use Rattle.cos_schedules.proofs.line.delivery.Goals as goal

pub returns-in_err-rest-clause-exact : goal.returns-in_err-rest-clause-exact
returns-in_err-rest-clause-exact c = λ s is.
    let d = delivery-of c.args.ports c.args.way c.args.text.now s (omega arith) is in
    absurd (none-some (decimal d.count) (ap option_copied (sym (c.in_err-rest.was)) ∙ c.cut.ensures.back ∙ d.back))

pub returns-in_err-port-clause-exact : goal.returns-in_err-port-clause-exact
returns-in_err-port-clause-exact c = λ s is.
    let d = delivery-of c.args.ports c.args.way c.args.text.now s (omega arith) is in
    absurd (none-some d.port (c.in_err-port.ensures.exact d.port d.port_fits (c.cut.ensures.front ∙ d.front)))

pub returns-in_err-count-clause-exact : goal.returns-in_err-count-clause-exact
returns-in_err-count-clause-exact c = λ s is.
    let d = delivery-of c.args.ports c.args.way c.args.text.now s (omega arith) is in
    let back = ap option_copied (sym (c.in_ok-rest.was)) ∙ c.cut.ensures.back ∙ d.back in
    let text = same_Some c.in_ok-rest.rest.now (decimal d.count) back in
    absurd (none-some d.count (c.in_err-count.ensures.exact d.count d.count_fits text))

pub returns-clause-some : goal.returns-clause-some
returns-clause-some c =
    let rest = c.in_ok-rest.rest.now in
    let back : after 32 c.args.text.now ≡ Some rest = sym c.cut.ensures.back ∙ ap option_copied (c.in_ok-rest.was) in
    let port = sym c.cut.ensures.front ∙ c.in_ok-port.ensures.some.0 in
    let text = joined c.args.text.now rest back ∙ ap₂ (λ w r. w ++ 32 ∷ r) port c.in_ok-count.ensures.some in
    (ap (λ t. delivery_name c.args.way ++ t) text, (c.in_ok-port.ensures.some.1, omega arith))

pub returns-clause-exact : goal.returns-clause-exact
returns-clause-exact c = λ s is.
    let d = delivery-of c.args.ports c.args.way c.args.text.now s (omega arith) is in
    let front = c.cut.ensures.front ∙ d.front in
    let back = ap option_copied (sym (c.in_ok-rest.was)) ∙ c.cut.ensures.back ∙ d.back in
    let text = same_Some c.in_ok-rest.rest.now (decimal d.count) back in
    let port = same_Some c.in_ok-port.port d.port (c.in_ok-port.ensures.exact d.port d.port_fits front) in
    let count = same_Some c.in_ok-count.count d.count (c.in_ok-count.ensures.exact d.count d.count_fits text) in
    ap Some (ap₂ (λ x y. Deliver x c.args.way y) port count ∙ sym d.step_is)
