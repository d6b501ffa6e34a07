use Rattle.std.proofs.Common.{◌+◌, ◌%◌, refl, sym, ap, ◌∙◌}
use Rattle.cos_schedules.specs.Schedules.{following, drawn}
use Rattle.cosim_generator.specs.Programs.{after, drawn_bytes, program_after, image_of}
use Rattle.cosim_generator.proofs.Draws.{after-none, after-more, after-plus, after-two}
use Rattle.cosim_generator.proofs.machine.generate.Goals as goal

pub returns-clause-quantum : goal.returns-clause-quantum
returns-clause-quantum c =
    ap (λ d. 1 + d) c.below-quantum.ensures.drawn
    ∙ ap (λ x. 1 + drawn x % 500) (c.from.ensures ∙ sym (after-none c.args.number))

pub returns-clause-gap : goal.returns-clause-gap
returns-clause-gap c =
    let one = after-more 0 1 c.args.number refl ∙ ap following (after-none c.args.number) in
    ap (λ d. 1 + d) c.below-gap.ensures.drawn
    ∙ ap (λ x. 1 + drawn x % 200) (c.below-quantum.ensures.x ∙ ap following c.from.ensures ∙ sym one)

pub returns-clause-input : goal.returns-clause-input
returns-clause-input c =
    let two = after-two c.args.number _ _ _ c.from.ensures c.below-quantum.ensures.x c.below-gap.ensures.x in
    c.fill.ensures.bytes ∙ ap (drawn_bytes 64) two

pub returns-clause-image : goal.returns-clause-image
returns-clause-image c =
    let two = after-two c.args.number _ _ _ c.from.ensures c.below-quantum.ensures.x c.below-gap.ensures.x in
    let all = c.fill.ensures.x ∙ ap (after 64) two ∙ after-plus 64 2 66 c.args.number refl in
    c.in_ok-image.ensures ∙ ap (λ x. image_of (program_after x)) all
