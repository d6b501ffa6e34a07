use Rattle.std.proofs.Common.{take, drop, ap, ◌∙◌, arith}
use Rattle.histories.proofs.Merges.{few-before}
use Rattle.histories.proofs.Loops.{merging-begins, merging-more, merging-ends}
use Rattle.histories.proofs.merging.merged.Goals as goal

pub boundaries-init : goal.boundaries-init
boundaries-init c =
    merging-begins c.args.plan c.args.ticks c.args.calls.now.calls c.requires c.make-moments.result c.as_slice-rest.result.now
    c.make-moments.ensures c.as_slice-rest.ensures

pub split_at-requires : goal.split_at-requires
split_at-requires c = omega (arith, c.calls_before.ensures, few-before c.boundary_after-tick.result c.boundaries.rest.now)

pub boundaries-preserved : goal.boundaries-preserved
boundaries-preserved c =
    merging-more c.args.plan c.args.ticks c.args.calls.now.calls c.requires c.boundaries.tick _ c.boundaries.moments _ c.boundaries.rest.now _ _
    (omega arith) c.boundary_after-tick.ensures
    (c.split_at.ensures.front ∙ ap (λ n. take n c.boundaries.rest.now) c.calls_before.ensures)
    (c.split_at.ensures.back ∙ ap (λ n. drop n c.boundaries.rest.now) c.calls_before.ensures)
    c.in_ok-push_part.ensures c.boundaries.invariant

pub returns : goal.returns
returns c =
    merging-ends c.args.plan c.args.ticks c.args.calls.now.calls c.requires c.boundaries.tick c.boundary_after-tick.result c.boundaries.moments _ _ c.boundaries.rest.now _ _
    (omega arith) c.boundary_after-tick.ensures
    (c.split_at.ensures.front ∙ ap (λ n. take n c.boundaries.rest.now) c.calls_before.ensures)
    (c.split_at.ensures.back ∙ ap (λ n. drop n c.boundaries.rest.now) c.calls_before.ensures)
    c.in_ok-push_part.ensures c.in_ok-push_calls.ensures c.boundaries.invariant
