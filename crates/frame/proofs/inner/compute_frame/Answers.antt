-- `compute_frame`: the quads kept, at the front of their list, are what labelling reads; what it leaves can be counted.
use native.Mathlib.Omega.{arith}
use Rattle.frame.specs.Stages.{Input, given}
use Rattle.frame.proofs.Fronts.{front_counted, front_in}
use Rattle.frame.proofs.Judging.{few_kept, fates_ask, fated}
use Rattle.frame.proofs.Outcomes.{may_emit}
use Rattle.frame.proofs.inner.compute_frame.Goals as goal
use Rattle.frame.proofs.inner.compute_frame.Goals.{Start}

abbrev read : Start → Input
read s = given s.args.frame s.args.params

pub overflow_mul-quads : goal.overflow_mul-quads
overflow_mul-quads c = omega (arith, few_kept (read (goal.at.overflow_mul-quads c).Start) _ _ c.quads_of-n.ensures.0 _ c.requires)

pub slice_bounds-quads-end : goal.slice_bounds-quads-end
slice_bounds-quads-end c = let q = c.quads_of-n.ensures.0 in front_in _ _ _ q.count q.front

pub slice_bounds-sheet-end : goal.slice_bounds-sheet-end
slice_bounds-sheet-end c = let q = c.quads_of-n.ensures.0 in front_counted _ _ _ q.count q.front

pub invariant_of-sheet : goal.invariant_of-sheet
invariant_of-sheet c =
    let q = c.quads_of-n.ensures in
    record { given = (fates_ask (read (goal.at.invariant_of-sheet c).Start) _ _ q.0 _ c.requires _ _ c.span_of-span.ensures q.1).0 }

pub compute-requires : goal.compute-requires
compute-requires c =
    let q = c.quads_of-n.ensures in
    (fates_ask (read (goal.at.compute-requires c).Start) _ _ q.0 _ c.requires _ _ c.span_of-span.ensures q.1).1

pub count_components-requires : goal.count_components-requires
count_components-requires c =
    let q = c.quads_of-n.ensures in
    let spanned = c.span_of-span.ensures in
    may_emit (read (goal.at.count_components-requires c).Start) c.args.work.now _ _ _ c.requires (fated (read (goal.at.count_components-requires c).Start) _ _ q.0 _ _ _ _ spanned q.1 c.compute.ensures) spanned

pub returns : goal.returns
returns c =
    let q = c.quads_of-n.ensures in
    let spanned = c.span_of-span.ensures in
    record { fated = fated (read (goal.at.returns c).Start) _ _ q.0 _ _ _ _ spanned q.1 c.compute.ensures; counted_fates = rw (← spanned) c.count_components.ensures }
