-- `label_components` is allowed: the rows, then the labelling, then the counts, then what follows them.
use mathlib.Core.Path.{sym, ◌∙◌}
use Rattle.std.proofs.lemmas.Result.{err_from_is_err_and}
use native.Mathlib.Omega.{arith}
use Rattle.walk.specs.Input.{Input}
use Rattle.walk.proofs.Outcomes.{shut, Entered, may_compute, may_emit, emitted}
use Rattle.walk.proofs.label_components.Goals as goal
use Rattle.walk.proofs.label_components.Goals.{After-span_of-span}

abbrev read : After-span_of-span → Input
read s = record { quads = s.args.quads.now; corners = s.args.corners; params = s.args.params }

-- where the rows are open
entered : (c : After-span_of-span) → Entered (read c) c.args.work.now c.span_of-span.result
entered c = record { through = sym (c.entry.ensures c.args.params) ∙ c.in_ok-entry.was; spanned = c.span_of-span.ensures }

pub returns-in_err-entry : goal.returns-in_err-entry
returns-in_err-entry c =
    let p = err_from_is_err_and c.from_residual.result c.from_residual.ensures.1 in
    rw (p.1, p.2) (shut _ _ _ _ _ _ (c.entry.ensures c.args.params) c.in_err-entry.was)

pub invariant_of-sheet : goal.invariant_of-sheet
invariant_of-sheet c = record { given = (may_compute (entered (goal.at.invariant_of-sheet c).After-span_of-span)).0 }

pub compute-requires : goal.compute-requires
compute-requires c = omega (arith, (may_compute (entered (goal.at.compute-requires c).After-span_of-span)).1)

pub count_components-totals-requires : goal.count_components-totals-requires
count_components-totals-requires c = may_emit (entered (goal.at.count_components-totals-requires c).After-span_of-span) c.compute.ensures

pub write_components-requires : goal.write_components-requires
write_components-requires c = record { writable = may_emit (entered (goal.at.write_components-requires c).After-span_of-span) c.compute.ensures; counted = c.count_components-totals.ensures }

pub returns : goal.returns
returns c = emitted (entered (goal.at.returns c).After-span_of-span) c.compute.ensures _ _ _ c.write_components.ensures
