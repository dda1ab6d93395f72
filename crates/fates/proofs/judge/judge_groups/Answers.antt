-- `judge_groups`: the quads below s are judged, and the runs of quad s begin at i and j.
use mathlib.Core.Path.{◌≡◌}
use native.Mathlib.Omega.{arith}
use Rattle.fates.proofs.Stretches.{cursor_next}
use Rattle.fates.proofs.Verdicts.{all_back, lone_back, judges_more}
use Rattle.fates.proofs.judge.judge_groups.Goals as goal

pub loop-s-preserved : goal.loop-s-preserved
loop-s-preserved c =
    let p = c.requires in
    let l = c.loop-s in
    let r = c.run_end-after.ensures in
    let t = c.run_end-lone_after.ensures in (
      judges_more _ _ _ _ _ _ p _ _ l.invariant.0 (omega arith) _ _ _ _ r t _ c.judge_quad.ensures,
      cursor_next (all_back _ _ _ _ _ _ p _ _ l.invariant.0 (omega arith) r),
      cursor_next (lone_back _ _ _ _ _ _ p _ _ l.invariant.0 (omega arith) t),
    )

pub returns : goal.returns
returns c =
    let l = c.loop-s in
    let e : l.s ≡ c.args.n = omega arith in
    rw e at l.invariant.0
