-- `tell_runs`: the places so far are told, and the run that began last goes on.
use native.Mathlib.Omega.{arith}
use Rattle.fates.proofs.RunStarts.{begins, told_more, same_number, started_same}
use Rattle.fates.proofs.prepare.tell_runs.Goals as goal

pub loop-i-preserved : goal.loop-i-preserved
loop-i-preserved c =
    let l = c.loop-i in
    let h = c.loop-i-test.true in
    let b = begins _ l.invariant.0 (c.requires.ascends l.f l.i l.invariant.0.le h) (started_same l.invariant.1 h (omega (arith, h, l.invariant.0.le)) c.run_start-f.ensures) in
    (b.1, told_more _ _ c.requires l.invariant.1 h (same_number l.invariant.1 l.i h) b.0)
