-- `write_runs` tells a run a turn, from one run's beginning to the next.
use Rattle.vectors.proofs.Lines.{told_none, told_more}
use Rattle.vectors.proofs.inner.runs.write_runs.Goals as goal

pub loop-at-init : goal.loop-at-init
loop-at-init g c = told_none _

pub loop-at-preserved : goal.loop-at-preserved
loop-at-preserved g c = told_more c.loop-at.invariant c.run_end-end.ensures
