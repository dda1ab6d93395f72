-- Each turn tells a run, from one run's beginning to the next.
use Rattle.std.proofs.Common.{◌-◌, length}
use Rattle.vectors.proofs.Lines.{Told}
use Rattle.vectors.proofs.inner.runs.write_runs.Given as goal

abbrev pub invariant-loop-at : goal.invariant-loop-at
invariant-loop-at g l = Told l.list l.runs l.at

abbrev pub decreases-loop-at : goal.decreases-loop-at
decreases-loop-at g l = length l.list - l.at
