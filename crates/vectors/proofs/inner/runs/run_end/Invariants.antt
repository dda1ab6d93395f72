-- What was passed is the same word.
use Rattle.vectors.proofs.Lines.{Passed}
use Rattle.vectors.proofs.inner.runs.run_end.Given as goal

abbrev pub invariant-loop-i : goal.invariant-loop-i
invariant-loop-i l = Passed l.list l.from l.i
