-- `tell_runs`: the places so far are told, and the run that began last goes on.
use Rattle.laying.specs.inner.Layout.{key_at}
use Rattle.fates.specs.inner.Runs.{Told}
use Rattle.fates.proofs.RunStarts.{Ahead}
use Rattle.fates.proofs.prepare.tell_runs.Given as goal

abbrev pub invariant-loop-i : goal.invariant-loop-i
invariant-loop-i l = Ahead (key_at l.span l.initial.work) l.f l.i × Told l.span l.n l.initial.work l.work l.i
