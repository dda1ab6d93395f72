-- `mark_skewed` sweeps the marks: what it reads of a quad is as it was.
use Rattle.words.specs.inner.Regions.{Filled}
use Rattle.filter.specs.inner.Steps.{skew_mark}
use Rattle.filter.proofs.checked.Checked.mark_skewed.Given as goal

abbrev pub invariant-loop-q : goal.invariant-loop-q
invariant-loop-q l = Filled l.initial.work l.work 0 l.q l.q (skew_mark l.self.params.ratio l.initial.work l.n)
