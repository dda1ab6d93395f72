-- `count_components`: after the quads below s, their components and entries are counted.
use Rattle.walk.proofs.Counting.{Counting}
use Rattle.walk.proofs.inner.count_components.Given as goal

abbrev pub invariant-loop-s : goal.invariant-loop-s
invariant-loop-s l = Counting l.work l.span l.n l.s l.totals.components l.totals.entries
