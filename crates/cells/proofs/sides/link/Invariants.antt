-- `link`: each turn takes one pair of neighbours more; with m records there are m - 1 pairs.
use Rattle.cells.specs.inner.Sides.{United}
use Rattle.cells.proofs.sides.link.Given as goal

abbrev pub invariant-loop-h : goal.invariant-loop-h
invariant-loop-h l = United l.n l.h l.initial.work l.work
