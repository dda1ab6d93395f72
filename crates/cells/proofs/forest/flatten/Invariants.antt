-- `flatten` leaves every number at its root: lower ones point at theirs already, so one step up from a number's parent is its root.
use Rattle.cells.specs.inner.Forest.{Flat}
use Rattle.cells.proofs.forest.flatten.Given as goal

abbrev pub invariant-loop-j : goal.invariant-loop-j
invariant-loop-j l = Flat l.initial.p l.j l.p
