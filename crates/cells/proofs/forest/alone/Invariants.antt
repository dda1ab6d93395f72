-- `alone` leaves every number its own root: after each turn one more points at itself.
use lib.ListN.{length}
use Rattle.cells.specs.inner.Forest.{Alone}
use Rattle.cells.proofs.forest.alone.Given as goal

abbrev pub invariant-loop-i : goal.invariant-loop-i
invariant-loop-i l = Alone (length l.initial.p) l.i l.p
