-- `find` ends at the root above x: each number passed is lower than the one before it, and moving its pointer up keeps the classes.
use Rattle.cells.proofs.Parents.{Climbed}
use Rattle.cells.proofs.forest.find.Given as goal

abbrev pub invariant-climb : goal.invariant-climb
invariant-climb l = Climbed l.initial.p l.p l.x l.at l.up

abbrev pub decreases-climb : goal.decreases-climb
decreases-climb l = l.at
