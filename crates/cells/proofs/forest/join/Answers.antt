-- `join` hangs the higher of the two roots on the lower, so the two classes are one and every number still points at itself or lower.
use Rattle.cells.proofs.Parents.{join_up, join_down}
use Rattle.cells.proofs.forest.join.Goals as goal

pub returns-then-ra-rb : goal.returns-then-ra-rb
returns-then-ra-rb c = join_up c.find-ra.ensures c.find-rb.ensures c.requires.a_in_bounds.1 c.if-ra-rb.true

pub returns-else-ra-rb : goal.returns-else-ra-rb
returns-else-ra-rb c = join_down c.find-ra.ensures c.find-rb.ensures c.requires.a_in_bounds.0 c.if-ra-rb.false
