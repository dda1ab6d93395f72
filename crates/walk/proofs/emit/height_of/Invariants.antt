-- `height_of`: `high` is the height of the first k entries.
use mathlib.Core.Path.{◌≡◌}
use Prim.Native.Nat.{◌≤◌}
use Rattle.cells.specs.Holes.{height}
use Rattle.walk.specs.inner.Emitted.{least_x, entries_to}
use Rattle.walk.proofs.emit.height_of.Given as goal

abbrev pub invariant-loop-k : goal.invariant-loop-k
invariant-loop-k l = (l.high ≡ height (entries_to l.work l.run.at (least_x l.work l.run) l.y l.k)) × (l.high ≤ 32768)
