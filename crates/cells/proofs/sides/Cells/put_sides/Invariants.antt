-- `put_sides`: each turn the table is longer by the next side of the cell.
use Prim.Native.Nat.{◌+◌, ◌*◌}
use mathlib.Core.List.{List}
use Prim.Native.Nat.{ℕ}
use Rattle.cells.specs.inner.Sides.{Tabled}
use Rattle.cells.proofs.sides.Cells.put_sides.Given as goal

abbrev pub invariant-loop-i : goal.invariant-loop-i
invariant-loop-i l = (xs : List ℕ) → Tabled l.self.size l.self.corners.now l.self.count xs l.initial.work (l.self.size * l.q) → Tabled l.self.size l.self.corners.now l.self.count xs l.work (l.self.size * l.q + l.i)
