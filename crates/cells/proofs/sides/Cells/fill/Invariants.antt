-- `fill`: each turn the table is longer by the sides of the next cell.
use Prim.Native.Nat.{◌*◌}
use Rattle.cells.specs.inner.Sides.{Tabled}
use Rattle.cells.proofs.sides.Cells.fill.Given as goal

abbrev pub invariant-loop-q : goal.invariant-loop-q
invariant-loop-q l = Tabled l.self.size l.self.corners.now l.self.count l.initial.work l.work (l.self.size * l.q)
