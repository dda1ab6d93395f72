-- `fill`: each turn the table is longer by the sides of the next cell.
use mathlib.Core.Path.{◌≡◌}
use native.Mathlib.Omega.{arith}
use Rattle.cells.proofs.sides.Cells.fill.Goals as goal

pub returns : goal.returns
returns c =
    let e : c.loop-q.q ≡ c.args.self.count = omega arith in
    rw e at c.loop-q.invariant
