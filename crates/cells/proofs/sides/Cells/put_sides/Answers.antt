-- `put_sides`: each turn the table is longer by the next side of the cell.
use mathlib.Core.Path.{refl}
use native.Mathlib.Omega.{arith}
use Rattle.cells.proofs.Tables.{tabled_more}
use Rattle.cells.proofs.sides.Cells.put_sides.Goals as goal

pub loop-i-preserved : goal.loop-i-preserved
loop-i-preserved c =
    λ xs t.
    let T = c.loop-i.invariant xs t in
    rw c.put.ensures (tabled_more _ _ _ _ _ _ _ _ _ T (omega arith) c.requires.has.0 (omega (arith, T.kept.len)) c.table_key-key.ensures refl _ (omega arith))
