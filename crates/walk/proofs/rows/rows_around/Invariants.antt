-- `rows_around`: `count` is how many of the rows before `row` have records on both sides.
use mathlib.Core.Path.{◌≡◌}
use Prim.Native.Nat.{ℕ, ◌+◌, ◌-◌, ◌≤◌, max}
use lib.ListN.{get_or}
use Rattle.cells.specs.Sums.{how_many}
use Rattle.walk.specs.inner.Rows.{tells_around}
use Rattle.walk.proofs.rows.rows_around.Given as goal

abbrev pub invariant-loop-row : goal.invariant-loop-row
invariant-loop-row l = (l.row ≤ max l.from l.to) × (l.count ≡ how_many (λ (j : ℕ). tells_around (get_or l.work (l.from + j) 0) l.x) (l.row - l.from)) × (l.count ≤ l.row - l.from)
