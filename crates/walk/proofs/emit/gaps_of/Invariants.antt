-- `gaps_of`: `holes` is the sum of the gaps after the first k - 1 records, each of at most 32,768 places.
use mathlib.Core.Path.{◌≡◌}
use Prim.Native.Nat.{max, ◌*◌, ◌-◌, ◌≤◌}
use Rattle.cells.specs.Sums.{total}
use Rattle.walk.specs.inner.Rows.{gap_after}
use Rattle.walk.proofs.emit.gaps_of.Given as goal

abbrev pub invariant-loop-k : goal.invariant-loop-k
invariant-loop-k l = (l.k ≤ max 1 l.run.count) × (l.holes ≡ total (gap_after l.work l.run) (l.k - 1)) × (l.holes ≤ 32768 * (l.k - 1))
