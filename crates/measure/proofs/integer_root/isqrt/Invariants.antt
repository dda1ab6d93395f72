-- `isqrt` is the integer root. The guess never falls below the root, and a guess whose square is above n falls.
use Prim.Native.Nat.{◌≤◌, ◌<◌, ◌+◌, ◌*◌}
use Rattle.measure.proofs.integer_root.isqrt.Given as goal

abbrev pub invariant-loop-r : goal.invariant-loop-r
invariant-loop-r l = (l.n < (l.r + 1) * (l.r + 1)) × (l.r ≤ 33554432)

abbrev pub decreases-loop-r : goal.decreases-loop-r
decreases-loop-r l = l.r
