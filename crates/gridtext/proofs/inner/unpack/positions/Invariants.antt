-- `positions` takes one word of every eight, as a float.
use mathlib.Core.Path.{◌≡◌}
use mathlib.Core.List.{◌++◌}
use Prim.Native.Nat.{ℕ}
use lib.ListN.{get_or, drop, replicate}
use Rattle.words.specs.Listing.{listing}
use Rattle.measure.specs.Float.{bits}
use Rattle.gridtext.specs.Text.{most_corner_lines}
use Rattle.gridtext.specs.inner.Unpacked.{position_at}
use Rattle.gridtext.proofs.inner.unpack.positions.Given as goal

abbrev pub invariant-loop-t : goal.invariant-loop-t
invariant-loop-t l = l.out ≡ listing l.t (λ (k : ℕ). bits (get_or l.corners (position_at l.start k) 0)) ++ drop l.t (replicate most_corner_lines (bits 0))
