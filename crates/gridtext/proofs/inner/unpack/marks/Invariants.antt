-- `marks` takes the two marks of every eight words.
use mathlib.Core.Path.{◌≡◌}
use mathlib.Core.List.{◌++◌}
use Prim.Native.Nat.{ℕ, ◌*◌}
use lib.ListN.{get_or, drop, replicate}
use Rattle.words.specs.Listing.{listing}
use Rattle.gridtext.specs.Text.{most_corner_lines}
use Rattle.gridtext.specs.inner.Unpacked.{slot_at}
use Rattle.gridtext.proofs.inner.unpack.marks.Given as goal

abbrev pub invariant-loop-t : goal.invariant-loop-t
invariant-loop-t l = l.out ≡ listing l.t (λ (k : ℕ). get_or l.corners (slot_at 3 k) 0) ++ drop l.t (replicate (2 * most_corner_lines) 0)
