-- `triples` takes three words of every six.
use mathlib.Core.Path.{◌≡◌}
use mathlib.Core.List.{◌++◌}
use Prim.Native.Nat.{ℕ, ◌*◌}
use lib.ListN.{get_or, drop, replicate}
use Rattle.words.specs.Listing.{listing}
use Rattle.gridtext.specs.Text.{most_triangle_lines}
use Rattle.gridtext.specs.inner.Unpacked.{triple_at}
use Rattle.gridtext.proofs.inner.unpack.triples.Given as goal

abbrev pub invariant-loop-t : goal.invariant-loop-t
invariant-loop-t l = l.out ≡ listing l.t (λ (k : ℕ). get_or l.triangles (triple_at l.start k) 0) ++ drop l.t (replicate (3 * most_triangle_lines) 0)
