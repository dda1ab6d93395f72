-- None of the triangles passed makes a quad.
use Rattle.std.specs.Prelude.{None}
use mathlib.Core.Path.{◌≡◌}
use Rattle.quads.specs.Merge.{mesh_of}
use Rattle.quads.specs.inner.Merging.{Passed}
use Rattle.quads.proofs.pair.next_pair.Given as goal

abbrev pub invariant-pairs : goal.invariant-pairs
invariant-pairs l = (l.found ≡ None) × Passed (mesh_of l.mesh) l.from l.t
