-- `made` is how many of the triangles below `from` make a quad.
use Prim.Native.Nat.{◌-◌, ◌≤◌}
use mathlib.Core.Path.{◌≡◌}
use Rattle.quads.specs.Merge.{triangle_count, mesh_of}
use Rattle.quads.specs.inner.Merging.{count_to}
use Rattle.quads.proofs.inner.count_quads.Given as goal

abbrev pub invariant-loop-t : goal.invariant-loop-t
invariant-loop-t l = (l.from ≤ triangle_count (mesh_of l.mesh)) × (l.made ≡ count_to (mesh_of l.mesh) l.from)

abbrev pub decreases-loop-t : goal.decreases-loop-t
decreases-loop-t l = triangle_count (mesh_of l.mesh) - l.from
